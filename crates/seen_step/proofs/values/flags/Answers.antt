use Rattle.std.proofs.Common.{◌∷◌, ◌++◌, [], ◌∙◌, ap, arith, map, length}
use Rattle.word_spec.specs.RowFiles.{from_to}
use Rattle.machine_spec.specs.StateText.{Layout}
use Rattle.seen_step.proofs.Lists.{all_at, next_at}
use Rattle.seen_step.proofs.values.flags.Goals as goal

pub flag-requires : goal.flag-requires
flag-requires g c =
    let few = g.met.M.Machine.fitted.few_flags in
    let count = c.flag_count-count.ensures ∙ ap (λ (l : Layout). length l.flags) c.layout.ensures in
    let below = c.loop-n-test.true in
    omega (arith, few, count, below)

pub loop-n-preserved : goal.loop-n-preserved
loop-n-preserved g c =
    next_at (g.M.State.View.view c.args.state.now).flags c.loop-n.n c.loop-n.n c.flag_count-count.result c.loop-n.out.items
    c.push.new.self.items _ c.loop-n-test.true (c.in_ok-push.ensures.items ∙ ap (λ v. c.loop-n.out.items ++ v ∷ []) c.flag.ensures) c.loop-n.invariant

pub returns : goal.returns
returns g c =
    let h = (g.M.State.View.view c.args.state.now).flags in
    all_at h c.loop-n.n c.loop-n.n c.flag_count-count.result c.loop-n.out.items _ c.loop-n-test.false c.loop-n.invariant
    ∙ ap (λ k. map h (from_to 0 k)) (c.flag_count-count.ensures ∙ ap (λ (l : Layout). length l.flags) c.layout.ensures)
