use Rattle.std.proofs.Common.{◌∷◌, ◌++◌, [], ◌∙◌, ap, map, length}
use Rattle.word_spec.specs.RowFiles.{from_to}
use Rattle.machine_spec.specs.StateText.{Layout}
use Rattle.seen_step.proofs.Lists.{all_mapped, next_mapped}
use Rattle.seen_step.proofs.values.registers.Goals as goal

pub loop-i-preserved : goal.loop-i-preserved
loop-i-preserved g c =
    next_mapped (g.M.State.View.view c.args.state.now).regs c.registers-first.result.0 c.loop-i.i c.registers-first.result.1 c.loop-i.out.items
    c.push.new.self.items _ c.loop-i-test.true (c.in_ok-push.ensures.items ∙ ap (λ v. c.loop-i.out.items ++ v ∷ []) c.reg.ensures) c.loop-i.invariant

pub returns : goal.returns
returns g c =
    let h = (g.M.State.View.view c.args.state.now).regs in
    all_mapped h c.registers-first.result.0 c.loop-i.i c.registers-first.result.1 c.loop-i.out.items _ c.loop-i-test.false c.loop-i.invariant
    ∙ ap (λ k. map h (from_to k c.registers-first.result.1)) (c.registers-first.ensures.first ∙ ap (λ (l : Layout). l.first) c.layout.ensures)
    ∙ ap (λ k. map h (from_to g.M.Machine.form.first k)) (c.registers-first.ensures.count ∙ ap (λ (l : Layout). length l.registers) c.layout.ensures)
