use Rattle.std.proofs.Common.{◌≡◌, ◌+◌, ℕ, List, length, sym, subst, arith, take}
use Rattle.std.proofs.lemmas.List.{get_or-map, length-map}
use Rattle.term_dag.specs.declared.nodes.Term.{Term}
use Rattle.term_dag.proofs.Growth.{grew_width}
use Rattle.term_names.specs.Choices.{places}
use Rattle.term_names.specs.Gifts.{AreGiven, IsGiven}
use Rattle.term_names.proofs.Choices.{wide_at}
use Rattle.term_names.proofs.Given.{more_given, none_given}
use Rattle.term_names.proofs.gifts.all_given.Goals as goal

pub loop-i-init : goal.loop-i-init
loop-i-init c =
    subst (λ (ts : List Term). AreGiven c.args.dag.now c.args.dag.now c.args.flag c.args.part c.args.set c.args.first 0 (places c.args.before.now) (places ts))
    (sym c.in_ok-terms.ensures.items)
    (none_given c.args.dag.now c.args.flag c.args.part c.args.set c.args.first (places c.args.before.now))

pub given-requires-clause-before : goal.given-requires-clause-before
given-requires-clause-before c =
    grew_width _ _ _ _ _ _ _ _ _ c.loop-i.invariant.grew (wide_at _ _ c.args.before.now c.loop-i.i (omega arith) c.requires.before)

pub loop-i-preserved : goal.loop-i-preserved
loop-i-preserved c =
    more_given c.args.dag.now c.loop-i.dag _ c.args.flag c.args.part c.args.set c.args.first c.loop-i.i (places c.args.before.now) c.loop-i.terms.items _ _
    c.in_ok-push.ensures.items c.requires.before (let m = length-map c.args.before.now (λ (t : Term). t.0) in omega (arith, m, c.loop-i-test.true))
    c.loop-i.invariant
    (subst (λ (v : ℕ). IsGiven c.loop-i.dag c.given.new.dag c.args.flag c.args.part c.args.set (c.args.first + c.loop-i.i) v c.in_ok-term.term.0)
    (sym (get_or-map (λ (t : Term). t.0) c.args.before.now c.loop-i.i (record { 0 = 0 }) 0 c.loop-i-test.true)) c.in_ok-term.ensures)

pub returns : goal.returns
returns c =
    let e : c.loop-i.i ≡ length c.args.before.now = omega (arith, c.loop-i-test.false, c.loop-i.auto.i-end) in
    subst (λ (n : ℕ). AreGiven c.args.dag.now c.loop-i.dag c.args.flag c.args.part c.args.set c.args.first n (places c.args.before.now)
    (places c.loop-i.terms.items)) e c.loop-i.invariant
