use Rattle.std.proofs.Common.{◌∙◌, ap, sym, arith}
use Rattle.std.proofs.Math.Facts.{Fits-of_lt}
use Rattle.bit_blast.proofs.GivenInputs.{empty_behind, empty_numbered, numbered_in, numbered_out, numbered_all}
use Rattle.bit_blast.proofs.laying.give_inputs.Goals as goal
use Rattle.bit_blast.proofs.laying.give_inputs.Goals.{then-is_in+in_ok-push, else-is_in+in_ok-push-2}

pub returns-then-set-eq0-clause-are : goal.returns-then-set-eq0-clause-are
returns-then-set-eq0-clause-are c =
    empty_numbered c.args.set c.args.from c.args.count c.args.first c.args.width c.new.result.items c.if-set-eq0.true c.new.ensures.items

pub returns-then-set-eq0-clause-behind : goal.returns-then-set-eq0-clause-behind
returns-then-set-eq0-clause-behind c = empty_behind c.args.set c.args.from c.args.count c.args.first c.args.width c.if-set-eq0.true

pub overflow_add-behind : goal.overflow_add-behind
overflow_add-behind c =
    let few = c.loop-i.invariant.few in
    Fits-of_lt (omega (arith, few, c.requires.first, c.requires.width, c.requires.range, c.loop-i-test.true))

pub loop-i-preserved : goal.loop-i-preserved
loop-i-preserved c = elim c.if-is_in.branch [
  | then-is_in+in_ok-push w ↦ numbered_in c.args.set c.args.from c.loop-i.i c.args.first c.args.width c.loop-i.places.items _ c.loop-i.behind _
      c.requires.width c.loop-i.invariant (sym c.is_in.ensures ∙ w.if-is_in.true) (ap (λ z. z.items) w.places-is ∙ w.in_ok-push.ensures.items) w.behind-is
  | else-is_in+in_ok-push-2 w ↦ numbered_out c.args.set c.args.from c.loop-i.i c.args.first c.args.width c.loop-i.places.items _ c.loop-i.behind _
      c.loop-i.invariant (sym c.is_in.ensures ∙ w.if-is_in.false) (ap (λ z. z.items) w.places-is ∙ w.in_ok-push-2.ensures.items) w.behind-is
]

pub returns-clause-are : goal.returns-clause-are
returns-clause-are c = (numbered_all c.args.set c.args.from c.loop-i.i c.args.count c.args.first c.args.width c.loop-i.places.items c.loop-i.behind
    c.loop-i.invariant (omega (arith, c.loop-i-test.false))).are

pub returns-clause-behind : goal.returns-clause-behind
returns-clause-behind c = (numbered_all c.args.set c.args.from c.loop-i.i c.args.count c.args.first c.args.width c.loop-i.places.items c.loop-i.behind
    c.loop-i.invariant (omega (arith, c.loop-i-test.false))).behind_is

pub returns-clause-few : goal.returns-clause-few
returns-clause-few c = let few = c.loop-i.invariant.few in omega (arith, few, c.requires.range, c.loop-i-test.false)
