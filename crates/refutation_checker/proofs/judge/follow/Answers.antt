use Rattle.std.proofs.Common.{◌+◌, map, drop, drop-cons, add-one, sym, ◌∙◌}
use Rattle.clause_spec.proofs.Looks.{look-unit}
use Rattle.cnf_form.specs.declared.form.Hint.TheVariants.{ById}
use Rattle.cnf_form.specs.Views.{hint_of}
use Rattle.refutation_checker.specs.Slots.{true_in}
use Rattle.refutation_checker.specs.Entries.{look_up}
use Rattle.refutation_checker.proofs.Hints.{hint-unit}
use Rattle.refutation_checker.proofs.judge.follow.Goals as goal

pub assign-requires-clause-within : goal.assign-requires-clause-within
assign-requires-clause-within c =
    let u = rw c.lits.ensures at (sym c.in-Unit.ensures) in
    rw c.loop-hint.auto.slots
    (c.requires.within c.in-ById.id c.in-Some.clause.now (sym c.in-Some.ensures) c.in-Unit.lit
    (look-unit (true_in c.args.line c.args.names.now c.loop-hint.slots) c.in-Some.clause.now c.in-Unit.lit u).0)

pub assign-requires-clause-not_false : goal.assign-requires-clause-not_false
assign-requires-clause-not_false c =
    let u = rw c.lits.ensures at (sym c.in-Unit.ensures) in
    (look-unit (true_in c.args.line c.args.names.now c.loop-hint.slots) c.in-Some.clause.now c.in-Unit.lit u).3

pub loop-hint-preserved : goal.loop-hint-preserved
loop-hint-preserved c =
    let u = rw c.lits.ensures at (sym c.in-Unit.ensures) in
    let s = hint-unit (look_up c.args.entries.now) (true_in c.args.line c.args.names.now c.loop-hint.slots)
    (true_in c.args.line c.args.names.now c.assign.new.slots)
    c.in-ById.id c.in-Some.clause.now c.in-Unit.lit (map hint_of (drop (c.loop-hint.hint-index + 1) c.args.hints.now))
    (sym c.in-Some.ensures) u c.assign.ensures.values in
    let d = drop-cons c.args.hints.now c.loop-hint.hint-index (ById 0) c.loop-hint-test.true in
    let f = rw (d, c.in-ById.is) at c.loop-hint.invariant.same_rest in
    record {
      same_rest = rw add-one (f ∙ rw add-one at s);
      lines = λ h. c.assign.ensures.lines (c.loop-hint.invariant.lines h);
    }
