use Rattle.std.proofs.Common.{sym, arith}
use Rattle.std.proofs.Math.Facts.{Fits-of_lt}
use Rattle.bit_blast.proofs.PartPlaces.{given_register_at, register_is_given, state_register, state_register_at}
use Rattle.bit_blast.proofs.inputs.register_input.Goals as goal

pub first_of-requires-clause-part : goal.first_of-requires-clause-part
first_of-requires-clause-part c = (state_register c.args.places.now c.args.part c.args.number c.if-part-lt2.true c.requires.named).0

pub overflow_sub-result : goal.overflow_sub-result
overflow_sub-result c = let low = (state_register c.args.places.now c.args.part c.args.number c.if-part-lt2.true c.requires.named).1 in omega arith

pub overflow_add-result : goal.overflow_add-result
overflow_add-result c =
    let within = (state_register_at c.args.places.now c.args.part c.args.number c.requires.order c.if-part-lt2.true c.requires.named).0 in
    Fits-of_lt (omega (arith, c.first_of.ensures.is))

pub returns-then-part-lt2-clause-within : goal.returns-then-part-lt2-clause-within
returns-then-part-lt2-clause-within c =
    let within = (state_register_at c.args.places.now c.args.part c.args.number c.requires.order c.if-part-lt2.true c.requires.named).0 in
    omega (arith, c.first_of.ensures.is)

pub returns-then-part-lt2-clause-value : goal.returns-then-part-lt2-clause-value
returns-then-part-lt2-clause-value c =
    rw c.first_of.ensures.is (state_register_at c.args.places.now c.args.part c.args.number c.requires.order c.if-part-lt2.true c.requires.named).1

pub unreachable-requires : goal.unreachable-requires
unreachable-requires c =
    register_is_given c.args.places.now c.args.part c.args.number c.if-part-lt2.false c.requires.named (sym c.in-None.ensures)

pub returns-clause-within : goal.returns-clause-within
returns-clause-within c =
    (given_register_at c.args.places.now c.args.part c.args.number c.in-Some.first c.requires.order c.if-part-lt2.false c.requires.named
    (sym c.in-Some.ensures)).0

pub returns-clause-value : goal.returns-clause-value
returns-clause-value c =
    (given_register_at c.args.places.now c.args.part c.args.number c.in-Some.first c.requires.order c.if-part-lt2.false c.requires.named
    (sym c.in-Some.ensures)).1
