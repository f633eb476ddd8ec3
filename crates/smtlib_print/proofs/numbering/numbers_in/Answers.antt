use Rattle.std.proofs.Common.{arith, rules}
use Rattle.smtlib_print.proofs.Inverses.{inverse_done, inverse_more, no_place}
use Rattle.smtlib_print.proofs.numbering.numbers_in.Goals as goal

pub loop-number-init : goal.loop-number-init
loop-number-init c = record { count = search rules; each = λ i d l. absurd (omega (arith, l)) }

pub index_mut-requires : goal.index_mut-requires
index_mut-requires c =
    let small = c.requires.within c.loop-number.number no_place c.loop-number-test.true in
    let count = c.loop-number.invariant.count in
    omega (arith, small, count, c.loop-number.numbers.ok)

pub loop-number-preserved : goal.loop-number-preserved
loop-number-preserved c =
    inverse_more c.args.order.now c.loop-number.number c.loop-number.numbers.items c.loop-number-test.true
    (c.requires.within c.loop-number.number no_place c.loop-number-test.true) c.loop-number.invariant

pub returns-clause-count : goal.returns-clause-count
returns-clause-count c = c.loop-number.invariant.count

pub returns-clause-inverse : goal.returns-clause-inverse
returns-clause-inverse c =
    inverse_done c.args.order.now c.loop-number.number c.loop-number.numbers.items (search rules) c.loop-number.invariant
