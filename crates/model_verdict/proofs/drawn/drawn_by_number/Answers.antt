use Rattle.std.proofs.Common.{arith, rules}
use Rattle.model_verdict.proofs.Numbers.{all_drawn, draws_there, has_more_drawn, has_no_drawn}
use Rattle.model_verdict.proofs.drawn.drawn_by_number.Goals as goal

pub loop-place-init : goal.loop-place-init
loop-place-init c = has_no_drawn c.args.unrolled.now c.args.numbers.now _ (search rules)

pub index_mut-requires : goal.index_mut-requires
index_mut-requires c =
    let small = c.requires.within c.loop-place.place c.loop-place-test.true in
    let count = c.loop-place.invariant.count in
    omega (arith, small, count, c.loop-place.drawn.ok)

pub loop-place-preserved : goal.loop-place-preserved
loop-place-preserved c =
    let u = c.args.unrolled.now in
    let i = c.loop-place.place in
    has_more_drawn u c.args.numbers.now i c.loop-place.drawn.items c.draws.result c.loop-place-test.true c.requires.count c.requires.within c.requires.distinct
    (draws_there u u.points.items i c.index.result.now c.draws.result (omega (arith, c.loop-place-test.true, c.requires.count)) c.index.ensures c.draws.ensures)
    c.loop-place.invariant

pub returns : goal.returns
returns c = all_drawn c.args.unrolled.now c.args.numbers.now c.loop-place.place c.loop-place.drawn.items (search rules) c.requires.count c.loop-place.invariant
