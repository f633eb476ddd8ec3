use Rattle.std.proofs.Common.{arith}
use Rattle.pair_verdict.proofs.BothPoints.{are_within, is_size}
use Rattle.pair_verdict.proofs.equality.judge_priced.Goals as goal

pub pair_price-price-requires-clause-first : goal.pair_price-price-requires-clause-first
pair_price-price-requires-clause-first c = c.requires.unrolled.first.measurable.formed

pub pair_price-price-requires-clause-second : goal.pair_price-price-requires-clause-second
pair_price-price-requires-clause-second c = c.requires.unrolled.second.measurable.formed

pub returns-then-price-pair : goal.returns-then-price-pair
returns-then-price-pair c =
    is_size c.args.pair.now c.args.both.now c.requires.unrolled c.pair_price-price.result c.pair_price-price.ensures.price
    (let small = c.pair_price-price.type_inv in omega (arith, small)) c.if-price.false c.if-price-pair.true

pub judge_first-requires-clause-within : goal.judge_first-requires-clause-within
judge_first-requires-clause-within c =
    are_within c.args.pair.now c.args.both.now c.requires.unrolled c.pair_price-price.result c.pair_price-price.ensures.price
    (let small = c.pair_price-price.type_inv in omega (arith, small)) c.if-price.false (let cheap = c.if-price-pair.false in omega (arith, cheap))
