use Rattle.std.proofs.Common.{arith}
use Rattle.frame_verdict.proofs.EarlyBounds.{shows_early, smaller}
use Rattle.frame_verdict.proofs.early.judge_within.Goals as goal

pub judge_smaller-requires-clause-shows : goal.judge_smaller-requires-clause-shows
judge_smaller-requires-clause-shows g c =
    shows_early g.M.Machine.form c.args.framed.now c.args.budget.now c.with_unroll-smaller.result c.args.rank c.args.whole.now c.in-Ok.unrolled c.requires.ready
    c.args.turns c.requires.turns c.with_unroll-smaller.ensures c.in-Ok.ensures.unrolled

pub judge_smaller-requires-clause-smaller : goal.judge_smaller-requires-clause-smaller
judge_smaller-requires-clause-smaller g c =
    smaller g.M.Machine.form c.args.framed.now c.args.budget.now c.with_unroll-smaller.result c.args.rank c.args.whole.now c.in-Ok.unrolled c.requires.ready
    c.args.turns c.requires.turns c.with_unroll-smaller.ensures c.in-Ok.ensures.unrolled
    (let few = c.in-Ok.unrolled.roots.ok.0 in let many = c.args.whole.now.roots.ok.0 in
    omega (arith, few, many, c.len-roots.ensures, c.len-all.ensures, c.if-roots-all.false))
