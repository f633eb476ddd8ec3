use Rattle.std.proofs.Common.{arith}
use Rattle.call_replay.proofs.Ranked.{rank_found, rank_later, rank_none}
use Rattle.call_replay.proofs.ranks.rank_at.Goals as goal

pub loop-rank-preserved : goal.loop-rank-preserved
loop-rank-preserved c = record {
  within = omega arith;
  before = rank_later c.args.contracts.now c.loop-rank.rank c.args.at _ c.loop-rank-test.true c.loop-rank.invariant.before c.if-contracts-rank.false;
}

pub returns-then-contracts-rank-clause-rank : goal.returns-then-contracts-rank-clause-rank
returns-then-contracts-rank-clause-rank c =
    rank_found c.args.contracts.now c.loop-rank.rank c.args.at _ c.loop-rank-test.true c.loop-rank.invariant.before c.if-contracts-rank.true

pub returns-clause-rank : goal.returns-clause-rank
returns-clause-rank c =
    let within = c.loop-rank.invariant.within in
    let over = c.loop-rank-test.false in
    rank_none c.args.contracts.now c.loop-rank.rank c.args.at (omega (arith, within, over)) c.loop-rank.invariant.before
