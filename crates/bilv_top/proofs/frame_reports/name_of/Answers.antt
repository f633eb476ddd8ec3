use Rattle.std.proofs.Common.{arith}
use Rattle.bilv_top.proofs.Ranked.{named_contract, named_entry}
use Rattle.bilv_top.proofs.frame_reports.name_of.Goals as goal

pub returns-then-rank-contracts : goal.returns-then-rank-contracts
returns-then-rank-contracts c w same =
    named_contract c.args.contracts.now w same c.args.rank c.index-contracts-rank.result c.if-rank-contracts.true

pub returns : goal.returns
returns c w same = named_entry c.args.contracts.now w same c.args.rank (let over = c.if-rank-contracts.false in omega (arith, over))
