use Rattle.frame_verdict.specs.FrameFunctions.{whole_of_framed}
use Rattle.frame_verdict.proofs.RankedVerdicts.{ends_with, none_passed, passed_more}
use Rattle.frame_verdict.proofs.ranking.judge_contracts.Goals as goal

pub loop-rank-init : goal.loop-rank-init
loop-rank-init g c =
    none_passed (whole_of_framed c.args.framed.now) g.M.Machine.form c.args.budget.now c.new-passed.result.items
    c.new-passed.ensures.items

pub judge_contract-requires-clause-below : goal.judge_contract-requires-clause-below
judge_contract-requires-clause-below g c = c.loop-rank.invariant.0

pub loop-rank-preserved : goal.loop-rank-preserved
loop-rank-preserved g c =
    passed_more (whole_of_framed c.args.framed.now) g.M.Machine.form c.args.budget.now c.loop-rank.rank c.loop-rank.passed.items
    c.push.new.self.items c.in-Passes.one c.in_ok-one.field-0 c.loop-rank.invariant c.in_ok-one.ensures c.in-Passes.is
    c.in_ok-push-in-Passes.ensures.items

pub returns-in-Ends : goal.returns-in-Ends
returns-in-Ends g c =
    ends_with (whole_of_framed c.args.framed.now) g.M.Machine.form c.args.budget.now c.loop-rank.rank c.in-Ends.verdict
    c.in_ok-one.field-0 c.in_ok-one.ensures c.in-Ends.is
