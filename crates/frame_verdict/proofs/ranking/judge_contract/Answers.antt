use Rattle.frame_verdict.specs.FrameFunctions.{whole_of_framed}
use Rattle.frame_verdict.proofs.RankedVerdicts.{low_at, plain_at}
use Rattle.frame_verdict.proofs.ranking.judge_contract.Goals as goal

pub returns : goal.returns
returns g c =
    c.pass_or_end.ensures (whole_of_framed c.args.framed.now) g.M.Machine.form c.args.budget.now
    (plain_at c.args.framed.now c.requires.ready.runs.alone c.args.rank c.requires.rank) (low_at c.args.framed.now c.args.rank c.requires.rank)
    c.requires.ready.within c.requires.below c.in_ok-judged.ensures
