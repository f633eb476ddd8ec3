use Rattle.pair_verdict.proofs.SideVerdicts.{never_exceeded}
use Rattle.pair_verdict.proofs.sides.judge_side.Goals as goal

pub unreachable-requires : goal.unreachable-requires
unreachable-requires c =
    never_exceeded c.args.side.now c.args.budget.now c.requires.within c.in_ok-judged.judged.verdict c.in_ok-judged.ensures.verdict c.in-Exceeded.field-0
    c.in-Exceeded.is
