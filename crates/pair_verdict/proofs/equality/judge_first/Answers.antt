use Rattle.links_lang.specs.Views.{links_of}
use Rattle.verdict.specs.Verdicts.{budget_of}
use Rattle.pair_verdict.specs.Sides.{first_program, second_program}
use Rattle.pair_verdict.proofs.PairPoints.{first_within}
use Rattle.pair_verdict.proofs.SideVerdicts.{came_holds, first_verdict}
use Rattle.pair_verdict.proofs.equality.judge_first.Goals as goal

pub judge_side-requires-clause-within : goal.judge_side-requires-clause-within
judge_side-requires-clause-within c =
    let p = c.args.pair.now in
    first_within (first_program p) (second_program p) (links_of p.links.now) (budget_of p.budget.now) p.budget.now.in_range.points.0 c.requires.within

pub judge_second-requires-clause-first : goal.judge_second-requires-clause-first
judge_second-requires-clause-first c =
    let p = c.args.pair.now in
    (came_holds p.first.now (budget_of p.budget.now) c.in_ok-first.field-0 c.in_ok-first.ensures c.in-Holds.first c.in-Holds.turns c.in-Holds.is).0

pub judge_second-requires-clause-turns : goal.judge_second-requires-clause-turns
judge_second-requires-clause-turns c =
    let p = c.args.pair.now in
    (came_holds p.first.now (budget_of p.budget.now) c.in_ok-first.field-0 c.in_ok-first.ensures c.in-Holds.first c.in-Holds.turns c.in-Holds.is).1

pub returns-in-Other : goal.returns-in-Other
returns-in-Other c = first_verdict c.args.pair.now c.requires.within c.in_ok-first.field-0 c.in_ok-first.ensures c.in-Other.verdict c.in-Other.is
