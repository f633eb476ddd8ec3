use Rattle.std.proofs.Common.{arith}
use Rattle.links_lang.specs.Views.{links_of}
use Rattle.verdict.specs.Verdicts.{budget_of}
use Rattle.pair_verdict.specs.Sides.{first_program, second_program}
use Rattle.pair_verdict.proofs.PairPoints.{second_within}
use Rattle.pair_verdict.proofs.SideVerdicts.{came_holds, second_verdict}
use Rattle.pair_verdict.proofs.FewerTurns.{holds_for_more}
use Rattle.pair_verdict.proofs.equality.judge_second.Goals as goal

pub judge_side-requires-clause-within : goal.judge_side-requires-clause-within
judge_side-requires-clause-within c =
    let p = c.args.pair.now in
    second_within (first_program p) (second_program p) (links_of p.links.now) (budget_of p.budget.now) p.budget.now.in_range.points.0 c.requires.within

pub settle_within-requires-clause-first : goal.settle_within-requires-clause-first
settle_within-requires-clause-first c =
    let p = c.args.pair.now in
    let came = (came_holds p.second.now (budget_of p.budget.now) c.in_ok-second.field-0 c.in_ok-second.ensures c.in-Holds.second c.in-Holds.second_turns c.in-Holds.is).1 in
    let most = c.max-most.ensures in
    let few = c.requires.turns.few in
    let less = came.few in
    holds_for_more (first_program p) (budget_of p.budget.now) c.args.turns c.max-most.result (omega (arith, most)) (omega (arith, most, few, less))
    c.requires.turns

pub settle_within-requires-clause-second : goal.settle_within-requires-clause-second
settle_within-requires-clause-second c =
    let p = c.args.pair.now in
    let came = (came_holds p.second.now (budget_of p.budget.now) c.in_ok-second.field-0 c.in_ok-second.ensures c.in-Holds.second c.in-Holds.second_turns c.in-Holds.is).1 in
    let most = c.max-most.ensures in
    let few = c.requires.turns.few in
    let less = came.few in
    holds_for_more (second_program p) (budget_of p.budget.now) c.in-Holds.second_turns c.max-most.result (omega (arith, most))
    (omega (arith, most, few, less)) came

pub returns-in_ok-settled-in-Holds : goal.returns-in_ok-settled-in-Holds
returns-in_ok-settled-in-Holds c =
    let p = c.args.pair.now in
    c.with_holdings.ensures p c.requires.within c.requires.first
    (came_holds p.second.now (budget_of p.budget.now) c.in_ok-second.field-0 c.in_ok-second.ensures c.in-Holds.second c.in-Holds.second_turns c.in-Holds.is).0
    c.in_ok-settled-in-Holds.ensures

pub returns-in-Other : goal.returns-in-Other
returns-in-Other c =
    second_verdict c.args.pair.now c.requires.within c.args.first c.requires.first c.in_ok-second.field-0 c.in_ok-second.ensures c.in-Other.verdict c.in-Other.is
