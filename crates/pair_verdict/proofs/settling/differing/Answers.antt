use Rattle.links_lang.specs.Views.{links_of}
use Rattle.call_spec.specs.Calls.{DifferenceOfExits}
use Rattle.verdict.specs.Verdicts.{budget_of}
use Rattle.pair_verdict.specs.Sides.{first_program, second_program}
use Rattle.pair_verdict.proofs.PairPoints.{first_within, second_within}
use Rattle.pair_verdict.proofs.SettledBy.{both_start, never_none, settled_differs}
use Rattle.pair_verdict.proofs.WordsOfStates.{first_exit_links, second_exit_links}
use Rattle.pair_verdict.proofs.settling.differing.Goals as goal

pub exit_of-requires-clause-links : goal.exit_of-requires-clause-links
exit_of-requires-clause-links c =
    let p = c.args.pair.now in first_exit_links p.first.now.layout p.second.now.layout p.links.now c.requires.pair.links

pub exit_of-requires-clause-within : goal.exit_of-requires-clause-within
exit_of-requires-clause-within c =
    let p = c.args.pair.now in
    first_within (first_program p) (second_program p) (links_of p.links.now) (budget_of p.budget.now) p.budget.now.in_range.points.0 c.requires.within

pub exit_of-requires-clause-start : goal.exit_of-requires-clause-start
exit_of-requires-clause-start c =
    (both_start c.args.pair.now c.requires.pair DifferenceOfExits c.args.first c.args.second c.requires.answered).first

pub exit_of-requires-2-clause-links : goal.exit_of-requires-2-clause-links
exit_of-requires-2-clause-links c =
    let p = c.args.pair.now in second_exit_links p.first.now.layout p.second.now.layout p.links.now c.requires.pair.links

pub exit_of-requires-2-clause-within : goal.exit_of-requires-2-clause-within
exit_of-requires-2-clause-within c =
    let p = c.args.pair.now in
    second_within (first_program p) (second_program p) (links_of p.links.now) (budget_of p.budget.now) p.budget.now.in_range.points.0 c.requires.within

pub exit_of-requires-2-clause-start : goal.exit_of-requires-2-clause-start
exit_of-requires-2-clause-start c =
    (both_start c.args.pair.now c.requires.pair DifferenceOfExits c.args.first c.args.second c.requires.answered).second

pub unreachable-requires : goal.unreachable-requires
unreachable-requires c =
    never_none c.args.pair.now c.requires.pair c.args.first c.args.second c.requires.answered c.in_ok-one.one c.in_ok-two.two c.in_ok-one.ensures
    c.in_ok-two.ensures c.deref.result.now c.deref-2.result.now c.deref.ensures.value c.deref-2.ensures.value c.first_apart.result c.first_apart.ensures
    c.in-None.is

pub returns : goal.returns
returns c =
    settled_differs c.args.pair.now c.requires.pair c.args.first c.args.second c.requires.answered c.in_ok-one.one c.in_ok-two.two c.in_ok-one.ensures
    c.in_ok-two.ensures c.deref.result.now c.deref-2.result.now c.deref.ensures.value c.deref-2.ensures.value c.first_apart.result c.first_apart.ensures
    c.in-Some.line c.in-Some.is
