use Rattle.std.proofs.Common.{subst}
use Rattle.call_spec.specs.Calls.{DifferenceOfExits}
use Rattle.pair_verdict.proofs.SettledBy.{IsAnswer, answered_by, settled_alike, spent_on_difference}
use Rattle.pair_verdict.proofs.settling.settle_difference.Goals as goal

pub decide_pair-requires-clause-links : goal.decide_pair-requires-clause-links
decide_pair-requires-clause-links c =
    let p = c.args.pair.now in (p.first.now.layout, p.second.now.layout, c.requires.pair.links)

pub differing-requires-clause-answered : goal.differing-requires-clause-answered
differing-requires-clause-answered c =
    subst (IsAnswer c.args.pair.now DifferenceOfExits) c.in-Sat.is
    (answered_by c.args.pair.now c.args.exits.now c.requires.exits DifferenceOfExits c.in_ok-first.field-0 c.in_ok-first.ensures)

pub returns-in-Refuted : goal.returns-in-Refuted
returns-in-Refuted c =
    settled_alike c.args.pair.now c.requires.pair c.args.starts.0 c.args.starts.1 c.requires.linked c.requires.first_holds c.requires.second_holds
    c.in-Refuted.difference
    (subst (IsAnswer c.args.pair.now DifferenceOfExits) c.in-Refuted.is
    (answered_by c.args.pair.now c.args.exits.now c.requires.exits DifferenceOfExits c.in_ok-first.field-0 c.in_ok-first.ensures))

pub returns-in-Spent : goal.returns-in-Spent
returns-in-Spent c =
    spent_on_difference c.args.pair.now c.requires.pair c.args.starts.0 c.args.starts.1 c.requires.linked c.in-Spent.proof
    (subst (IsAnswer c.args.pair.now DifferenceOfExits) c.in-Spent.is
    (answered_by c.args.pair.now c.args.exits.now c.requires.exits DifferenceOfExits c.in_ok-first.field-0 c.in_ok-first.ensures))
