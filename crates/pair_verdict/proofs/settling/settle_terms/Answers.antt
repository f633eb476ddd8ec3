use Rattle.std.proofs.Common.{subst}
use Rattle.call_spec.specs.Calls.{PairOfStates}
use Rattle.pair_verdict.proofs.SettledBy.{IsAnswer, answered_by, settled_none, spent_on_pair}
use Rattle.pair_verdict.proofs.settling.settle_terms.Goals as goal

pub decide_pair-requires-clause-links : goal.decide_pair-requires-clause-links
decide_pair-requires-clause-links c =
    let p = c.args.pair.now in (p.first.now.layout, p.second.now.layout, c.requires.pair.links)

pub settle_difference-requires-clause-linked : goal.settle_difference-requires-clause-linked
settle_difference-requires-clause-linked c =
    subst (IsAnswer c.args.pair.now PairOfStates) c.in-Sat.is
    (answered_by c.args.pair.now c.args.exits.now c.requires.exits PairOfStates c.in_ok-first.field-0 c.in_ok-first.ensures)

pub returns-in-Refuted : goal.returns-in-Refuted
returns-in-Refuted c =
    settled_none c.args.pair.now c.requires.pair c.in-Refuted.proof
    (subst (IsAnswer c.args.pair.now PairOfStates) c.in-Refuted.is
    (answered_by c.args.pair.now c.args.exits.now c.requires.exits PairOfStates c.in_ok-first.field-0 c.in_ok-first.ensures))

pub returns-in-Spent : goal.returns-in-Spent
returns-in-Spent c =
    spent_on_pair c.args.pair.now c.requires.pair c.in-Spent.proof
    (subst (IsAnswer c.args.pair.now PairOfStates) c.in-Spent.is
    (answered_by c.args.pair.now c.args.exits.now c.requires.exits PairOfStates c.in_ok-first.field-0 c.in_ok-first.ensures))
