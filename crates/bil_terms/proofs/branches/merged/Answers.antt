use Rattle.bil_terms.proofs.Joined.{either_later, names_later, runs_merged}
use Rattle.bil_terms.proofs.branches.merged.Goals as goal

pub live_after-requires-clause-either : goal.live_after-requires-clause-either
live_after-requires-clause-either c = either_later _ _ _ _ _ _ _ _ _ _ _ c.requires.sides c.in_ok-target.ensures c.in_ok-jumped.ensures

pub selected-requires-clause-when_true : goal.selected-requires-clause-when_true
selected-requires-clause-when_true c =
    names_later _ _ _ _ _ _ _ _ _ _ _ _ _ _ _ c.args.when_true.now.names c.requires.sides.first.names c.in_ok-target.ensures c.in_ok-jumped.ensures
    c.in_ok-live.ensures

pub selected-requires-clause-when_false : goal.selected-requires-clause-when_false
selected-requires-clause-when_false c =
    names_later _ _ _ _ _ _ _ _ _ _ _ _ _ _ _ c.args.when_false.now.names c.requires.sides.second.names c.in_ok-target.ensures c.in_ok-jumped.ensures
    c.in_ok-live.ensures

pub returns : goal.returns
returns c =
    runs_merged c.args.dag.now _ _ _ _ c.args.condition.0 c.args.before.now c.args.one.0 c.args.other.0 c.args.when_true.now c.args.when_false.now _
    c.requires.sides
    c.in_ok-target.ensures c.in_ok-jumped.ensures c.in_ok-live.ensures c.in_ok-names.ensures
