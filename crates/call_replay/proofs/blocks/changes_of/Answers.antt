use Rattle.call_replay.proofs.Changes.{changes_are}
use Rattle.call_replay.proofs.blocks.changes_of.Goals as goal

pub returns : goal.returns
returns c a = changes_are c.in_ok-changes.changes.items c.args.contracts.now a c.in_ok-changes.ensures
