use Rattle.std.proofs.Common.{map}
use Rattle.call_replay.specs.Readings.{told_change}
use Rattle.call_replay.proofs.Changes.{next_said}
use Rattle.call_replay.proofs.blocks.all_changes.Goals as goal

pub loop-contract-preserved : goal.loop-contract-preserved
loop-contract-preserved c =
    next_said c.args.contracts.now c.loop-contract.contract-index c.contract-item.result (map told_change c.loop-contract.changes.items)
    (map told_change c.add_change.new.changes.items) (told_change c.in_ok-change.change) c.loop-contract-test.true c.contract-item.is
    c.in_ok-add_change.ensures c.in_ok-change.ensures c.loop-contract.invariant
