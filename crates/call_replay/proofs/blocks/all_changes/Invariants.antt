use Rattle.std.proofs.Common.{◌≡◌, ◌++◌, drop, map}
use Rattle.call_replay.specs.Readings.{said_of, told_change}
use Rattle.call_replay.proofs.blocks.all_changes.Given as goal

abbrev pub invariant-loop-contract : goal.invariant-loop-contract
invariant-loop-contract l = map told_change l.changes.items ++ map said_of (drop l.contract-index l.contracts) ≡ map said_of l.contracts
