use Rattle.std.proofs.Common.{◌≡◌, ℕ, drop}
use Rattle.std.specs.Prelude.{◌||◌}
use Rattle.std.specs.List.{list_any}
use Rattle.frame_replay.specs.Readings.{is_among}
use Rattle.frame_replay.specs.Returns.{node_returns_to}
use Rattle.frame_replay.proofs.returns.all_returns.Given as goal

abbrev pub invariant-loop-node : goal.invariant-loop-node
invariant-loop-node l = (a : ℕ) → (is_among l.found.items a || list_any (node_returns_to a) (drop l.node-index l.nodes))
    ≡ list_any (node_returns_to a) l.nodes
