use Rattle.std.proofs.Common.{ℕ}
use Rattle.std.specs.Prelude.{◌↔◌, Contains}
use Rattle.flag_live.specs.Vertices.{IsStartBelow}
use Rattle.flag_live.proofs.paths.starts_of.Given as goal

abbrev pub invariant-loop-i : goal.invariant-loop-i
invariant-loop-i l = (v : ℕ) → Contains l.starts.items v ↔ IsStartBelow l.graph.nodes.items l.flag l.i v
