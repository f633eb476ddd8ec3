-- The edges of a point.
use Rattle.std.specs.Prelude.{ℕ, ◌≡◌, ◌≢◌, ◌<◌, ◌↔◌, true, List, [], ◌∷◌, length, slice_get, Contains}
use Rattle.bilv_spec.specs.Run.{Program}
use Rattle.bilv_spec.specs.Points.{Point, EdgeEnd, ToExit, edges}
use Rattle.bilv_spec.specs.Graph.{may_return}
use Rattle.walk_spec.specs.Unrolling.{AreEdgesOf}

-- Ends that are those of the edges of a point, each once and none before the exit, are the ends of its edges.
abbrev pub EndsMakeEdges : Type 0
EndsMakeEdges = (p : Program) (point : Point) (ends : List EdgeEnd) → ((t : EdgeEnd) → Contains (edges p point) t ↔ Contains ends t) →
    ((i j : ℕ) → i < j → j < length ends → slice_get ends i ≢ slice_get ends j) →
    ((t : EdgeEnd) (rest : List EdgeEnd) → ends ≡ t ∷ rest → ¬ Contains rest ToExit) → AreEdgesOf p point ends

-- an edge of a point is the exit exactly where its row may return and its stack is empty
abbrev pub ExitsAreReturns : Type 0
ExitsAreReturns = (p : Program) (turns at : ℕ) (stack : List ℕ) →
    Contains (edges p (record { turns = turns; stack = stack; at = at })) ToExit ↔ ((may_return p at ≡ true) × (stack ≡ []))
