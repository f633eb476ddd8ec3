-- What is said of lists in no order.
use Rattle.std.specs.Prelude.{ℕ, ◌≡◌, ◌+◌, ◌*◌, Bool, List}
use Rattle.std.specs.List.{list_any}
use Rattle.bilv_spec.specs.Graph as graph

-- the same elements, however often and in whatever order: every test that one of the first passes, one of the second passes, and back
pub record IsSameSet {X : Type 0} (xs ys : List X) : Type 0 where
  pub any : (test : X → Bool) → list_any test xs ≡ list_any test ys

-- a number that rises as successors do
abbrev pub place : graph.Successor → ℕ
place s = s.to * 4 + graph.letter_order s.letter
