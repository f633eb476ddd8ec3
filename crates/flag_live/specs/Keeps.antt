-- The flags of a set.
use Rattle.std.specs.Prelude.{ℕ, ◌≡◌, ◌<◌, Bool}
use Rattle.graph_nodes.specs.Graphs.{has_flag}

-- a set has those of the four flags that are told, and no more
pub record IsSetOf (set : ℕ) (n z c v : Bool) : Type 0 where
  pub small : set < 16
  pub negative : has_flag set 3 ≡ n
  pub zeroed : has_flag set 2 ≡ z
  pub carry : has_flag set 1 ≡ c
  pub overflow : has_flag set 0 ≡ v
