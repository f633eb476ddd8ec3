-- Two functions with their links.
use Rattle.std.specs.Prelude.{List}
use Rattle.pair_spec.specs.Links.{Link}
use Rattle.pair_spec.specs.Equals.{Side}
use Rattle.links_lang.specs.Views.{links_of, AreLinksOf}
use Rattle.pair_sides.specs.Sides.{side_of, IsSided}
use Rattle.difference_replay.specs.declared.replays.Pair.{Pair}

-- the sides and the links of the definitions
abbrev pub first_of : Pair → Side
first_of pair = side_of pair.first.now

abbrev pub second_of : Pair → Side
second_of pair = side_of pair.second.now

abbrev pub links_in : Pair → List Link
links_in pair = links_of pair.links.now

-- both are sides, and the links are between their states
pub record IsPair (pair : Pair) : Type 0 where
  pub first : IsSided pair.first.now
  pub second : IsSided pair.second.now
  pub links : AreLinksOf pair.first.now.layout pair.second.now.layout pair.links.now
