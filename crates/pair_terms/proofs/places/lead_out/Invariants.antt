use Rattle.std.proofs.Common.{◌≡◌, ◌++◌, take, drop}
use Rattle.std.specs.Prelude.{map}
use Rattle.pair_terms.specs.Places.{edge_led}
use Rattle.pair_terms.proofs.places.lead_out.Given as goal

abbrev pub invariant-loop-i : goal.invariant-loop-i
invariant-loop-i l = l.edges ≡ map (edge_led l.place) (take l.i l.fn.edges) ++ drop l.i l.fn.edges
