-- Words of bits for the terms of a list.
use Rattle.std.specs.Prelude.{ℕ, ◌≡◌, ◌<◌, Bool, List, length, map, All}
use Rattle.std.specs.Global.{Vec}
use Rattle.term_spec.specs.Terms.{TermReading, TermValue, TermNode, ConstantNode, word_value, node_at, width_of, term_gates}
use Rattle.gates.specs.declared.bit.Bit.{Bit}
use Rattle.gates.specs.Circuits.{Netlist, next, Holds, Grows, Within}
use Rattle.term_dag.specs.Readings.{AreWords}
use Rattle.word_gates.specs.Numbers.{number}
use Rattle.bit_blast.specs.declared.input_places.InputPlaces.{InputPlaces}
use Rattle.bit_blast.specs.Places.{IsReadingAt, seen}

-- the numbers of words under a valuation
abbrev pub numbers : (ℕ → Bool) → List (Vec Bit) → List ℕ
numbers v ws = map (λ w. number v w.items) ws

-- the values that they are
abbrev pub values_of : (ℕ → Bool) → List (Vec Bit) → List TermValue
values_of v ws = map (λ w. word_value (number v w.items)) ws

-- nodes that have the widths of words, of which it counts for a node's form only that they have them
abbrev pub shapes : List (Vec Bit) → List TermNode
shapes ws = map (λ w. ConstantNode (length w.items) 0) ws

-- each bit of the words is over a variable below n
pub record AreWithin (n : ℕ) (ws : List (Vec Bit)) : Type 0 where
  pub each : All (λ (w : Vec Bit). Within n w.items) ws

-- The words are those of the terms of a list, made from one circuit in another, where bits stand for the inputs: under every valuation that this one allows
-- they have the values of the terms.
pub record AreBlasted (p : InputPlaces) (bits : List Bit) (old new : Netlist) (nodes : List TermNode) (ws : List (Vec Bit)) : Type 0 where
  pub grows : Grows old new (term_gates nodes)
  pub within : AreWithin (next new) ws
  pub count : length ws ≡ length nodes
  pub widths : (t : ℕ) → t < length nodes → width_of (node_at (shapes ws) t) ≡ width_of (node_at nodes t)
  pub values : (v : ℕ → Bool) (x : TermReading) → Holds v new → IsReadingAt p (seen bits v) x → AreWords x nodes (numbers v ws)
