-- The words of cells.
use Rattle.std.specs.Prelude.{ℕ, ◌≡◌, ◌<◌, Bool, List, length}
use Rattle.std.specs.Global.{Vec}
use Rattle.term_spec.specs.Terms.{node_at, term_word, value_at, width_of}
use Rattle.walk_spec.specs.Unrolled.{UnrolledProgram}
use Rattle.term_spec.specs.Cells.{Cells}
use Rattle.term_spec.specs.ClauseForm.{reading}
use Rattle.gates.specs.declared.bit.Bit.{Bit}
use Rattle.gates.specs.Circuits.{Netlist, next, Holds}
use Rattle.bit_blast.specs.Places.{seen}
use Rattle.bit_blast.specs.BitWords.{AreWithin, shapes, values_of}

-- The words are those of cells, where bits stand for the inputs: under every valuation that a circuit allows they have the values of the terms.
pub record AreCellWords (u : UnrolledProgram) (c : Cells) (bits : List Bit) (circuit : Netlist) (ws : List (Vec Bit)) : Type 0 where
  pub count : length (shapes ws) ≡ length c.nodes
  pub widths : (t : ℕ) → t < length c.nodes → width_of (node_at (shapes ws) t) ≡ width_of (node_at c.nodes t)
  pub within : AreWithin (next circuit) ws
  pub values : (v : ℕ → Bool) → Holds v circuit → (t : ℕ) → t < length c.nodes →
      (value_at (values_of v ws) t).word ≡ term_word (reading u c (seen bits v)) c.nodes t
