-- Clauses of cells whose inputs have places, for programs and frames.
use Rattle.std.specs.Prelude.{ℕ, ◌≡◌, ◌≤◌, ◌+◌, Bool, Contains}
use Rattle.clause_spec.specs.Clauses.{Cnf, ExtendsOnceWhere}
use Rattle.term_spec.specs.Terms.{TermReading, InRange, HasWidth, term_word, term_gates}
use Rattle.frame_terms.specs.FrameCells.{Agreement, AskedByte, Cells, IsAllowed}
use Rattle.bit_blast.specs.declared.input_places.InputPlaces.{InputPlaces}
use Rattle.bit_blast.specs.Places.{HasRead, IsReadingAt}

-- conditions are bits, and what is said is said of base reads that have places
pub record AreReadsOf (p : InputPlaces) (c : Cells) : Type 0 where
  pub agrees : (a : Agreement) → Contains c.agrees a → HasWidth c.nodes 1 a.condition × HasRead p a.part a.read × HasRead p a.part a.other
  pub asked : (a : AskedByte) → Contains c.asked a → HasWidth c.nodes 1 a.condition × HasRead p a.part a.read

-- a valuation gives the inputs of a reading under which what is said of the base reads is true, and so is the question
pub record IsTrueAt (p : InputPlaces) (c : Cells) (v : ℕ → Bool) : Type 0 where
  pub reading : TermReading
  pub in_range : InRange reading
  pub at : IsReadingAt p v reading
  pub allowed : IsAllowed c reading
  pub root : term_word reading c.nodes c.root ≡ 1

-- The clauses extend valuations of the inputs in at most one way, and exactly those that make the question true. Besides the inputs there is a variable for
-- each gate, and one more.
pub record AreClauses (p : InputPlaces) (c : Cells) (cnf : Cnf) : Type 0 where
  pub extends : ExtendsOnceWhere p.inputs cnf (IsTrueAt p c)
  pub all : p.inputs ≤ cnf.variables
  pub few : cnf.variables ≤ p.inputs + 1 + term_gates c.nodes
