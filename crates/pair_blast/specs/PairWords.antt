-- The words of two sides in one circuit.
use Rattle.std.specs.Prelude.{ℕ, ◌≡◌, ◌<◌, Bool, List, length, map, get_or, sum_by}
use Rattle.std.specs.Global.{Vec}
use Rattle.call_spec.specs.Calls.{PairQuestion, PairOfStates, DifferenceOfExits}
use Rattle.term_spec.specs.Terms.{TermReading, TermNode, node_at, term_word, value_at, width_of}
use Rattle.pair_spec.specs.PairTerms.{HaveWidths}
use Rattle.term_dag.specs.declared.nodes.Term.{Term}
use Rattle.gates.specs.declared.bit.Bit.{Bit}
use Rattle.bit_blast.specs.BitWords.{AreWithin, shapes, values_of}

-- the words of terms under a valuation
abbrev pub words_under : (ℕ → Bool) → List (Vec Bit) → List Term → List ℕ
words_under v ws terms = map (λ t. (value_at (values_of v ws) t.0).word) terms

-- the words of terms under a reading
abbrev pub words_read : TermReading → List TermNode → List Term → List ℕ
words_read x nodes terms = map (λ t. term_word x nodes t.0) terms

-- how many bits terms have
abbrev pub bits_in : List TermNode → List Term → ℕ
bits_in nodes terms = sum_by (λ t. width_of (node_at nodes t.0)) terms

-- terms of two lists of nodes, as many and as wide
pub record AreAlike (ms ns : List TermNode) (xs ys : List Term) : Type 0 where
  pub count : length xs ≡ length ys
  pub first : (k : ℕ) (d : Term) → k < length xs → (get_or xs k d).0 < length ms
  pub second : (k : ℕ) (d : Term) → k < length ys → (get_or ys k d).0 < length ns
  pub widths : (k : ℕ) (d e : Term) → k < length xs → width_of (node_at ms (get_or xs k d).0) ≡ width_of (node_at ns (get_or ys k e).0)

-- the places of words on both sides have one list of widths
abbrev pub HaveSameWidths : (ms : List TermNode) → (xs : List ℕ) → (ns : List TermNode) → (ys : List ℕ) → Type 0
HaveSameWidths ms xs ns ys = (widths : List ℕ) × HaveWidths ms xs widths × HaveWidths ns ys widths

-- The words are those of the terms of a list, under each valuation of which a fact holds, by its reading.
pub record AreWordsWhere (Fact : (ℕ → Bool) → Type 0) (read : (ℕ → Bool) → TermReading) (nodes : List TermNode) (n : ℕ) (ws : List (Vec Bit)) : Type 0 where
  pub count : length (shapes ws) ≡ length nodes
  pub widths : (t : ℕ) → t < length nodes → width_of (node_at (shapes ws) t) ≡ width_of (node_at nodes t)
  pub within : AreWithin n ws
  pub values : (v : ℕ → Bool) → Fact v → (t : ℕ) → t < length nodes → (value_at (values_of v ws) t).word ≡ term_word (read v) nodes t

-- the bits at the exit that a question compares
abbrev pub bits_compared : PairQuestion → List TermNode → List Term → ℕ
bits_compared PairOfStates nodes exits = 0
bits_compared DifferenceOfExits nodes exits = bits_in nodes exits
