-- Rows of terms of one width, and the choice between two of them.
use Rattle.std.specs.Prelude.{ℕ, ◌≡◌, ◌<◌, ◌+◌, ◌*◌, ◌==◌, if◌then◌else◌, List, [], ◌∷◌, length, map, slice_index}
use Rattle.term_spec.specs.Terms.{TermReading, InRange, TermNode, HasWidth, term_word}
use Rattle.term_dag.specs.Made.{Grew, InputsFrom}
use Rattle.term_dag.specs.declared.nodes.Term.{Term}

-- the places of terms
abbrev pub places : List Term → List ℕ
places ts = map (λ t. t.0) ts

-- the terms have a width
abbrev pub AreWide : List TermNode → (width : ℕ) → List ℕ → Type 0
AreWide nodes w ts = (i : ℕ) → i < length ts → HasWidth nodes w (slice_index ts i)

-- 1 where two terms differ
abbrev pub differs : ℕ → ℕ → ℕ
differs a b = if a == b then 0 else 1

-- how many places of two lists differ; the lists have one length
abbrev pub differing : List ℕ → List ℕ → ℕ
differing [] ys = 0
differing (x ∷ xs) [] = 0
differing (x ∷ xs) (y ∷ ys) = differs x y + differing xs ys

-- A term is one of two words of a width, by a condition: where it is 1 it has the value of the first, where it is 0 that of the second. It costs something only
-- where they differ; one term stays what it is.
pub record IsChosen (old new : List TermNode) (width condition a b t : ℕ) : Type 0 where
  pub grew : Grew old new (width * differs a b) 0 0 0 (2 * differs a b)
  pub inputs : InputsFrom old new (λ m. ⊥)
  pub place : HasWidth new width t
  pub kept : a ≡ b → t ≡ a
  pub when_true : (x : TermReading) → InRange x → term_word x old condition ≡ 1 → term_word x new t ≡ term_word x old a
  pub when_false : (x : TermReading) → InRange x → term_word x old condition ≡ 0 → term_word x new t ≡ term_word x old b

-- So is each term of a row.
pub record AreChosen (old new : List TermNode) (width condition : ℕ) (xs ys ts : List ℕ) : Type 0 where
  pub grew : Grew old new (width * differing xs ys) 0 0 0 (2 * differing xs ys)
  pub inputs : InputsFrom old new (λ m. ⊥)
  pub count : length ts ≡ length xs
  pub wide : AreWide new width ts
  pub kept : (i : ℕ) → i < length xs → slice_index xs i ≡ slice_index ys i → slice_index ts i ≡ slice_index xs i
  pub when_true : (x : TermReading) → InRange x → term_word x old condition ≡ 1 →
      (i : ℕ) → i < length xs → term_word x new (slice_index ts i) ≡ term_word x old (slice_index xs i)
  pub when_false : (x : TermReading) → InRange x → term_word x old condition ≡ 0 →
      (i : ℕ) → i < length xs → term_word x new (slice_index ts i) ≡ term_word x old (slice_index ys i)
