-- Two runs made one, by a condition.
use Rattle.std.specs.Prelude.{ℕ, ◌≡◌, ◌≤◌, ◌<◌, ◌+◌, ◌*◌, List, bit_or}
use Rattle.machine_spec.specs.BilMeaning.{Position}
use Rattle.term_spec.specs.Terms.{TermReading, InRange, TermNode, HasWidth, term_word}
use Rattle.term_dag.specs.Made.{Grew, InputsFrom}
use Rattle.term_names.specs.Choices.{differs}
use Rattle.term_names.specs.Chosen.{HaveSameForm, HaveSameTerms, differing_bits, differing_memory, differing_terms}
use Rattle.bil_terms.specs.declared.run.Run.{Run}
use Rattle.bil_terms.specs.Runs.{IsRun, Stands}

-- a bit that is 1 where one of two bits is
abbrev pub IsEitherOf : List TermNode → (either one other : ℕ) → Type 0
IsEitherOf nodes t a b = (x : TermReading) → InRange x → term_word x nodes t ≡ bit_or (term_word x nodes a) (term_word x nodes b)

-- The bits by which a run enters the sides of an if: the first side where the condition is 1, the second where it is 0.
pub record IsSplit (old new : List TermNode) (condition live one other : ℕ) : Type 0 where
  pub grew : Grew old new 2 0 0 0 4
  pub inputs : InputsFrom old new (λ m. ⊥)
  pub one_bit : HasWidth new 1 one
  pub other_bit : HasWidth new 1 other
  pub small : (x : TermReading) → InRange x → term_word x old condition < 2
  pub either : IsEitherOf new live one other
  pub when_true : (x : TermReading) → InRange x → term_word x old condition ≡ 1 → (term_word x new one ≡ term_word x old live) × (term_word x new other ≡ 0)
  pub when_false : (x : TermReading) → InRange x → term_word x old condition ≡ 0 → (term_word x new one ≡ 0) × (term_word x new other ≡ term_word x old live)

-- a side begins where the run stands before the if, but for whether it comes by, which a bit of its own says
pub record IsSide (before : Run) (entered : ℕ) (side : Run) : Type 0 where
  pub names : HaveSameTerms before.names side.names
  pub jumped : side.jumped ≡ before.jumped
  pub target : side.target ≡ before.target
  pub live : side.live.0 ≡ entered

-- the bits of a run that differ from those of the run before, which began a side under a bit
abbrev pub side_bits : (before : Run) → (entered : ℕ) → Run → ℕ
side_bits r l s = differing_bits r.names s.names + 32 * differs r.target.0 s.target.0 + differs l s.live.0

-- how many of its terms differ
abbrev pub side_terms : (before : Run) → (entered : ℕ) → Run → ℕ
side_terms r l s = differing_terms r.names s.names + differs r.target.0 s.target.0 + differs l s.live.0

-- Whether the run comes by behind both sides, which it entered by two bits: where neither side changed its bit, the bit of before is kept.
pub record IsLiveAfter (old new : List TermNode) (live one other a b t : ℕ) : Type 0 where
  pub grew : Grew old new (differs one a + differs other b) 0 0 0 (2 * (differs one a + differs other b))
  pub inputs : InputsFrom old new (λ m. ⊥)
  pub place : HasWidth new 1 t
  pub apart : differs live t ≤ differs one a + differs other b
  pub value : (x : TermReading) → InRange x → term_word x new t ≡ bit_or (term_word x old a) (term_word x old b)

-- Where a jump leads behind both sides. A side that makes none says nothing of it.
pub record IsTargetAfter (old new : List TermNode) (condition : ℕ) (a b : Run) (t : ℕ) : Type 0 where
  pub grew : Grew old new (32 * differs a.target.0 b.target.0) 0 0 0 (2 * differs a.target.0 b.target.0)
  pub inputs : InputsFrom old new (λ m. ⊥)
  pub place : HasWidth new 32 t
  pub apart : (before : ℕ) → differs before t ≤ differs before a.target.0 + differs before b.target.0
  pub when_true : (x : TermReading) → InRange x → term_word x old condition ≡ 1 → term_word x old a.jumped.0 ≡ 1 →
      term_word x new t ≡ term_word x old a.target.0
  pub when_false : (x : TermReading) → InRange x → term_word x old condition ≡ 0 → term_word x old b.jumped.0 ≡ 1 →
      term_word x new t ≡ term_word x old b.target.0

-- two runs behind the sides of an if, which the run before entered by two bits
pub record AreSides (nodes : List TermNode) (condition : ℕ) (before : Run) (one other : ℕ) (a b : Run) : Type 0 where
  pub condition_bit : HasWidth nodes 1 condition
  pub live_bit : HasWidth nodes 1 before.live.0
  pub one_bit : HasWidth nodes 1 one
  pub other_bit : HasWidth nodes 1 other
  pub either : IsEitherOf nodes before.live.0 one other
  pub first : IsRun nodes a
  pub second : IsRun nodes b
  pub first_form : HaveSameForm before.names a.names
  pub second_form : HaveSameForm before.names b.names

-- A run is made of those of two sides, by a condition: where it is 1 it stands where the first side does, where it is 0 where the second does, of which the
-- other does not come by. It is no further from the run before both than the sides are from where they began, and costs no more than that and the choice
-- whether a jump was made.
pub record IsMerged (old new : List TermNode) (condition : ℕ) (before : Run) (one other : ℕ) (a b s : Run) : Type 0 where
  pub grew : Grew old new (1 + side_bits before one a + side_bits before other b) 0 0
      (differing_memory before.names a.names + differing_memory before.names b.names)
      (2 + 2 * (side_terms before one a + side_terms before other b))
  pub inputs : InputsFrom old new (λ m. ⊥)
  pub run : IsRun new s
  pub form : HaveSameForm a.names s.names
  pub bits : side_bits before before.live.0 s ≤ side_bits before one a + side_bits before other b
  pub terms : side_terms before before.live.0 s ≤ side_terms before one a + side_terms before other b
  pub memory : differing_memory before.names s.names ≤ differing_memory before.names a.names + differing_memory before.names b.names
  pub live : (x : TermReading) → InRange x → term_word x new s.live.0 ≡ bit_or (term_word x old a.live.0) (term_word x old b.live.0)
  pub when_true : (x : TermReading) → InRange x → term_word x old condition ≡ 1 → (p : Position) → Stands old x a p → term_word x new s.live.0 ≡ 1 →
      Stands new x s p
  pub when_false : (x : TermReading) → InRange x → term_word x old condition ≡ 0 → (p : Position) → Stands old x b p → term_word x new s.live.0 ≡ 1 →
      Stands new x s p
