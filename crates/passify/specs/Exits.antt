-- The exits of a point, tried one by one.
use Rattle.std.specs.Prelude.{ℕ, ◌≡◌, Bool, true, false, not, List}
use Rattle.word_spec.specs.Memory.{endian}
use Rattle.bilv_spec.specs.Notes.{Expr, value, is_true}
use Rattle.term_spec.specs.Terms.{TermReading, InRange, TermNode, term_word}
use Rattle.walk_spec.specs.Unrolled.{Walk, Carried, state_at}
use Rattle.walk_spec.specs.Sweep.{Held, held_if, hand}
use Rattle.term_spec.specs.Passive.{Tells}
use Rattle.term_names.specs.Chosen.{at_entry}
use Rattle.note_terms.specs.declared.Now.{Now}
use Rattle.note_terms.specs.Lines.{IsStateOf}
use Rattle.passify.specs.declared.sweep.Sweep.{Sweep}
use Rattle.passify.specs.Sweeps.{ShowsAt}

-- The exits of a point are tried: a bit is 1 as long as none was taken. Until then the terms are what is held before the point, and what is held in the end is
-- what the other exits make of that; afterwards the terms are what is held in the end.
pub record IsPending (nodes : List TermNode) (s : Sweep) (from : ℕ) (x : TermReading) (rest : ℕ) (before after go : Held) : Type 0 where
  pub some : Bool
  pub tells : Tells nodes x rest some
  pub goes : some ≡ true → after ≡ go
  pub shows : ShowsAt nodes s from x (held_if some before after)

-- An exit is tried: where none was taken before it, it is taken as a test says, and then the walk goes on by it, as far as what it needs to be so is so.
abbrev pub Tries : (old new : List TermNode) → (s z : Sweep) → (rest left : ℕ) → (TermReading → Bool → Type 0) → (ℕ → TermReading → Walk → Bool → Type 0) →
    Type 0
Tries old new s z rest left Takes Is =
    (x : TermReading) → InRange x → (from : ℕ) (w : Walk) (q : Bool) → (term_word x old rest ≡ 1 → Takes x q) →
    ((b : Bool) → (b ≡ true → term_word x old rest ≡ 1) → Is from x w b) →
    (before after go then_go : Held) → go ≡ held_if q (hand w before) then_go → IsPending old s from x rest before after go →
    IsPending new z from x left before after then_go

-- where no exit was taken, none was before, and the one tried was not
abbrev pub Narrows : (old new : List TermNode) → (rest left : ℕ) → (TermReading → Bool → Type 0) → Type 0
Narrows old new rest left Takes = (x : TermReading) → InRange x → term_word x new left ≡ 1 → (term_word x old rest ≡ 1) × Takes x false

-- a bit tells whether the exit is taken
abbrev pub TakenBy : (nodes : List TermNode) → (bit : ℕ) → TermReading → Bool → Type 0
TakenBy nodes bit x q = Tells nodes x bit q

-- where the terms are a state, the test says that a line is false in it, with the state at entry
pub record LineFails (nodes : List TermNode) (s : Sweep) (big : Bool) (e : Expr) (n : Now) (x : TermReading) (q : Bool) : Type 0 where
  pub carried : Carried
  pub at : ℕ
  pub is : IsStateOf nodes x n carried at
  pub fails : q ≡ not (is_true (value (endian big) e (state_at carried at) (state_at (at_entry x) s.at)))
