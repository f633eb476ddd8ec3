-- The entry condition as a term.
use Rattle.std.specs.Prelude.{ℕ, ◌≡◌, ◌+◌, ◌*◌, Bool, ◌&&◌, List, [], map, sum_by, Contains}
use Rattle.std.specs.List.{list_all}
use Rattle.word_spec.specs.Words.{bit}
use Rattle.word_spec.specs.Memory.{Endian, endian}
use Rattle.machine_spec.specs.Machine.{is_place}
use Rattle.word_spec.specs.State.{State}
use Rattle.bilv_spec.specs.Notes as notes
use Rattle.bilv_spec.specs.Notes.{Expr, value, is_true}
use Rattle.bilv_spec.specs.Points.{line_price, bytes_loaded}
use Rattle.term_spec.specs.Terms.{TermReading, InRange, TermNode, AreTyped, HasWidth, term_word}
use Rattle.walk_spec.specs.Unrolled.{Carried, UnrolledProgram, state_at}
use Rattle.walk_spec.specs.Unrolling.{IsReadable}
use Rattle.walk_spec.specs.Prices.{entry_lines, line_steps, variables_of}
use Rattle.term_spec.specs.WalkQuestions.{IsNamedBelow}
use Rattle.term_dag.specs.Made.{Grew, InputsFrom}
use Rattle.notes_value.specs.declared.notes.NoteLine.{NoteLine}
use Rattle.notes_value.specs.Views.{expr_of}
use Rattle.term_names.specs.Chosen.{at_entry}
use Rattle.note_terms.specs.declared.Now.{Now}
use Rattle.note_terms.specs.Lines.{IsStateOf}

-- what lines say
abbrev pub said : List NoteLine → List Expr
said lines = map (λ l. expr_of l.says) lines

-- all lines are true in a state, with a state at entry
abbrev pub all_hold : Endian → List Expr → (now entry : State) → Bool
all_hold e lines now entry = list_all (λ l. is_true (value e l now entry)) lines

-- all lines are true in a state at entry
abbrev pub all_true : Endian → List Expr → State → Bool
all_true e lines s = all_hold e lines s s

-- A bit says whether a first one is 1 and all lines are true in the state now, with the state at entry. It costs the lines' prices.
pub record AreTrue (old new : List TermNode) (big : Bool) (now entry : Now) (first : ℕ) (lines : List Expr) (t : ℕ) : Type 0 where
  pub grew : Grew old new (sum_by line_price lines) (sum_by bytes_loaded lines) 0 0 (4 * line_steps lines)
  pub inputs : InputsFrom old new (λ m. ⊥)
  pub typed : AreTyped new
  pub width : HasWidth new 1 t
  pub value : (x : TermReading) → InRange x → (c d : Carried) (at from : ℕ) → IsStateOf old x now c at → IsStateOf old x entry d from → (b : Bool) →
      term_word x old first ≡ bit b → term_word x new t ≡ bit (b && all_hold (endian big) lines (state_at c at) (state_at d from))

-- whether the entry condition is met, but for the bytes of the file
abbrev pub meets : UnrolledProgram → State → Bool
meets u s = is_place u.narrow (s.regs u.link) && all_true u.endian (entry_lines u) s

-- the lines that are required of entry states can be read
abbrev pub HasReadableLines : UnrolledProgram → Type 0
HasReadableLines u = (l : notes.NoteLine) → Contains u.requires l → IsReadable u l.says

-- the program without its points: the entry condition hangs on nothing of them
abbrev pub without_points : UnrolledProgram → UnrolledProgram
without_points u = record u { points = [] }

-- A bit says whether the entry condition is met, but for the bytes of the file. It costs two gates and the required lines' prices.
pub record IsEntryBit (u : UnrolledProgram) (old new : List TermNode) (t : ℕ) : Type 0 where
  pub grew : Grew old new (2 + sum_by line_price (entry_lines u)) (sum_by bytes_loaded (entry_lines u)) 0 0
      (2 * variables_of u + 8 + 4 * line_steps (entry_lines u))
  pub inputs : InputsFrom old new (IsNamedBelow (without_points u) 0)
  pub typed : AreTyped new
  pub width : HasWidth new 1 t
  pub value : (x : TermReading) → InRange x → term_word x new t ≡ bit (meets u (state_at (at_entry x) u.entry))
