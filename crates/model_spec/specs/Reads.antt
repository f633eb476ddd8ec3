-- The bytes of memory that lines and rows read: of a reading's run, those that its lines and its rows load.
use Rattle.std.specs.Prelude.{ℕ, zero, suc, ◌==◌, Bool, true, false, if◌then◌else◌, List, [], ◌∷◌, ◌++◌, Option, Some, None}
use Rattle.word_spec.specs.Words.{word}
use Rattle.word_spec.specs.Memory.{Endian, span}
use Rattle.word_spec.specs.State.{State}
use Rattle.machine_spec.specs.Machine.{Row, Outcome, Goes, Raises, addresses}
use Rattle.machine_spec.specs.Endings.{EnsureFails}
use Rattle.bilv_spec.specs.Notes.{Expr, Number, Register, Flag, Pc, Bound, Memory, Old, Not, Binary, NoteLine, Assert, value, is_true}
use Rattle.bilv_spec.specs.Run.{Program, Place, Step, Stops, Arrives, Exits, Run, Going, Exited, Failed, Turned, fetchable, false_assert, writes_kept, after_row}
use Rattle.bilv_spec.specs.Questions.{Reading, by_file, point_of, read_run}

-- the addresses that an expression reads
abbrev pub expression_reads : Endian → Expr → State → State → List ℕ
expression_reads e (Memory n a) now entry = expression_reads e a now entry ++ span (word 32 (value e a now entry)) n
expression_reads e (Old a) now entry = expression_reads e a entry entry
expression_reads e (Not a) now entry = expression_reads e a now entry
expression_reads e (Binary op a b) now entry = expression_reads e a now entry ++ expression_reads e b now entry
expression_reads e (Number n) now entry = []
expression_reads e (Register r) now entry = []
expression_reads e (Flag f) now entry = []
expression_reads e Pc now entry = []
expression_reads e Bound now entry = []

-- those of lines, up to the first that is false
abbrev pub line_reads : Endian → List NoteLine → State → State → List ℕ
line_reads e [] now entry = []
line_reads e (l ∷ rest) now entry =
    expression_reads e l.says now entry ++ (if is_true (value e l.says now entry) then line_reads e rest now entry else [])

-- those of the assert lines of the address, up to the first that is false
abbrev pub assert_reads : Endian → List Assert → State → State → List ℕ
assert_reads e [] now entry = []
assert_reads e (a ∷ rest) now entry =
    if a.at == now.pc
    then expression_reads e a.says now entry ++ (if is_true (value e a.says now entry) then assert_reads e rest now entry else [])
    else assert_reads e rest now entry

-- the step exits, whether the ensure lines are true or not
abbrev pub is_exit_step : Step → Bool
is_exit_step (Exits s) = true
is_exit_step (Stops (EnsureFails n)) = true
is_exit_step (Stops e) = false
is_exit_step (Arrives c) = false

-- those of the lines that judge an exit, in the state that the row reaches
abbrev pub exit_reads : (exits : Bool) → Program → (entry new : State) → List ℕ
exit_reads true p entry new = line_reads p.machine.endian p.notes.ensures new entry
exit_reads false p entry new = []

-- what a row comes to is judged as a step is
abbrev pub outcome_reads : Program → (entry : State) → Row → Place → Outcome → List ℕ
outcome_reads p entry row c (Goes how new) =
    exit_reads (is_exit_step (after_row p entry row c.state c.stack (writes_kept p row c.state) (Goes how new))) p entry new
outcome_reads p entry row c (Raises e) = []

-- those of the row that is reached, and of its exit
abbrev pub row_reads : Option Row → Program → (entry : State) → Place → (choice : ℕ) → List ℕ
row_reads None p entry c choice = []
row_reads (Some row) p entry c choice = addresses (row.loaded c.state) ++ outcome_reads p entry row c (row.effect c.state choice)

abbrev pub fetched_reads : (fetched : Bool) → Program → (entry : State) → Place → (choice : ℕ) → List ℕ
fetched_reads true p entry c choice = row_reads (p.machine.row (p.word c.state c.state.pc)) p entry c choice
fetched_reads false p entry c choice = []

-- what is reached where no assert line is false
abbrev pub reads_after : Option ℕ → Program → (entry : State) → Place → (choice : ℕ) → List ℕ
reads_after (Some line) p entry c choice = []
reads_after None p entry c choice = fetched_reads (fetchable p (p.word c.state c.state.pc) c.state.pc) p entry c choice

-- the addresses that a step reads, in the order in which it is judged
abbrev pub step_reads : Program → (entry : State) → Place → (choice : ℕ) → List ℕ
step_reads p entry c choice =
    assert_reads p.machine.endian p.notes.asserts c.state entry
    ++ reads_after (false_assert p.machine.endian p.notes.asserts c.state entry) p entry c choice

-- those of a reading's run at a step
abbrev pub run_reads_at : Program → Reading → Run → List ℕ
run_reads_at p r (Going turns n c) = step_reads (by_file p) r.state c (r.choice (point_of turns c))
run_reads_at p r (Exited at n) = []
run_reads_at p r (Failed e at n) = []
run_reads_at p r (Turned at n) = []

-- and in its first steps
unfoldable pub run_reads : Program → (k : ℕ) → Reading → (steps : ℕ) → List ℕ
run_reads p k r zero = []
run_reads p k r (suc n) = run_reads p k r n ++ run_reads_at p r (read_run p k r n)
