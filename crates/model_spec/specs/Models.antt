-- Whether an outside solver's values make a question true, and what is answered then.
use Rattle.std.specs.Prelude.{ℕ, ◌≡◌, ◌≢◌, ◌≤◌, ◌<◌, ◌+◌, ◌-◌, ◌^◌, ◌↔◌, true, false, ◌==◌, List, [], ◌∷◌, ◌++◌, Option, Some, None, codes, length, map, slice_get, slice_index, slice_index_or, Contains, if◌then◌else◌}
use Rattle.std.specs.Str.{bytes_eq}
use Rattle.word_spec.specs.Words.{bit_at}
use Rattle.word_spec.specs.Memory.{Memory}
use Rattle.bilv_spec.specs.Run.{Program, Place, Going, Failed, Turned}
use Rattle.machine_spec.specs.Endings.{Start, Event}
use Rattle.bilv_spec.specs.Points.{Point, HasMore, IsPrice, is_known_at, file_row}
use Rattle.bilv_spec.specs.Questions.{Reading, IsReading, IsTrue, point_of, read_run}
use Rattle.call_spec.specs.Calls.{Question, EntryQuestion, FailQuestion, TurnQuestion, Budget, Answer, plain_answer, RunOf, Count}
use Rattle.machine_spec.specs.StateText.{Layout, IsWritten, block_text}
use Rattle.word_spec.specs.State.{Written}
use Rattle.bilv_spec.specs.Scripts.{AreNumbered, symbols_of, choice_name, draws}
use Rattle.bilv_spec.specs.Answers.{IsWithin, budget_text, start_in, EndsAs, known_byte, FailsReport, UnrollReport, report_text}
use Rattle.clause_spec.specs.Checks.{text_limit}
use Rattle.word_spec.specs.Texts.{line, spaced, number_text}
use Rattle.model_spec.specs.ModelText.{Value, WordIs, ConstantIs, StoredIs, Definition, Gives, PassedOver, Words, Memories, Declared, ModelFault, AnswerFault, SyntaxFault, SortFault, TwiceFault, IsModelFault, IsAnswer}
use Rattle.model_spec.specs.Reads.{line_reads, run_reads}

-- ---- the values of an answer

-- the value of a name, if the answer gives one
abbrev pub given : List Definition → List ℕ → Option Value
given [] w = None
given (Gives name sort v ∷ ds) w = if bytes_eq name w then Some v else given ds w
given (PassedOver ∷ ds) w = given ds w

-- a word that is not given is 0
abbrev pub word_of : Option Value → ℕ
word_of (Some (WordIs n v)) = v
word_of other = 0

-- the byte of an array at an address: the last store there, and else the constant
abbrev pub byte_of : Value → Memory
byte_of (WordIs n v) a = 0
byte_of (ConstantIs sort n v) a = v
byte_of (StoredIs array m i n v) a = if a == i then v else byte_of array a

-- a memory that is not given has the file's kept and fixed bytes, and 0 elsewhere
abbrev pub known_or_zero : Option ℕ → ℕ
known_or_zero None = 0
known_or_zero (Some b) = b

abbrev pub memory_of : Program → Option Value → Memory
memory_of p None a = known_or_zero (known_byte p a)
memory_of p (Some v) a = byte_of v a

-- The reading of an answer, whose choices are those of the points by their numbers. It stands at the entry.
pub record IsReadingOf (p : Program) (layout : Layout) (points : List Point) (ds : List Definition) (r : Reading) : Type 0 where
  pub reading : IsReading r
  pub pc : r.state.pc ≡ p.entry
  pub regs : (i : ℕ) → i < length layout.registers → r.state.regs (layout.first + i) ≡ word_of (given ds (slice_index_or layout.registers i []))
  pub flags : (f : ℕ) → f < length layout.flags → r.state.flags f ≡ word_of (given ds (slice_index_or layout.flags (length layout.flags - 1 - f) []))
  pub mem : (a : ℕ) → a < 2 ^ 32 → r.state.mem a ≡ memory_of p (given ds (codes "mem")) a
  pub choice : (n : ℕ) (point : Point) → slice_get points n ≡ Some point → r.choice point ≡ word_of (given ds (choice_name n))

-- ---- the start that is printed

-- the steps of the run of a question's end, the last included; an entry has none
abbrev pub steps_of : Question → (last : ℕ) → ℕ
steps_of EntryQuestion last = 0
steps_of FailQuestion last = last + 1
steps_of TurnQuestion last = last + 1

-- the addresses that the require lines and the run read
abbrev pub all_reads : Program → (k : ℕ) → Reading → (steps : ℕ) → List ℕ
all_reads p k r steps = line_reads p.machine.endian p.notes.requires r.state r.state ++ run_reads p k r steps

-- the run stands at a step, at a point whose row reads the choice
pub record DrawsAt (p : Program) (k : ℕ) (r : Reading) (step choice : ℕ) : Type 0 where
  pub turns : ℕ
  pub place : Place
  pub before : read_run p k r step ≡ Going turns step place
  pub draws_there : draws (file_row p place.state.pc) ≡ true
  pub choice_is : choice ≡ r.choice (point_of turns place)

-- The start that is printed: the reading's registers and flags, its bytes that are read, are not 0 and are not the file's, and its choices along the run that
-- are drawn and not 0.
pub record IsPrinted (p : Program) (layout : Layout) (k : ℕ) (r : Reading) (steps : ℕ) (w : Written) : Type 0 where
  pub written : IsWritten layout (is_known_at p) w
  pub regs : (i : ℕ) → i < length layout.registers → slice_index w.regs i ≡ r.state.regs (layout.first + i)
  pub flags : (f : ℕ) → f < length layout.flags → bit_at f w.flags ≡ r.state.flags f
  pub bytes : (a b : ℕ) → Contains w.bytes (a, b) ↔
      ((a < 2 ^ 32) × Contains (all_reads p k r steps) a × (is_known_at p a ≡ false) × (b ≡ r.state.mem a) × (b ≢ 0))
  pub choices : (i c : ℕ) → Contains w.choices (i, c) ↔ ((i < steps) × DrawsAt p k r i c × (c ≢ 0))

-- how the run of the printed start ends, and the report of it
pub data Ending : Type 0 where
  EndsAtEntry : Ending
  EndsFailed : Event → (at step : ℕ) → Ending
  EndsTurned : (at step : ℕ) → Ending

abbrev pub last_of : Ending → ℕ
last_of EndsAtEntry = 0
last_of (EndsFailed e at step) = step
last_of (EndsTurned at step) = step

abbrev pub IsEndOf : Program → (k : ℕ) → Start → Question → Ending → Type 0
IsEndOf p k start EntryQuestion EndsAtEntry = Unit {0}
IsEndOf p k start FailQuestion (EndsFailed e at step) = EndsAs p k start (Failed e at step)
IsEndOf p k start TurnQuestion (EndsTurned at step) = EndsAs p k start (Turned at step)
IsEndOf p k start question ending = ⊥

abbrev pub ending_text : Layout → Budget → Ending → Written → List ℕ
ending_text layout b EndsAtEntry w = block_text layout w
ending_text layout b (EndsFailed e at step) w = report_text layout b (FailsReport e at step) (RunOf w)
ending_text layout b (EndsTurned at step) w = report_text layout b (UnrollReport at step) (RunOf w)

-- ---- the answer

abbrev pub model_fault_words : ModelFault → List ℕ
model_fault_words AnswerFault = codes "A1 Answer"
model_fault_words SyntaxFault = codes "A2 Syntax"
model_fault_words SortFault = codes "A3 Sort"
model_fault_words TwiceFault = codes "A4 Twice"

-- the symbols that the script of the program's questions declares, with their sorts
pub record AreDeclared (p : Program) (layout : Layout) (points : List Point) (declared : List Declared) : Type 0 where
  pub names : map (λ d. d.name) declared ≡ symbols_of p layout points
  pub registers : (i : ℕ) → i < length layout.registers → Contains declared (record { name = slice_index_or layout.registers i []; sort = Words 32 })
  pub flags : (i : ℕ) → i < length layout.flags → Contains declared (record { name = slice_index_or layout.flags i []; sort = Words 1 })
  pub memory : Contains declared (record { name = codes "mem"; sort = Memories })
  pub choices : (d : Declared) → Contains declared d → (n : ℕ) → d.name ≡ choice_name n → d.sort ≡ Words 2

-- What is answered where the budgets for points and for the size are met, and else which of them is exceeded.
pub data AfterBudgets (p : Program) (b : Budget) (Next : Answer → Type 0) (x : Answer) : Type 0 where
  points : HasMore p b.unroll b.points → x ≡ record { status = 3; text = budget_text (codes "points") b.points; evidence = Count (b.points + 1) } →
      AfterBudgets p b Next x
  size : (price : ℕ) → (¬ HasMore p b.unroll b.points) → IsPrice p b.unroll price → b.size < price →
      x ≡ record { status = 3; text = budget_text (codes "size") b.size; evidence = Count price } → AfterBudgets p b Next x
  within : IsWithin p b → Next x → AfterBudgets p b Next x

-- What is answered to the text of an answer, over a program that is found and within the budgets.
pub data IsModelAnswer (p : Program) (layout : Layout) (b : Budget) (kind : Question) (text : List ℕ) (x : Answer) : Type 0 where
  large : text_limit < length text → x ≡ plain_answer 9 (line (codes "model: TooLarge")) → IsModelAnswer p layout b kind text x
  refused : {points : List Point} {declared : List Declared} (n : ℕ) (f : ModelFault) → length text ≤ text_limit → AreNumbered p b.unroll points →
      AreDeclared p layout points declared → IsModelFault declared text n f →
      x ≡ plain_answer 9 (line (codes "model: line" ++ spaced (number_text n ∷ model_fault_words f ∷ []))) → IsModelAnswer p layout b kind text x
  untrue : {points : List Point} {declared : List Declared} {ds : List Definition} (r : Reading) → length text ≤ text_limit →
      AreNumbered p b.unroll points → AreDeclared p layout points declared → IsAnswer declared text ds → IsReadingOf p layout points ds r →
      ¬ IsTrue p b.unroll r kind → x ≡ plain_answer 9 (line (codes "model: false")) → IsModelAnswer p layout b kind text x
  accepted : {points : List Point} {declared : List Declared} {ds : List Definition} (r : Reading) (w : Written) (ending : Ending) →
      length text ≤ text_limit → AreNumbered p b.unroll points → AreDeclared p layout points declared → IsAnswer declared text ds →
      IsReadingOf p layout points ds r → IsTrue p b.unroll r kind → IsEndOf p b.unroll (start_in p layout w) kind ending →
      IsPrinted p layout b.unroll r (steps_of kind (last_of ending)) w →
      x ≡ record { status = 0; text = line (codes "accepted") ++ ending_text layout b ending w; evidence = RunOf w } →
      IsModelAnswer p layout b kind text x

-- What is answered where the question is true of no reading, as that about head states is of a program, which has none.
pub data IsFalseModelAnswer (p : Program) (layout : Layout) (b : Budget) (text : List ℕ) (x : Answer) : Type 0 where
  too_large : text_limit < length text → x ≡ plain_answer 9 (line (codes "model: TooLarge")) → IsFalseModelAnswer p layout b text x
  faulty : {points : List Point} {declared : List Declared} (n : ℕ) (f : ModelFault) → length text ≤ text_limit → AreNumbered p b.unroll points →
      AreDeclared p layout points declared → IsModelFault declared text n f →
      x ≡ plain_answer 9 (line (codes "model: line" ++ spaced (number_text n ∷ model_fault_words f ∷ []))) → IsFalseModelAnswer p layout b text x
  never_true : {points : List Point} {declared : List Declared} {ds : List Definition} → length text ≤ text_limit → AreNumbered p b.unroll points →
      AreDeclared p layout points declared → IsAnswer declared text ds → x ≡ plain_answer 9 (line (codes "model: false")) →
      IsFalseModelAnswer p layout b text x

-- what is answered by the question, where it is one of a program
abbrev pub IsAskedModelAnswer : Program → Layout → Budget → Option Question → (text : List ℕ) → Answer → Type 0
IsAskedModelAnswer p layout b None = IsFalseModelAnswer p layout b
IsAskedModelAnswer p layout b (Some kind) = IsModelAnswer p layout b kind
