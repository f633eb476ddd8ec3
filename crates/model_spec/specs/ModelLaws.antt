-- Laws of the answers of outside solvers.
use Rattle.std.specs.Prelude.{ℕ, ◌≡◌, ◌≤◌, ◌<◌, ◌^◌, ◌↔◌, true, Some, List, [], codes, length, slice_get, slice_index_or}
use Rattle.word_spec.specs.State.{Written}
use Rattle.machine_spec.specs.StateText.{Layout}
use Rattle.word_spec.specs.Memory.{Memory}
use Rattle.call_spec.specs.Calls.{Options, Question}
use Rattle.bilv_spec.specs.Files.{layout_of}
use Rattle.bilv_spec.specs.Run.{Program, Run, Going, Exited, Failed, Turned, run}
use Rattle.bilv_spec.specs.Verdict.{IsEntryState, IsStart}
use Rattle.bilv_spec.specs.Points.{Point}
use Rattle.bilv_spec.specs.Questions.{Reading, IsReading, IsTrue, read_run}
use Rattle.bilv_spec.specs.PointLaws.{HasLawfulRows, ReadsMemory}
use Rattle.bilv_spec.specs.Answers.{start_in}
use Rattle.bilv_spec.specs.Scripts.{IsScript, values_of, choice_name}
use Rattle.bilv_spec.specs.SmtLib.{WordValue, ArrayValue, commands_truth}
use Rattle.model_spec.specs.ModelText.{Declared, Definition, ModelFault, IsModelFault, IsAnswer}
use Rattle.model_spec.specs.Models.{given, word_of, memory_of, IsReadingOf, IsPrinted}

-- a text has at most one first fault, and an answer has none
abbrev pub OneModelFault : Type 0
OneModelFault = (declared : List Declared) (text : List ℕ) (n m : ℕ) (f g : ModelFault) (ds : List Definition) → IsModelFault declared text n f →
    (IsModelFault declared text m g → (n ≡ m) × (f ≡ g)) × ¬ IsAnswer declared text ds

-- A script is true under the values of an answer's reading exactly where the question is true of the reading.
abbrev pub ModelsAreOfScripts : Type 0
ModelsAreOfScripts =
    (p : Program) (layout : Layout) (k : ℕ) (kind : Question) (text : List ℕ) (s : IsScript p layout k kind text) (ds : List Definition) (r : Reading) →
    IsReadingOf p layout s.points ds r →
    (commands_truth (values_of layout s.points r) s.commands ≡ Some true) ↔ IsTrue p k r kind

-- The values of an answer's reading are those that the answer gives: of each register, flag and choice the word, and of the memory each byte.
abbrev pub ValuesAreGiven : Type 0
ValuesAreGiven =
    (p : Program) (o : Options) (file : List ℕ) (points : List Point) (ds : List Definition) (r : Reading) → IsReadingOf p (layout_of o file) points ds r →
    length points < 2 ^ 64 →
    let values = values_of (layout_of o file) points r in
    let registers = (layout_of o file).registers in
    let flags = (layout_of o file).flags in
    ((i : ℕ) → i < length registers → values (slice_index_or registers i []) ≡ Some (WordValue 32 (word_of (given ds (slice_index_or registers i [])))))
    × ((i : ℕ) → i < length flags → values (slice_index_or flags i []) ≡ Some (WordValue 1 (word_of (given ds (slice_index_or flags i [])))))
    × ((n : ℕ) (point : Point) → slice_get points n ≡ Some point → values (choice_name n) ≡ Some (WordValue 2 (word_of (given ds (choice_name n)))))
    × ((m : Memory) × (values (codes "mem") ≡ Some (ArrayValue m)) × ((a : ℕ) → a < 2 ^ 32 → m a ≡ memory_of p (given ds (codes "mem")) a))

-- two runs stand alike, but for memory, or have ended alike
abbrev pub StandAlike : Run → Run → Type 0
StandAlike (Going turns n c) (Going other m d) =
    (turns ≡ other) × (n ≡ m) × (c.stack ≡ d.stack) × (c.state.pc ≡ d.state.pc) × (c.state.regs ≡ d.state.regs) × (c.state.flags ≡ d.state.flags)
StandAlike (Exited at n) (Exited other m) = (at ≡ other) × (n ≡ m)
StandAlike (Failed e at n) (Failed f other m) = (e ≡ f) × (at ≡ other) × (n ≡ m)
StandAlike (Turned at n) (Turned other m) = (at ≡ other) × (n ≡ m)
StandAlike r s = ⊥

-- The start that is printed of a reading in so many steps is a start, and for these steps its run is the reading's but for memory. The bytes that no line and
-- no row reads are 0 in it.
abbrev pub PrintedRunsAlike : Type 0
PrintedRunsAlike = (p : Program) → HasLawfulRows p → ReadsMemory p →
    (layout : Layout) (k steps : ℕ) (r : Reading) (w : Written) → IsReading r → IsEntryState p r.state → IsPrinted p layout k r steps w →
    r.state.regs ≡ (start_in p layout w).state.regs → r.state.flags ≡ (start_in p layout w).state.flags →
    IsStart p (start_in p layout w)
    × ((n : ℕ) → n ≤ steps → StandAlike (read_run p k r n) (run p k (start_in p layout w) n))
