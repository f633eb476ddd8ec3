-- What the commands that replay a report and check a certificate answer.
use Rattle.std.specs.Prelude.{ℕ, Bool, true, false, ◌==◌, ◌&&◌, nat_lt, List, [], ◌∷◌, ◌++◌, codes, Option, Some, None, length}
use Rattle.machine_spec.specs.Machine.{is_place}
use Rattle.bilv_spec.specs.Run.{Program}
use Rattle.machine_spec.specs.Endings.{Start, Event, AssertFails, FetchFails, NoRow, HalfwordFails, CodeWritten, Trapped, AlignFails, JumpFails, EnsureFails, NamedEnding, FailsBy, UnknownBy, named_line, named_step}
use Rattle.bilv_spec.specs.Points.{is_known_at}
use Rattle.bilv_spec.specs.EntryFaults.{false_require}
use Rattle.bilv_spec.specs.Reports.{Found, FoundEvent, FoundTurn, found, found_words, turns_within}
use Rattle.machine_spec.specs.StateText.{Layout, StateFault, StateLineFault, StateRegisterFault, StateByteFault, StateChoiceFault, StateEndFault, Told, StateIs, StateRefused, state_of}
use Rattle.bilv_spec.specs.Answers.{start_in}
use Rattle.call_spec.specs.Calls.{Answer, plain_answer}
use Rattle.word_spec.specs.Texts.{line, number_text, spaced, joined}
use Rattle.clause_spec.specs.Checks.{text_limit}

-- the text of a fault
abbrev pub state_fault_words : StateFault → List ℕ
state_fault_words StateLineFault = codes "S1 Line"
state_fault_words StateRegisterFault = codes "S2 Register"
state_fault_words StateByteFault = codes "S3 Byte"
state_fault_words StateChoiceFault = codes "S4 Choice"
state_fault_words StateEndFault = codes "S5 End"

-- two events are the same
abbrev pub same_event : Event → Event → Bool
same_event (AssertFails m) (AssertFails n) = m == n
same_event FetchFails FetchFails = true
same_event NoRow NoRow = true
same_event HalfwordFails HalfwordFails = true
same_event CodeWritten CodeWritten = true
same_event Trapped Trapped = true
same_event AlignFails AlignFails = true
same_event JumpFails JumpFails = true
same_event (EnsureFails m) (EnsureFails n) = m == n
same_event _ _ = false

-- the named ending is what was found
abbrev pub is_found : NamedEnding → Found → Bool
is_found (FailsBy e at step) (FoundEvent f a n) = same_event e f && (at == a) && (step == n)
is_found (UnknownBy k at step) (FoundTurn a n) = (at == a) && (step == n)
is_found _ _ = false

-- the bound on backward transfers that an ending names
abbrev pub bound_of : NamedEnding → Option ℕ
bound_of (FailsBy e at step) = None
bound_of (UnknownBy k at step) = Some k

-- what the run of a report is found to end in, in the steps up to the one that is named
abbrev pub found_of : Program → NamedEnding → Start → Found
found_of p n start = found p (bound_of n) start (named_step n)

-- the named ending, and what was found in its place
abbrev pub found_text : NamedEnding → Found → List ℕ
found_text n f =
    line (codes "replay: named " ++ named_line n ++ codes ", found " ++ joined (found_words (turns_within (named_step n) (bound_of n)) f))

-- the answer by whether what was found is what was named
abbrev pub ending_answer : (is_named : Bool) → NamedEnding → Found → Answer
ending_answer true n f = plain_answer 0 (line (codes "replayed " ++ named_line n))
ending_answer false n f = plain_answer 9 (found_text n f)

-- the answer by the first false require line of the start
abbrev pub require_answer : Option ℕ → NamedEnding → Found → Answer
require_answer (Some n) named f = plain_answer 9 (line (codes "state: require" ++ spaced (number_text n ∷ [])))
require_answer None named f = ending_answer (is_found named f) named f

-- the answer by whether a row can stand at the address in the link register
abbrev pub start_answer : (is_aligned : Bool) → Program → NamedEnding → Start → Answer
start_answer false p n start = plain_answer 9 (line (codes "state: link"))
start_answer true p n start = require_answer (false_require p start.state) n (found_of p n start)

-- the answer to a named ending with a start
abbrev pub run_answer : Program → NamedEnding → Start → Answer
run_answer p n start = start_answer (is_place p.machine.narrow (start.state.regs p.machine.link)) p n start

-- the answer to what a text says
abbrev pub told_answer : Program → Layout → Told → Answer
told_answer p layout (StateRefused n f) = plain_answer 9 (line (codes "state: line" ++ spaced (number_text n ∷ state_fault_words f ∷ [])))
told_answer p layout (StateIs t) = run_answer p t.named (start_in p layout t.start)

-- the answer by whether a text is too long
abbrev pub sized_answer : (is_large : Bool) → Program → Layout → List ℕ → Answer
sized_answer true p layout text = plain_answer 9 (line (codes "state: TooLarge"))
sized_answer false p layout text = told_answer p layout (state_of layout (is_known_at p) text)

-- the answer to a report, over a program that is found: the first of its causes
abbrev pub replay_answer : Program → Layout → List ℕ → Answer
replay_answer p layout text = sized_answer (nat_lt text_limit (length text)) p layout text
