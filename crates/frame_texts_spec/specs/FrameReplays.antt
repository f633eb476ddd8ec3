-- What the command that replays a report answers to one over frames, for notes with invariants and no contracts.
use Rattle.std.specs.Prelude.{ℕ, ◌≡◌, ◌↔◌, Bool, true, false, ◌==◌, ◌&&◌, nat_lt, List, [], ◌∷◌, ◌++◌, codes, Option, Some, None, is_some, length}
use Rattle.word_spec.specs.State.{State}
use Rattle.word_spec.specs.Texts.{line, number_text, spaced, joined}
use Rattle.clause_spec.specs.Checks.{text_limit}
use Rattle.machine_spec.specs.Machine.{is_place}
use Rattle.machine_spec.specs.Endings.{place_words}
use Rattle.machine_spec.specs.StateText.{Layout}
use Rattle.call_spec.specs.Calls.{Answer, plain_answer}
use Rattle.bilv_spec.specs.Run.{Program, Place, false_assert}
use Rattle.bilv_spec.specs.Points.{is_kept_at, is_known_at}
use Rattle.bilv_spec.specs.PointLaws.{IsReturnAddress}
use Rattle.bilv_spec.specs.EntryFaults.{false_require}
use Rattle.bilv_spec.specs.Reports.{turns_within}
use Rattle.bilv_spec.specs.Replays.{same_event, state_fault_words}
use Rattle.frame_spec.specs.Frames.{Frame, FrameEvent, OfStep, InvariantFails, NeedsFails, WritesFails, GivesFails, ModifiesFails, invariants_of, is_head}
use Rattle.frame_spec.specs.FrameRuns.{Start}
use Rattle.frame_spec.specs.FrameFound.{Found, FoundExit, FoundEvent, FoundTurn, FoundCut, FoundBreak, FoundLeft, found}
use Rattle.frame_spec.specs.FrameVerdict.{Whole, entry_frame}
use Rattle.frame_spec.specs.FrameReports.{shown_start}
use Rattle.frame_texts_spec.specs.FrameTexts.{FramedEnding, FramedFails, FramedTurns, NotInductiveBy, shown_of, ending_words, Checks, FrameFault, OfPart, HeadFault, FramedTold, FramedIs, FramedRefused, framed_of}

-- a test of addresses tells those that a call of the program returns to
abbrev pub TellsReturns : Program → (ℕ → Bool) → Type 0
TellsReturns p returns = (a : ℕ) → (returns a ≡ true) ↔ IsReturnAddress p a

-- what a reader of a report is told besides its text, by a test of return addresses
abbrev pub checks_of : Whole → (returns : ℕ → Bool) → Checks
checks_of w returns = record { known = is_known_at w.program; kept = is_kept_at w.program; heads = is_head (entry_frame w); returns = returns }

-- the text of a fault
abbrev pub frame_fault_words : FrameFault → List ℕ
frame_fault_words (OfPart f) = state_fault_words f
frame_fault_words HeadFault = codes "S6 Head"

-- two events are the same
abbrev pub same_frame_event : FrameEvent → FrameEvent → Bool
same_frame_event (OfStep e) (OfStep f) = same_event e f
same_frame_event (InvariantFails m) (InvariantFails n) = m == n
same_frame_event (NeedsFails m) (NeedsFails n) = m == n
same_frame_event WritesFails WritesFails = true
same_frame_event (GivesFails m) (GivesFails n) = m == n
same_frame_event ModifiesFails ModifiesFails = true
same_frame_event _ _ = false

-- how an event of a segment is named: one of a segment from a head shows that the invariants are not inductive
abbrev pub event_ending : (from_head : Bool) → FrameEvent → (at step : ℕ) → FramedEnding
event_ending false e at step = FramedFails e at step
event_ending true e at step = NotInductiveBy e at step

-- two endings by an event are the same
abbrev pub same_ending : FramedEnding → FramedEnding → Bool
same_ending (FramedFails e at step) (FramedFails f a n) = same_frame_event e f && (at == a) && (step == n)
same_ending (NotInductiveBy e at step) (NotInductiveBy f a n) = same_frame_event e f && (at == a) && (step == n)
same_ending _ _ = false

-- the named ending is one of these transfers
abbrev pub is_turn : FramedEnding → (at step : ℕ) → Bool
is_turn (FramedTurns k at step) a n = (at == a) && (step == n)
is_turn _ a n = false

-- the named ending is what was found of a segment
abbrev pub is_found : FramedEnding → (from_head : Bool) → Found → Bool
is_found named h (FoundEvent e at step) = same_ending named (event_ending h e at step)
is_found named h (FoundTurn at step) = is_turn named at step
is_found named h _ = false

-- the bound on backward transfers that an ending names
abbrev pub bound_of : FramedEnding → Option ℕ
bound_of (FramedFails e at step) = None
bound_of (FramedTurns k at step) = Some k
bound_of (NotInductiveBy e at step) = None

-- the number of its step
abbrev pub step_of : FramedEnding → ℕ
step_of (FramedFails e at step) = step
step_of (FramedTurns k at step) = step
step_of (NotInductiveBy e at step) = step

-- what the segment of a report is found to end in, in the steps up to the one that is named
abbrev pub found_of : Frame → FramedEnding → Start → Found
found_of f n start = found f (bound_of n) start (step_of n)

-- The words of what is found, where so many backward transfers were allowed. Contract steps alone can break a line of what their contract gives.
abbrev pub found_words : (from_head : Bool) → (k : ℕ) → Found → List (List ℕ)
found_words h k (FoundExit at step) = codes "exit" ∷ place_words at step
found_words h k (FoundEvent e at step) = ending_words (event_ending h e at step)
found_words h k (FoundTurn at step) = ending_words (FramedTurns k at step)
found_words h k (FoundCut at step) = codes "cut" ∷ place_words at step
found_words h k (FoundBreak n at step) = codes "gives" ∷ number_text n ∷ place_words at step
found_words h k (FoundLeft at step) = codes "running" ∷ place_words at step

-- the named ending, and what was found in its place
abbrev pub found_text : FramedEnding → (from_head : Bool) → Found → List ℕ
found_text n h f =
    line (codes "replay: named " ++ joined (ending_words n) ++ codes ", found " ++ joined (found_words h (turns_within (step_of n) (bound_of n)) f))

-- the answer by whether what was found is what was named
abbrev pub ending_answer : (is_named : Bool) → FramedEnding → (from_head : Bool) → Found → Answer
ending_answer true n h f = plain_answer 0 (line (codes "replayed " ++ joined (ending_words n)))
ending_answer false n h f = plain_answer 9 (found_text n h f)

-- the first invariant of the head that is false in the head state, if there is one
abbrev pub false_at_head : Frame → (entry : State) → (head : Option Place) → Option ℕ
false_at_head f entry None = None
false_at_head f entry (Some c) = false_assert f.program.machine.endian (invariants_of f f.program.notes.asserts) c.state entry

-- the answer by that invariant
abbrev pub head_answer : Option ℕ → FramedEnding → (from_head : Bool) → Found → Answer
head_answer (Some n) named h f = plain_answer 9 (line (codes "state: invariant" ++ spaced (number_text n ∷ [])))
head_answer None named h f = ending_answer (is_found named h f) named h f

-- the answer by the first false require line of the start
abbrev pub require_answer : Option ℕ → (head : Option ℕ) → FramedEnding → (from_head : Bool) → Found → Answer
require_answer (Some n) head named h f = plain_answer 9 (line (codes "state: require" ++ spaced (number_text n ∷ [])))
require_answer None head named h f = head_answer head named h f

-- the answer by whether a row can stand at the address in the link register
abbrev pub start_answer : (is_aligned : Bool) → Frame → FramedEnding → Start → Answer
start_answer false f n start = plain_answer 9 (line (codes "state: link"))
start_answer true f n start =
    require_answer (false_require f.program start.state) (false_at_head f start.state start.head) n (is_some start.head) (found_of f n start)

-- the answer to a named ending with a start
abbrev pub run_answer : Frame → FramedEnding → Start → Answer
run_answer f n start = start_answer (is_place f.program.machine.narrow (start.state.regs f.program.machine.link)) f n start

-- the answer to what a text says
abbrev pub told_answer : Whole → Layout → FramedTold → Answer
told_answer w layout (FramedRefused n f) = plain_answer 9 (line (codes "state: line" ++ spaced (number_text n ∷ frame_fault_words f ∷ [])))
told_answer w layout (FramedIs t) = run_answer (entry_frame w) t.named (shown_start w (entry_frame w) layout (shown_of t))

-- the answer by whether a text is too long
abbrev pub sized_answer : (is_large : Bool) → Whole → (returns : ℕ → Bool) → Layout → List ℕ → Answer
sized_answer true w returns layout text = plain_answer 9 (line (codes "state: TooLarge"))
sized_answer false w returns layout text = told_answer w layout (framed_of layout (checks_of w returns) text)

-- The answer to a report, over a program that is found and for a test of its return addresses: the first of its causes.
abbrev pub frame_replay_answer : Whole → (returns : ℕ → Bool) → Layout → List ℕ → Answer
frame_replay_answer w returns layout text = sized_answer (nat_lt text_limit (length text)) w returns layout text
