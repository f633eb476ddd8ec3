-- What the command that replays a report answers to one over the frames of notes with invariants or contracts: the first of its causes. What a contract step is
-- given is judged when the run comes to it, after the events of that step; a block at a step that is no contract step, when the run comes to that step.
use Rattle.std.specs.Prelude.{ℕ, zero, suc, ◌+◌, Bool, true, false, ◌==◌, ◌&&◌, ◌||◌, nat_eq, nat_lt, if◌then◌else◌, List, [], ◌∷◌, ◌++◌, codes, Option, Some, None, is_some, length, filter}
use Rattle.std.specs.List.{list_any, list_all}
use Rattle.word_spec.specs.Texts.{line, number_text, spaced, joined}
use Rattle.clause_spec.specs.Checks.{text_limit}
use Rattle.machine_spec.specs.Machine.{is_place}
use Rattle.machine_spec.specs.StateText.{Layout}
use Rattle.call_spec.specs.Calls.{Answer, plain_answer}
use Rattle.bilv_spec.specs.Run.{Place}
use Rattle.bilv_spec.specs.Points.{is_kept_at, is_known_at}
use Rattle.bilv_spec.specs.EntryFaults.{false_require}
use Rattle.bilv_spec.specs.Reports.{turns_within}
use Rattle.frame_spec.specs.Frames.{Contract, Frame, contract_at, covers, is_head}
use Rattle.frame_spec.specs.FrameRuns.{FrameStep, Halts, GoesTo, Reaches, Calls, Leaves, Breaks, Start, Run, Going, Arriving, Calling, Exited, Failed, Turned, Cut, Broken, contract_step, run}
use Rattle.frame_spec.specs.FrameFound.{Found, FoundEvent, FoundTurn, found}
use Rattle.frame_spec.specs.FrameVerdict.{Whole, entry_frame, frame_of}
use Rattle.frame_spec.specs.FrameReports.{WrittenCall, ByEvent, ByTurn, Report, UnprovedReport, last_rank, registers_of, shown_start}
use Rattle.frame_texts_spec.specs.FrameTexts as texts
use Rattle.frame_texts_spec.specs.FrameTexts.{FramedEnding, FramedFails, FramedTurns, NotInductiveBy, Checks, first_of}
use Rattle.frame_texts_spec.specs.FrameReplays.{frame_fault_words, event_ending, is_found, bound_of, step_of, found_words, false_at_head}
use Rattle.frame_texts_spec.specs.CallTexts.{FrameName, EntryFrame, ContractFrame, CallEnding, Plain, UnprovedBy, UnprovedTurns, frame_name, shown_of, Changes, call_ending_words, CallChecks, unproved, CallTextFault, OfFramed, BlockFault, CallTold, CallIs, CallRefused, call_text_of}

-- the rank of the contract of an address
abbrev pub rank_at : List Contract → ℕ → ℕ
rank_at [] a = 0
rank_at (x ∷ rest) a = if x.at == a then 0 else rank_at rest a + 1

-- a frame by its name, and its rank
abbrev pub rank_named : Whole → FrameName → ℕ
rank_named w EntryFrame = last_rank w
rank_named w (ContractFrame a) = rank_at w.contracts a

abbrev pub frame_named : Whole → FrameName → Frame
frame_named w EntryFrame = entry_frame w
frame_named w (ContractFrame a) = frame_of w (rank_at w.contracts a)

-- what a report says that names an ending; its budget has the number of backward transfers
abbrev pub report_of : Whole → CallEnding → Report
report_of w (Plain n) = texts.report_of n
report_of w (UnprovedBy f e at step) = UnprovedReport (rank_named w f) (ByEvent e at step)
report_of w (UnprovedTurns f k at step) = UnprovedReport (rank_named w f) (ByTurn at step)

-- what the contract of an address may change; a machine's flags are below 4
abbrev pub changes_by : Whole → ℕ → Option Contract → Option Changes
changes_by w a None = None
changes_by w a (Some x) =
    Some (record { registers = registers_of w a; flags = filter (λ f. list_any (nat_eq f) x.flags) (3 ∷ 2 ∷ 1 ∷ 0 ∷ []) })

abbrev pub changes_of : Whole → ℕ → Option Changes
changes_of w a = changes_by w a (contract_at w.contracts a)

-- what a reader of a report is told besides its text, by a test of return addresses
abbrev pub frame_checks : Whole → (returns : ℕ → Bool) → FrameName → Checks
frame_checks w returns f = record {
  known = is_known_at (frame_named w f).program;
  kept = is_kept_at w.program;
  heads = is_head (frame_named w f);
  returns = returns;
}

abbrev pub call_checks : Whole → (returns : ℕ → Bool) → CallChecks
call_checks w returns = record { frames = frame_checks w returns; changes = changes_of w }

-- the text of a fault
abbrev pub call_fault_words : CallTextFault → List ℕ
call_fault_words (OfFramed f) = frame_fault_words f
call_fault_words BlockFault = codes "S7 Call"

-- the ending without its frame
abbrev pub bare : CallEnding → FramedEnding
bare (Plain n) = n
bare (UnprovedBy f e at step) = FramedFails e at step
bare (UnprovedTurns f k at step) = FramedTurns k at step

abbrev pub is_unproved : CallEnding → Bool
is_unproved (Plain n) = false
is_unproved (UnprovedBy f e at step) = true
is_unproved (UnprovedTurns f k at step) = true

-- A block that is wrong: the run comes to a contract step without its block, or to a block's step otherwise; or what a contract step is given breaks a line of
-- what its contract gives.
pub data BlockCause : Type 0 where
  WrongAt : (step : ℕ) → BlockCause
  BreaksLine : (line : ℕ) → BlockCause

-- the block of a step
abbrev pub block_at : List WrittenCall → (step : ℕ) → Option WrittenCall
block_at [] n = None
block_at (c ∷ rest) n = if c.step == n then Some c else block_at rest n

-- the contract that is stepped over at a place may write the byte
abbrev pub may_write_by : Option Contract → Frame → Place → ℕ → Bool
may_write_by None f c a = false
may_write_by (Some x) f c a = covers f.program.machine.endian x.writes c.state a

abbrev pub may_write : Frame → Place → ℕ → Bool
may_write f c a = may_write_by (contract_at f.stepped c.state.pc) f c a

-- the block is that of the contract step at a place: it is there, it is of that contract, and it has no byte but those that the contract may write
abbrev pub is_block_of : Frame → Place → Option WrittenCall → Bool
is_block_of f c None = false
is_block_of f c (Some w) = (w.at == c.state.pc) && list_all (λ b. may_write f c b.0) w.bytes

-- what is wrong at a contract step that has no event, by whether its block is there
abbrev pub given_wrong : (is_block : Bool) → (step : ℕ) → Option BlockCause → Option BlockCause
given_wrong true n other = other
given_wrong false n other = Some (WrongAt n)

-- what is wrong at a contract step, by what it comes to; an event goes before its block
abbrev pub wrong_by : FrameStep → (is_block : Bool) → (step : ℕ) → Option BlockCause
wrong_by (Halts e) b n = None
wrong_by (Breaks k) b n = given_wrong b n (Some (BreaksLine k))
wrong_by (GoesTo d) b n = given_wrong b n None
wrong_by (Reaches d) b n = given_wrong b n None
wrong_by (Calls d) b n = given_wrong b n None
wrong_by (Leaves s) b n = given_wrong b n None

-- a block where no contract step is made
abbrev pub none_there : Option WrittenCall → (step : ℕ) → Option BlockCause
none_there None n = None
none_there (Some w) n = Some (WrongAt n)

-- what is wrong at a step, by the run before it; a run that has ended makes no step
abbrev pub wrong_at : Frame → Start → List WrittenCall → (step : ℕ) → Run → Option BlockCause
wrong_at f start calls n (Calling turns m c) = wrong_by (contract_step f start.state c (start.given n)) (is_block_of f c (block_at calls n)) n
wrong_at f start calls n (Going turns m c) = none_there (block_at calls n) n
wrong_at f start calls n (Arriving turns m c) = none_there (block_at calls n) n
wrong_at f start calls n (Exited at m) = none_there (block_at calls n) n
wrong_at f start calls n (Failed e at m) = none_there (block_at calls n) n
wrong_at f start calls n (Turned at m) = none_there (block_at calls n) n
wrong_at f start calls n (Cut at m) = none_there (block_at calls n) n
wrong_at f start calls n (Broken k at m) = none_there (block_at calls n) n

-- the first that is wrong in a number of steps, for at most k backward transfers
abbrev pub first_wrong : Frame → (k : ℕ) → Start → List WrittenCall → (steps : ℕ) → Option BlockCause
first_wrong f k start calls zero = None
first_wrong f k start calls (suc n) = first_of (first_wrong f k start calls n) (wrong_at f start calls n (run f k start n))

-- the first block after these steps
abbrev pub block_after : List WrittenCall → (last : ℕ) → Option BlockCause
block_after [] last = None
block_after (c ∷ rest) last = if nat_lt last c.step then Some (WrongAt c.step) else block_after rest last

-- how many backward transfers the run of a named ending is allowed
abbrev pub allowed : FramedEnding → ℕ
allowed n = turns_within (step_of n) (bound_of n)

-- the first block that is wrong, in the steps up to the one that is named and after them
abbrev pub block_cause : Frame → FramedEnding → Start → List WrittenCall → Option BlockCause
block_cause f n start calls = first_of (first_wrong f (allowed n) start calls (step_of n + 1)) (block_after calls (step_of n))

-- the run stands at a contract step
abbrev pub is_calling : Run → Bool
is_calling (Calling turns n c) = true
is_calling other = false

-- one of a number of steps is a contract step
abbrev pub has_called : Frame → (k : ℕ) → Start → (steps : ℕ) → Bool
has_called f k start zero = false
has_called f k start (suc n) = has_called f k start n || is_calling (run f k start n)

-- an ending of a frame's run is one for which the frame is not proved: so of a contract's frame, and of the entry's where a contract step was made
abbrev pub is_of_frame : FrameName → (called : Bool) → Bool
is_of_frame EntryFrame called = called
is_of_frame (ContractFrame a) called = true

-- the ending that a run is found to come to, where it is an event or one backward transfer too many, of so many
abbrev pub ending_found : (from_head : Bool) → (k : ℕ) → Found → Option FramedEnding
ending_found h k (FoundEvent e at step) = Some (event_ending h e at step)
ending_found h k (FoundTurn at step) = Some (FramedTurns k at step)
ending_found h k other = None

-- its words, by whether it is one for which the frame is not proved
abbrev pub words_by : (is_unproved : Bool) → FrameName → Option FramedEnding → (other : List (List ℕ)) → List (List ℕ)
words_by true f (Some n) other = call_ending_words (unproved f n)
words_by true f None other = other
words_by false f n other = other

abbrev pub call_found_words : FrameName → (called from_head : Bool) → (k : ℕ) → Found → List (List ℕ)
call_found_words f called h k x = words_by (is_of_frame f called) f (ending_found h k x) (found_words h k x)

-- two truth values are the same
abbrev pub is_same : Bool → Bool → Bool
is_same true b = b
is_same false true = false
is_same false false = true

-- the named ending is what was found of the run
abbrev pub is_call_found : CallEnding → (called from_head : Bool) → Found → Bool
is_call_found n called h x = is_same (is_unproved n) (is_of_frame (frame_name n) called) && is_found (bare n) h x

-- the answer by whether what was found is what was named
abbrev pub call_ending_answer : (is_named : Bool) → CallEnding → (called from_head : Bool) → Found → Answer
call_ending_answer true n called h x = plain_answer 0 (line (codes "replayed " ++ joined (call_ending_words n)))
call_ending_answer false n called h x =
    plain_answer 9
    (line (codes "replay: named " ++ joined (call_ending_words n) ++ codes ", found "
    ++ joined (call_found_words (frame_name n) called h (allowed (bare n)) x)))

-- the answer by the first block that is wrong
abbrev pub block_answer : Option BlockCause → CallEnding → (called from_head : Bool) → Found → Answer
block_answer (Some (WrongAt step)) n called h x = plain_answer 9 (line (codes "state: call" ++ spaced (number_text step ∷ [])))
block_answer (Some (BreaksLine k)) n called h x = plain_answer 9 (line (codes "state: gives" ++ spaced (number_text k ∷ [])))
block_answer None n called h x = call_ending_answer (is_call_found n called h x) n called h x

-- what a run of a report comes to: the first block that is wrong, whether it made a contract step, whether it is of a head, and what is found
pub record Outcome : Type 0 where
  pub wrong : Option BlockCause
  pub called : Bool
  pub from_head : Bool
  pub found : Found

abbrev pub outcome : Frame → FramedEnding → Start → List WrittenCall → Outcome
outcome f n start calls = record {
  wrong = block_cause f n start calls;
  called = has_called f (allowed n) start (step_of n + 1);
  from_head = is_some start.head;
  found = found f (bound_of n) start (step_of n);
}

-- the answer by the first invariant of the head that is false in the head state
abbrev pub call_head_answer : Option ℕ → CallEnding → Outcome → Answer
call_head_answer (Some k) n o = plain_answer 9 (line (codes "state: invariant" ++ spaced (number_text k ∷ [])))
call_head_answer None n o = block_answer o.wrong n o.called o.from_head o.found

-- the word of a line that is false where a frame's run begins: what notes require, or what a contract needs
abbrev pub entry_word : FrameName → List ℕ
entry_word EntryFrame = codes "require"
entry_word (ContractFrame a) = codes "needs"

-- the answer by the first such line
abbrev pub needs_answer : Option ℕ → (head : Option ℕ) → CallEnding → Outcome → Answer
needs_answer (Some k) head n o = plain_answer 9 (line (codes "state:" ++ spaced (entry_word (frame_name n) ∷ number_text k ∷ [])))
needs_answer None head n o = call_head_answer head n o

-- the answer by whether a row can stand at the address in the link register
abbrev pub call_start_answer : (is_aligned : Bool) → Frame → CallEnding → Start → List WrittenCall → Answer
call_start_answer false f n start calls = plain_answer 9 (line (codes "state: link"))
call_start_answer true f n start calls =
    needs_answer (false_require f.program start.state) (false_at_head f start.state start.head) n (outcome f (bare n) start calls)

-- the answer to a named ending with a start and blocks
abbrev pub call_run_answer : Frame → CallEnding → Start → List WrittenCall → Answer
call_run_answer f n start calls = call_start_answer (is_place f.program.machine.narrow (start.state.regs f.program.machine.link)) f n start calls

-- the answer to what a text says
abbrev pub call_told_answer : Whole → Layout → CallTold → Answer
call_told_answer w layout (CallRefused n f) = plain_answer 9 (line (codes "state: line" ++ spaced (number_text n ∷ call_fault_words f ∷ [])))
call_told_answer w layout (CallIs t) =
    let f = frame_named w (frame_name t.named) in call_run_answer f t.named (shown_start w f layout (shown_of t)) t.calls

-- the answer by whether a text is too long
abbrev pub call_sized_answer : (is_large : Bool) → Whole → (returns : ℕ → Bool) → Layout → List ℕ → Answer
call_sized_answer true w returns layout text = plain_answer 9 (line (codes "state: TooLarge"))
call_sized_answer false w returns layout text = call_told_answer w layout (call_text_of layout (call_checks w returns) text)

-- The answer to a report, over a program that is found and for a test of its return addresses: the first of its causes.
abbrev pub call_replay_answer : Whole → (returns : ℕ → Bool) → Layout → List ℕ → Answer
call_replay_answer w returns layout text = call_sized_answer (nat_lt text_limit (length text)) w returns layout text
