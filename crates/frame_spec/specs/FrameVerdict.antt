-- Entry states and head states of a frame, its starts, and its right verdict; the frames of notes with contracts.
use Rattle.std.specs.Prelude.{ℕ, ◌≡◌, ◌≢◌, ◌<◌, ◌^◌, ◌⊎◌, true, false, List, [], Option, Some, None, slice_get, take}
use Rattle.word_spec.specs.State.{State, IsState}
use Rattle.bilv_spec.specs.Elf.{Cell, kept}
use Rattle.bilv_spec.specs.Run.{Program, Place, false_assert}
use Rattle.bilv_spec.specs.Verdict.{IsEntryState}
use Rattle.frame_spec.specs.Frames.{Contract, Frame, FrameEvent, IsContent, is_head, invariants_of}
use Rattle.frame_spec.specs.FrameRuns.{Start, Exited, Failed, Turned, Cut, Broken, run}
use Rattle.frame_spec.specs.FramePoints.{AtHead, IsAnchor, has_heads}

-- A head state for an entry state: at a head, with the kept bytes of the file, and with the head's invariants true, whose old values are those at entry.
pub record IsHeadState (f : Frame) (entry s : State) : Type 0 where
  pub state : IsState s
  pub head : is_head f s.pc ≡ true
  pub kept_bytes : (a : ℕ) (c : Cell) → a < 2 ^ 32 → f.program.loaded a ≡ Some c → kept c ≡ true → s.mem a ≡ c.byte
  pub invariants : false_assert f.program.machine.endian (invariants_of f f.program.notes.asserts) s entry ≡ None

-- where a segment begins: at the entry, or in a head state with the stack of an anchor
abbrev pub IsOrigin : Frame → ℕ → (entry : State) → Option Place → Type 0
IsOrigin f k entry None = Unit {0}
IsOrigin f k entry (Some c) = IsAnchor f k (AtHead c.stack c.state.pc) × IsHeadState f entry c.state

-- what the run from a start comes to, within k backward transfers
abbrev pub RunExits : Frame → ℕ → Start → Type 0
RunExits f k start = (steps at n : ℕ) × (run f k start steps ≡ Exited at n)

abbrev pub RunFails : Frame → ℕ → Start → Type 0
RunFails f k start = (steps at n : ℕ) × (e : FrameEvent) × (run f k start steps ≡ Failed e at n)

abbrev pub RunTurns : Frame → ℕ → Start → Type 0
RunTurns f k start = (steps at n : ℕ) × (run f k start steps ≡ Turned at n)

abbrev pub RunIsCut : Frame → ℕ → Start → Type 0
RunIsCut f k start = (steps at n : ℕ) × (run f k start steps ≡ Cut at n)

-- what a contract step is given breaks a line that the contract gives
abbrev pub RunBreaks : Frame → ℕ → Start → Type 0
RunBreaks f k start = (steps line at n : ℕ) × (run f k start steps ≡ Broken line at n)

-- A start of a segment: from an entry state, or from a head state for one, with choices 0 to 3, and with what contract steps give where they are made.
pub record IsStart (f : Frame) (k : ℕ) (start : Start) : Type 0 where
  pub entry : IsEntryState f.program start.state
  pub origin : IsOrigin f k start.state start.head
  pub choices : (i : ℕ) → start.choices i < 4
  pub given : (i : ℕ) → IsContent (start.given i)
  pub is_run : ¬ RunBreaks f k start

-- the verdicts
pub data Verdict : Type 0 where
  Holds : Verdict
  Vacuous : Verdict
  Fails : Verdict
  NotInductive : Verdict
  Unroll : Verdict
  Partial : Verdict

-- no segment from an entry state has an event
abbrev pub NoEntryFails : Frame → ℕ → Type 0
NoEntryFails f k = (start : Start) → IsStart f k start → start.head ≡ None → ¬ RunFails f k start

-- no segment has one
abbrev pub NoSegmentFails : Frame → ℕ → Type 0
NoSegmentFails f k = (start : Start) → IsStart f k start → ¬ RunFails f k start

-- the right verdict of a frame: holds without heads, partial with one
abbrev pub IsRight : Frame → ℕ → Verdict → Type 0
IsRight f k Vacuous = (s : State) → ¬ IsEntryState f.program s
IsRight f k Fails = (start : Start) × IsStart f k start × (start.head ≡ None) × RunFails f k start
IsRight f k NotInductive = NoEntryFails f k × ((start : Start) × IsStart f k start × (start.head ≢ None) × RunFails f k start)
IsRight f k Unroll = NoSegmentFails f k × ((start : Start) × IsStart f k start × RunTurns f k start)
IsRight f k Holds =
    (has_heads f ≡ false) × ((s : State) × IsEntryState f.program s) × ((start : Start) → IsStart f k start → RunExits f k start)
IsRight f k Partial =
    (has_heads f ≡ true) × ((s : State) × IsEntryState f.program s)
    × ((start : Start) → IsStart f k start → RunExits f k start ⊎ RunIsCut f k start)

-- Notes with invariants or contracts: the program, whose notes' assert lines have the invariants among them; and the contracts in the order of their ranks.
pub record Whole : Type 0 where
  pub program : Program
  pub invariants : List ℕ
  pub contracts : List Contract

-- the frame of a contract, which steps over the contracts of lower ranks
abbrev pub contract_frame : Whole → (rank : ℕ) → Contract → Frame
contract_frame w rank x = record {
  program = record w.program { entry = x.at; notes = record w.program.notes { requires = x.needs; ensures = []; fixed = [] } };
  invariants = w.invariants;
  cuts = true;
  stepped = take rank w.contracts;
  own = Some x;
}

-- the frame of the entry, which steps over all contracts
abbrev pub entry_frame : Whole → Frame
entry_frame w = record { program = w.program; invariants = w.invariants; cuts = true; stepped = w.contracts; own = None }

-- the frame of a rank; the entry's ranks last
abbrev pub frame_by : Whole → (rank : ℕ) → Option Contract → Frame
frame_by w rank None = entry_frame w
frame_by w rank (Some x) = contract_frame w rank x

abbrev pub frame_of : Whole → (rank : ℕ) → Frame
frame_of w rank = frame_by w rank (slice_get w.contracts rank)

-- a frame passes
abbrev pub Passes : Frame → ℕ → Type 0
Passes f k = IsRight f k Holds ⊎ IsRight f k Vacuous

-- all frames but the entry's pass
abbrev pub ContractsPass : Whole → ℕ → Type 0
ContractsPass w k = (rank : ℕ) (x : Contract) → slice_get w.contracts rank ≡ Some x → Passes (contract_frame w rank x) k
