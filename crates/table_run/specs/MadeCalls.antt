-- What is shown of the contract steps that a run makes without an event, and runs that no machine can tell apart.
use Rattle.std.specs.Prelude.{ℕ, zero, suc, ◌≡◌, ◌<◌, ◌≤◌, true, List, [], ◌++◌, Option, Some, None, All, Contains, filter, nat_eq, option_to_list}
use Rattle.std.specs.List.{list_any}
use Rattle.std.specs.Option.{option_map}
use Rattle.bilv_spec.specs.Run.{Place}
use Rattle.frame_spec.specs.Frames.{Contract, Frame, contract_at}
use Rattle.frame_spec.specs.FrameRuns.{FrameStep, Halts, Start, Run, Going, Arriving, Calling, IsOver, contract_step, run}
use Rattle.frame_spec.specs.FrameReports.{AreMade, HasNoEvent, IsMade, WrittenCall, flag_in}
use Rattle.frame_texts_spec.specs.CallReplays.{block_at, may_write}
use Rattle.table_run.specs.CalledFrames.{IsSeenAs}
use Rattle.table_run.specs.declared.called_turns.Stand.{Stand}
use Rattle.table_run.specs.declared.called_turns.Stand.TheVariants as stand
use Rattle.table_run.specs.declared.ending.CalledStepEnd.{CalledStepEnd}
use Rattle.table_run.specs.declared.ending.CalledStepEnd.TheVariants as end

-- ---- what a caller lists

-- what the contract step at a place is given is listed: for its number, for the contract there, and with flags that the contract may change
pub record IsListed (f : Frame) (c : Place) (n : ℕ) (calls : List WrittenCall) : Type 0 where
  pub call : WrittenCall
  pub listed : Contains calls call
  pub step : call.step ≡ n
  pub at : call.at ≡ c.state.pc
  pub flags : (x : Contract) → contract_at f.stepped c.state.pc ≡ Some x → (i : ℕ) → flag_in call.flags i ≡ 1 → list_any (nat_eq i) x.flags ≡ true

-- so for each contract step that a run makes without an event in a number of steps
abbrev pub AreListed : Frame → (k : ℕ) → Start → List WrittenCall → (count : ℕ) → Type 0
AreListed f k start calls count =
    (steps turns n : ℕ) (c : Place) → steps < count → run f k start steps ≡ Calling turns n c → HasNoEvent f start n c → IsListed f c n calls

-- ---- what is shown

-- a block, with those of its bytes alone that the contract at a place may write
abbrev pub covered : Frame → Place → WrittenCall → WrittenCall
covered f c w = record w { bytes = filter (λ b. may_write f c b.0) w.bytes }

-- what is shown of a contract step, by what it comes to
abbrev pub shown_by : FrameStep → Frame → Place → Option WrittenCall → List WrittenCall
shown_by (Halts e) f c block = []
shown_by x f c block = option_to_list (option_map (covered f c) block)

-- what is shown of a step, by the run before it
abbrev pub shown_at : Frame → Start → List WrittenCall → (step : ℕ) → Run → List WrittenCall
shown_at f start calls n (Calling turns m c) = shown_by (contract_step f start.state c (start.given n)) f c (block_at calls n)
shown_at f start calls n other = []

-- what is shown of a number of steps
abbrev pub shown_in : Frame → (k : ℕ) → Start → List WrittenCall → (count : ℕ) → List WrittenCall
shown_in f k start calls zero = []
shown_in f k start calls (suc n) = shown_in f k start calls n ++ shown_at f start calls n (run f k start n)

-- the block that is handed to a step, by where the run stands
abbrev pub handed : Stand → Frame → Place → Option WrittenCall → Option WrittenCall
handed stand.Row f c block = None
handed stand.Contract f c block = option_map (covered f c) block

-- what is kept of it, by what the step comes to
abbrev pub kept_of : CalledStepEnd → Option WrittenCall → List WrittenCall
kept_of (end.Halts e) block = []
kept_of other block = option_to_list block

-- ---- runs that are one but for bytes that no machine sees

abbrev pub ArePlacesAlike : Place → Place → Type 0
ArePlacesAlike c d = IsSeenAs c.state d.state × (c.stack ≡ d.stack)

abbrev pub AreAlike : Run → Run → Type 0
AreAlike (Going turns n c) (Going more m d) = (turns ≡ more) × (n ≡ m) × ArePlacesAlike c d
AreAlike (Arriving turns n c) (Arriving more m d) = (turns ≡ more) × (n ≡ m) × ArePlacesAlike c d
AreAlike (Calling turns n c) (Calling more m d) = (turns ≡ more) × (n ≡ m) × ArePlacesAlike c d
AreAlike x y = x ≡ y

-- What is made is what is shown of the run from a start: the run with what is made is alike, and makes it. Starts are by what their contract steps are given.
pub record IsShownOf (f : Frame) (k : ℕ) (start : List WrittenCall → Start) (calls : List WrittenCall) (count : ℕ) (made : List WrittenCall) : Type 0 where
  pub is : made ≡ shown_in f k (start calls) calls count
  pub alike : (n : ℕ) → n ≤ count → AreAlike (run f k (start calls) n) (run f k (start made) n)
  pub each : All (IsMade f k (start made)) made
  pub whole : (n : ℕ) → n ≤ count → IsOver (run f k (start calls) n) → AreMade f k (start made) made
