-- What sees a run of the code, and what is seen of one of its steps.
use Rattle.std.specs.Prelude.{ℕ, ◌≡◌, ◌<◌, ◌^◌, List, [], ◌∷◌, Option, Some, None, map}
use Rattle.word_spec.specs.State.{State}
use Rattle.machine_spec.specs.StateText.{Layout}
use Rattle.bilv_spec.specs.Run.{Program, Place, row_at}
use Rattle.frame_spec.specs.Frames.{Content, Frame, contract_at, stored_by_row}
use Rattle.frame_spec.specs.FrameRuns.{contract_step}
use Rattle.trace_spec.specs.Seen as trace
use Rattle.trace_spec.specs.Seen.{left_in, next_place, seen_between, seen_contract, seen_row, stored_of, written_by}
use Rattle.seen_step.specs.Views.{seen_of}
use Rattle.seen_step.specs.declared.looks.Glance.{Glance}
use Rattle.table_run.specs.declared.called_turns.Stand.{Stand}
use Rattle.table_run.specs.declared.called_turns.Stand.TheVariants as stand
use Rattle.table_run.specs.declared.ending.CalledStepEnd.{CalledStepEnd}
use Rattle.table_run.specs.declared.ending.CalledStepEnd.TheVariants as end
use Rattle.table_run.specs.declared.ending.FrameStepEnd.{FrameStepEnd}
use Rattle.table_run.specs.declared.ending.FrameStepEnd.TheVariants as frame
use Rattle.table_run.specs.declared.observers.Observer.{Observer}
use Rattle.table_run.specs.declared.observers.Observer.TheVariants as observer

-- an observer of steps has seen these
abbrev pub HasSeen : Observer → List trace.SeenStep → Type 0
HasSeen observer.Nothing steps = ⊥
HasSeen (observer.Steps v) steps = map seen_of v.items ≡ steps

-- one of steps has looked, and this holds of what it has
abbrev pub IsSeenBy : Observer → Option Glance → (Glance → Type 0) → Type 0
IsSeenBy observer.Nothing o claim = Unit {0}
IsSeenBy (observer.Steps v) None claim = ⊥
IsSeenBy (observer.Steps v) (Some g) claim = claim g

-- ---- a step of the code

-- its kind, the bytes that its row stores, and the bytes that it may change, by where the run stands
abbrev pub kind_at : Stand → trace.StepKind
kind_at stand.Row = trace.OfRow
kind_at stand.Contract = trace.OfContract

abbrev pub row_stored : Program → State → Option (ℕ × ℕ)
row_stored p s = stored_of (row_at p (p.word s) s.pc) s

abbrev pub row_places : Program → State → List ℕ
row_places p s = stored_by_row (row_at p (p.word s) s.pc) s

abbrev pub stored_at : Stand → Frame → State → Option (ℕ × ℕ)
stored_at stand.Row f s = row_stored f.program s
stored_at stand.Contract f s = None

abbrev pub places_at : Stand → Frame → State → List ℕ
places_at stand.Row f s = row_places f.program s
places_at stand.Contract f s = written_by (contract_at f.stepped s.pc) f s

-- places of 32 bits
abbrev pub AreLow : List ℕ → Type 0
AreLow [] = Unit {0}
AreLow (a ∷ places) = (a < 2 ^ 32) × AreLow places

-- how many calls have not returned after it
abbrev pub later_of : CalledStepEnd → (depth after : ℕ) → ℕ
later_of end.GoesTo depth after = after
later_of end.Calls depth after = after
later_of (end.Halts e) depth after = depth
later_of end.Leaves depth after = depth
later_of (end.Breaks line) depth after = depth
later_of end.NoCall depth after = depth

abbrev pub frame_later_of : FrameStepEnd → (depth after : ℕ) → ℕ
frame_later_of (frame.Halts e) depth after = depth
frame_later_of frame.GoesTo depth after = after
frame_later_of frame.Reaches depth after = after
frame_later_of frame.Leaves depth after = depth

-- the state that it leaves: that of a row; that before a contract step which has an event
abbrev pub IsStill : CalledStepEnd → (old new : State) → Type 0
IsStill (end.Halts e) old new = new ≡ old
IsStill end.Leaves old new = new ≡ old
IsStill other old new = Unit {0}

-- a contract step that comes back, to what it has to give or not
abbrev pub IsBack : CalledStepEnd → Type 0
IsBack end.GoesTo = Unit {0}
IsBack (end.Breaks line) = Unit {0}
IsBack other = ⊥

abbrev pub IsLeftBy : Stand → CalledStepEnd → Program → (entry old : State) → (choice : ℕ) → (new : State) → Type 0
IsLeftBy s end.NoCall p entry old choice new = Unit {0}
IsLeftBy stand.Row e p entry old choice new = new ≡ left_in p entry old choice
IsLeftBy stand.Contract e p entry old choice new = IsStill e old new

-- ---- and of the run

-- the step there, and the state that it leaves
abbrev pub turn_seen : Stand → Frame → Layout → (entry : State) → (n : ℕ) → Place → (choice : ℕ) → Content → trace.SeenStep
turn_seen stand.Row f form entry n c choice g = seen_row f form entry n c choice
turn_seen stand.Contract f form entry n c choice g = seen_contract f form n c (contract_step f entry c g)

abbrev pub turn_left : Stand → Frame → (entry : State) → Place → (choice : ℕ) → Content → State
turn_left stand.Row f entry c choice g = left_in f.program entry c.state choice
turn_left stand.Contract f entry c choice g = (next_place c (contract_step f entry c g)).state
