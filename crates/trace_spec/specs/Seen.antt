-- The steps of a run of a frame as they are seen: where each is made, how deep in calls, and which registers, flags and bytes it leaves with another value.
use Rattle.std.specs.Prelude.{ℕ, zero, suc, List, [], ◌∷◌, ◌++◌, Option, Some, None, ◌==◌, length, if◌then◌else◌}
use Rattle.word_spec.specs.RowFiles.{from_to}
use Rattle.word_spec.specs.State.{State}
use Rattle.machine_spec.specs.Machine.{Row, Outcome, Goes, Raises}
use Rattle.machine_spec.specs.StateText.{Layout}
use Rattle.bilv_spec.specs.Run.{Program, Place, false_assert, row_at}
use Rattle.frame_spec.specs.Frames.{Contract, Frame, contract_at, stored_by_row, written}
use Rattle.frame_spec.specs.FrameRuns.{FrameStep, Halts, GoesTo, Reaches, Calls, Leaves, Breaks, Start, Run, Going, Arriving, Calling, contract_step, frame_step, row_of_place, run}

-- what a step is: that of a row, a contract step, or an arrival at a head, which is judged and changes nothing
pub data StepKind : Type 0 where
  OfRow : StepKind
  OfContract : StepKind
  OfArrival : StepKind

-- a register or a flag by its number, or a byte by its address, with the values that it has before a step and after it
pub record Change : Type 0 where
  pub place : ℕ
  pub old : ℕ
  pub new : ℕ

-- A step. number: counted from 0. at: the address at which it is made. to: the address of the state that it leaves. depth, later: how many calls have not
-- returned, before the step and after it. stored: the first address and the number of the bytes that its row stores. regs, flags: those of the machine's form
-- that have another value later, in their order. bytes: those among the bytes that the row stores, or that the contract may write, in the order in which these
-- are said; one that two lines of a contract say is named twice.
pub record SeenStep : Type 0 where
  pub number : ℕ
  pub kind : StepKind
  pub at : ℕ
  pub to : ℕ
  pub depth : ℕ
  pub later : ℕ
  pub stored : Option (ℕ × ℕ)
  pub regs : List Change
  pub flags : List Change
  pub bytes : List Change

-- the places of a list with another value later
abbrev pub changes : (old new : ℕ → ℕ) → List ℕ → List Change
changes old new [] = []
changes old new (a ∷ places) =
    if old a == new a then changes old new places else record { place = a; old = old a; new = new a } ∷ changes old new places

-- ---- what a step leaves

-- the state that a row leaves: that before it, where it raises an exception or there is no row
abbrev pub left_by_outcome : State → Outcome → State
left_by_outcome s (Raises e) = s
left_by_outcome s (Goes how new) = new

abbrev pub left_by_row : Option Row → State → (choice : ℕ) → State
left_by_row None s choice = s
left_by_row (Some row) s choice = left_by_outcome s (row.effect s choice)

-- and that before it, where an assert line is false
abbrev pub left_by_assert : (false_line : Option ℕ) → (before after : State) → State
left_by_assert (Some line) s new = s
left_by_assert None s new = new

-- The state that the step of a row leaves, in a run that began in the state at entry. Where the step ends a run, this is the state in which its end is judged.
abbrev pub left_in : Program → (entry s : State) → (choice : ℕ) → State
left_in p entry s choice = left_by_assert (false_assert p.machine.endian p.notes.asserts s entry) s (left_by_row (row_at p (p.word s) s.pc) s choice)

-- where a step leads from a place; a step that ends a run leads nowhere
abbrev pub next_place : Place → FrameStep → Place
next_place c (GoesTo d) = d
next_place c (Reaches d) = d
next_place c (Calls d) = d
next_place c (Halts e) = c
next_place c (Leaves s) = c
next_place c (Breaks line) = c

-- the first address and the number of the bytes that a row stores
abbrev pub stored_of : Option Row → State → Option (ℕ × ℕ)
stored_of None s = None
stored_of (Some row) s = row.stored s

-- the bytes that a contract may write where it is called
abbrev pub written_by : Option Contract → Frame → State → List ℕ
written_by None f s = []
written_by (Some x) f s = written f.program.machine.endian x.writes s

-- ---- what is seen

-- a step from a state to another, by the bytes that it may change, with how many calls have not returned before it and after it
abbrev pub seen_between : Layout → StepKind → (number : ℕ) → Option (ℕ × ℕ) → List ℕ → (old : State) → (depth : ℕ) → (new : State) → (later : ℕ) → SeenStep
seen_between form kind n stored places s depth new later = record {
  number = n;
  kind = kind;
  at = s.pc;
  to = new.pc;
  depth = depth;
  later = later;
  stored = stored;
  regs = changes s.regs new.regs (from_to form.first (length form.registers));
  flags = changes s.flags new.flags (from_to 0 (length form.flags));
  bytes = changes s.mem new.mem places;
}

-- the step of a row, the step over a contract, and the arrival at a head
abbrev pub seen_row : Frame → Layout → (entry : State) → (n : ℕ) → Place → (choice : ℕ) → SeenStep
seen_row f form entry n c choice =
    seen_between form OfRow n (stored_of (row_of_place f c) c.state) (stored_by_row (row_of_place f c) c.state) c.state (length c.stack)
    (left_in f.program entry c.state choice) (length (next_place c (frame_step f entry c choice)).stack)

abbrev pub seen_contract : Frame → Layout → (n : ℕ) → Place → FrameStep → SeenStep
seen_contract f form n c x =
    seen_between form OfContract n None (written_by (contract_at f.stepped c.state.pc) f c.state) c.state (length c.stack) (next_place c x).state
    (length (next_place c x).stack)

abbrev pub seen_arrival : Layout → (n : ℕ) → Place → SeenStep
seen_arrival form n c = seen_between form OfArrival n None [] c.state (length c.stack) c.state (length c.stack)

-- the step that a run makes next, if it goes on
abbrev pub seen_of : Frame → Layout → Start → Run → List SeenStep
seen_of f form start (Going turns n c) = seen_row f form start.state n c (start.choices n) ∷ []
seen_of f form start (Calling turns n c) = seen_contract f form n c (contract_step f start.state c (start.given n)) ∷ []
seen_of f form start (Arriving turns n c) = seen_arrival form n c ∷ []
seen_of f form start other = []

-- the steps of the run from a start, at most so many, in their order, for at most k backward transfers
abbrev pub seen_steps : Frame → Layout → (k : ℕ) → Start → (count : ℕ) → List SeenStep
seen_steps f form k start zero = []
seen_steps f form k start (suc n) = seen_steps f form k start n ++ seen_of f form start (run f k start n)

-- the state that the next step of a run leaves
abbrev pub left_of : Frame → Start → Run → Option State
left_of f start (Going turns n c) = Some (left_in f.program start.state c.state (start.choices n))
left_of f start (Calling turns n c) = Some (next_place c (contract_step f start.state c (start.given n))).state
left_of f start (Arriving turns n c) = Some c.state
left_of f start other = None
