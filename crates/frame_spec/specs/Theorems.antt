-- What the verdicts of frames say of runs of the tables.
use Rattle.std.specs.Prelude.{ℕ, ◌≡◌, ◌<◌, ◌+◌, ◌↔◌, true, false, [], ◌∷◌, Some, None, slice_get, Contains, ◌≤◌, ◌^◌, length}
use Rattle.word_spec.specs.State.{State}
use Rattle.machine_spec.specs.Machine.{Row, IsAtPlace}
use Rattle.machine_spec.specs.MachineLaws.{LinksIn, IsLawfulMachine, IsFitted}
use Rattle.machine_spec.specs.StateText.{Layout}
use Rattle.bilv_spec.specs.Notes.{Expr, Number, Register, Flag, Pc, Bound, Memory, Old, Not, Binary, Assert}
use Rattle.machine_spec.specs.Endings as endings
use Rattle.bilv_spec.specs.Run as tables
use Rattle.bilv_spec.specs.Run.{Program, Place, Step, Arrives, Exits, step, false_line}
use Rattle.machine_spec.specs.Endings.{Event}
use Rattle.bilv_spec.specs.Points.{file_row, file_word}
use Rattle.bilv_spec.specs.Verdict as verdict
use Rattle.bilv_spec.specs.PointLaws.{HasLawfulRows, ReadsMemory}
use Rattle.frame_spec.specs.Frames.{Contract, Frame, OfStep, contract_at, keeps_register, keeps_flag, keeps_byte}
use Rattle.frame_spec.specs.FrameRuns as frames
use Rattle.frame_spec.specs.FrameRuns.{Run, Going, Exited, Failed, Turned, is_contract_call, run}
use Rattle.frame_spec.specs.FrameVerdict.{Verdict, Holds, Vacuous, Fails, Unroll, Partial, IsRight, Whole, entry_frame, contract_frame, ContractsPass}

-- the frame of a program whose notes have neither invariants nor contracts
abbrev pub headless : Program → Frame
headless p = record { program = p; invariants = []; cuts = true; stepped = []; own = None }

-- a run of the tables as one of the frame
abbrev pub as_frame_run : tables.Run → Run
as_frame_run (tables.Going turns n c) = Going turns n c
as_frame_run (tables.Exited at n) = Exited at n
as_frame_run (tables.Failed e at n) = Failed (OfStep e) at n
as_frame_run (tables.Turned at n) = Turned at n

-- its start
abbrev pub as_start : frames.Start → endings.Start
as_start start = record { state = start.state; choices = start.choices }

-- Without invariants and contracts the run of the frame from its entry is the run of the tables.
abbrev pub HeadlessIsRun : Type 0
HeadlessIsRun = (p : Program) (k : ℕ) (start : frames.Start) → start.head ≡ None → (n : ℕ) →
    run (headless p) k start n ≡ as_frame_run (tables.run p k (as_start start) n)

-- the verdict of a program as one of its frame
abbrev pub as_verdict : verdict.Verdict → Verdict
as_verdict verdict.Holds = Holds
as_verdict verdict.Vacuous = Vacuous
as_verdict verdict.Fails = Fails
as_verdict verdict.Unroll = Unroll

-- And the right verdict is the program's.
abbrev pub HeadlessIsVerdict : Type 0
HeadlessIsVerdict = (p : Program) (k : ℕ) (v : verdict.Verdict) → IsRight (headless p) k (as_verdict v) ↔ verdict.IsRight p k v

-- With invariants, where the verdict is partial, no run of the tables from an entry state, however long, has an event.
abbrev pub PartialNeverFails : Type 0
PartialNeverFails = (f : Frame) → HasLawfulRows f.program → ReadsMemory f.program → f.stepped ≡ [] → f.own ≡ None → (k : ℕ) → IsRight f k Partial →
    (start : endings.Start) → verdict.IsStart f.program start → (bound : ℕ) → ¬ verdict.RunFails f.program bound start

-- an expression without old values
abbrev pub IsOfNow : Expr → Type 0
IsOfNow (Number n) = Unit {0}
IsOfNow (Register r) = Unit {0}
IsOfNow (Flag f) = Unit {0}
IsOfNow Pc = Unit {0}
IsOfNow Bound = Unit {0}
IsOfNow (Memory n a) = IsOfNow a
IsOfNow (Old a) = ⊥
IsOfNow (Not a) = IsOfNow a
IsOfNow (Binary op a b) = IsOfNow a × IsOfNow b

-- What notes with contracts, and the machine, have: no invariants, and no old values in assert lines; rows after which a row can stand, of which those that
-- link do so; registers below 32 and flags below 4; and addresses of functions at which a row can stand.
pub record IsContracted (w : Whole) : Type 0 where
  pub lawful : HasLawfulRows w.program
  pub memory : ReadsMemory w.program
  pub plain : w.invariants ≡ []
  pub of_now : (a : Assert) → Contains w.program.notes.asserts a → IsOfNow a.says
  pub lengths : (a : ℕ) (row : Row) → file_row w.program a ≡ Some row → IsAtPlace w.program.machine.narrow row.length
  pub links : (a : ℕ) (row : Row) → file_row w.program a ≡ Some row → row.links ≡ true → LinksIn w.program.machine.link row
  pub registers : (r : ℕ) → w.program.machine.has_register r ≡ true → r < 32
  pub flags : (g : ℕ) → w.program.machine.has_flag g ≡ true → g < 4
  pub entry : IsAtPlace w.program.machine.narrow w.program.entry
  pub places : (rank : ℕ) (x : Contract) → slice_get w.contracts rank ≡ Some x → IsAtPlace w.program.machine.narrow x.at

-- A lawful machine and the form of its state texts have what is asked of rows, registers and flags.
abbrev pub MachineIsContracted : Type 0
MachineIsContracted = (w : Whole) → IsLawfulMachine w.program.machine → (form : Layout) → IsFitted w.program.machine form →
    form.first + length form.registers ≤ 32 → ((a : ℕ) → file_word w.program a < 2 ^ 32) → ReadsMemory w.program → w.invariants ≡ [] →
    ((a : Assert) → Contains w.program.notes.asserts a → IsOfNow a.says) → IsAtPlace w.program.machine.narrow w.program.entry →
    ((rank : ℕ) (x : Contract) → slice_get w.contracts rank ≡ Some x → IsAtPlace w.program.machine.narrow x.at) → IsContracted w

-- A contract's function came back: to the return address on the stack of the place where it began, in a state that meets what the contract gives, and that
-- differs from the one there only in what the contract may change.
pub record ComesBack (f : Frame) (x : Contract) (called back : Place) : Type 0 where
  pub stack : called.stack ≡ back.state.pc ∷ back.stack
  pub gives : false_line f.program.machine.endian x.gives back.state called.state ≡ None
  pub registers : (r : ℕ) → keeps_register f x r ≡ true → back.state.regs r ≡ called.state.regs r
  pub flags : (g : ℕ) → keeps_flag f x g ≡ true → back.state.flags g ≡ called.state.flags g
  pub bytes : (a : ℕ) → keeps_byte f x called.state a ≡ true → back.state.mem a ≡ called.state.mem a

-- A stretch of a run of the tables within a frame, from a place at a step to a place at a later one: each call of a contract of lower rank on it meets what the
-- contract needs and comes back, and what runs in between is such a stretch within the contract's own frame. Before its last place no stack is shorter than a
-- floor; a called function's stretch has the stack on which it begins as its floor, so it ends where the function first comes back to the address on top of it.
pub data Keeps (w : Whole) (entry : State) (choices : ℕ → ℕ) : (floor : ℕ) → Frame → (m : ℕ) → Place → (n : ℕ) → Place → Type 0 where
  here : {floor : ℕ} {f : Frame} {m : ℕ} {c : Place} → Keeps w entry choices floor f m c m c
  by_row : {floor : ℕ} {f : Frame} {m n : ℕ} {c z : Place} (d : Place) → floor ≤ length c.stack → step w.program entry c (choices m) ≡ Arrives d →
      is_contract_call f c d ≡ false → Keeps w entry choices floor f (m + 1) d n z → Keeps w entry choices floor f m c n z
  by_contract : {floor : ℕ} {f : Frame} {m n : ℕ} {c z : Place} (d e : Place) (rank o : ℕ) (x : Contract) → floor ≤ length c.stack →
      step w.program entry c (choices m) ≡ Arrives d → is_contract_call f c d ≡ true → contract_at f.stepped d.state.pc ≡ Some x →
      slice_get w.contracts rank ≡ Some x → false_line w.program.machine.endian x.needs d.state d.state ≡ None →
      Keeps w entry choices (length d.stack) (contract_frame w rank x) (m + 1) d o e → ComesBack f x d e →
      Keeps w entry choices floor f o e n z → Keeps w entry choices floor f m c n z

-- the run of the tables from a start exits, and each call of a contract on it is kept
pub record ExitsByFrames (w : Whole) (start : endings.Start) : Type 0 where
  pub last : ℕ
  pub place : Place
  pub kept : Keeps w start.state start.choices 0 (entry_frame w) 0 (record { state = start.state; stack = [] }) last place
  pub state : State
  pub exits : step w.program start.state place (start.choices last) ≡ Exits state

-- With contracts, where the frame of each passes and that of the entry holds, every run of the tables from every entry state reaches an exit with no event,
-- and each call of a contract on it is kept.
abbrev pub FramesHold : Type 0
FramesHold = (w : Whole) → IsContracted w → (k : ℕ) → ContractsPass w k → IsRight (entry_frame w) k Holds →
    (start : endings.Start) → verdict.IsStart w.program start → ExitsByFrames w start

-- so that it has an exit, for some number of backward transfers
abbrev pub ExitIsRun : Type 0
ExitIsRun = (w : Whole) (start : endings.Start) → ExitsByFrames w start → (bound : ℕ) × verdict.RunExits w.program bound start
