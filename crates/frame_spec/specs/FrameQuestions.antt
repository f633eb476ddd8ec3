-- Readings of a frame, and the four questions that are asked of them.
use Rattle.std.specs.Prelude.{ℕ, zero, suc, ◌≡◌, ◌≢◌, ◌<◌, ◌^◌, ◌⊎◌, Bool, true, false, List, [], Option, Some, None, Contains}
use Rattle.word_spec.specs.Words.{bit_at}
use Rattle.word_spec.specs.State.{State, IsState}
use Rattle.bilv_spec.specs.Elf.{Cell, kept}
use Rattle.bilv_spec.specs.Run.{Place, false_assert}
use Rattle.bilv_spec.specs.Points.{file_row, is_known_at}
use Rattle.bilv_spec.specs.Questions as tables
use Rattle.bilv_spec.specs.Questions.{IsEntryStateOver}
use Rattle.bilv_spec.specs.Evidence.{RowDraws}
use Rattle.bilv_spec.specs.Verdict.{IsEntryState}
pub use Rattle.call_spec.specs.Framed.{Question, EntryQuestion, FailQuestion, StepQuestion, TurnQuestion, asks_head}
use Rattle.frame_spec.specs.Frames.{Content, IsContent, Contract, Frame, FrameEvent, content_at, is_head, invariants_of, contract_at}
use Rattle.frame_spec.specs.FrameRuns.{Run, Going, Arriving, Calling, Exited, Failed, Turned, Cut, Broken, after_step, arrival, begins, frame_step, contract_step}
use Rattle.frame_spec.specs.FramePoints.{Anchor, AtEntry, AtHead, Point, IsPoint, IsAnchor, has_heads}
use Rattle.frame_spec.specs.FrameVerdict.{NoEntryFails, NoSegmentFails}

-- A reading: a state at entry, a head state without its address, a choice for each point, and what the contract step of each point is given.
pub record Reading : Type 0 where
  pub state : State
  pub head : Content
  pub choice : Point → ℕ
  pub given : Point → Content

-- what a reading can hold
pub record IsReading (r : Reading) : Type 0 where
  pub state : IsState r.state
  pub head : IsContent r.head
  pub choice : (q : Point) → r.choice q < 4
  pub given : (q : Point) → IsContent (r.given q)

-- the frame that takes the words that it executes from the file
abbrev pub by_file : Frame → Frame
by_file f = record f { program = tables.by_file f.program }

-- the point at which a segment stands
abbrev pub point_of : Anchor → (contract : Bool) → (turns : ℕ) → Place → Point
point_of anchor contract turns c = record { anchor = anchor; turns = turns; contract = contract; stack = c.stack; at = c.state.pc }

-- where the segment of an anchor begins
abbrev pub origin_of : Reading → Anchor → Option Place
origin_of r AtEntry = None
origin_of r (AtHead stack a) = Some (record { state = content_at r.head a; stack = stack })

-- the segment of a reading after one more step, which takes the choice, or what is given, of the point at which it stands
abbrev pub read_on : Frame → ℕ → Reading → Anchor → Run → Run
read_on f k r anchor (Going turns n c) = after_step k turns n c.state.pc (frame_step (by_file f) r.state c (r.choice (point_of anchor false turns c)))
read_on f k r anchor (Arriving turns n c) = arrival f (false_assert f.program.machine.endian f.program.notes.asserts c.state r.state) n c.state.pc
read_on f k r anchor (Calling turns n c) = after_step k turns n c.state.pc (contract_step (by_file f) r.state c (r.given (point_of anchor true turns c)))
read_on f k r anchor (Exited at n) = Exited at n
read_on f k r anchor (Failed e at n) = Failed e at n
read_on f k r anchor (Turned at n) = Turned at n
read_on f k r anchor (Cut at n) = Cut at n
read_on f k r anchor (Broken line at n) = Broken line at n

-- the segment of a reading from an anchor after a number of steps
unfoldable pub read_run : Frame → ℕ → Reading → Anchor → ℕ → Run
read_run f k r anchor zero = begins f r.state (origin_of r anchor)
read_run f k r anchor (suc n) = read_on f k r anchor (read_run f k r anchor n)

-- how the segment of an anchor ends
abbrev pub ReadingFails : Frame → ℕ → Reading → Anchor → Type 0
ReadingFails f k r anchor = (steps at n : ℕ) × (e : FrameEvent) × (read_run f k r anchor steps ≡ Failed e at n)

abbrev pub ReadingTurns : Frame → ℕ → Reading → Anchor → Type 0
ReadingTurns f k r anchor = (steps at n : ℕ) × (read_run f k r anchor steps ≡ Turned at n)

-- the head part at a head, where a state can be: the head's invariants are true; its bytes are asked apart
pub record IsHeadPart (f : Frame) (r : Reading) (a : ℕ) : Type 0 where
  pub head : is_head f a ≡ true
  pub low : a < 2 ^ 32
  pub invariants : false_assert f.program.machine.endian (invariants_of f f.program.notes.asserts) (content_at r.head a) r.state ≡ None

-- the segment of some anchor at a head, from the head part, ends like this
abbrev pub FromHead : Frame → ℕ → Reading → (Anchor → Type 0) → Type 0
FromHead f k r Ends = (stack : List ℕ) × (a : ℕ) × IsAnchor f k (AtHead stack a) × IsHeadPart f r a × Ends (AtHead stack a)

-- how segments of the reading end where the question is true of it
abbrev pub EndsBy : Frame → ℕ → Reading → Question → Type 0
EndsBy f k r EntryQuestion = Unit {0}
EndsBy f k r FailQuestion = ReadingFails f k r AtEntry
EndsBy f k r StepQuestion = FromHead f k r (ReadingFails f k r)
EndsBy f k r TurnQuestion = ReadingTurns f k r AtEntry ⊎ FromHead f k r (ReadingTurns f k r)

-- The head part has the kept bytes that are asked. In questions that speak of head states it has them, also where the segment is the entry's.
abbrev pub HeadAgrees : Frame → (asked : ℕ → Bool) → Reading → Question → Type 0
HeadAgrees f asked r question =
    has_heads f ≡ true → asks_head question ≡ true → (a : ℕ) (c : Cell) → a < 2 ^ 32 → f.program.loaded a ≡ Some c → kept c ≡ true → asked a ≡ true →
    r.head.mem a ≡ c.byte

-- the question over the bytes of the file that are asked is true of the reading
pub record IsTrueOver (f : Frame) (asked : ℕ → Bool) (k : ℕ) (r : Reading) (question : Question) : Type 0 where
  pub reading : IsReading r
  pub entry : IsEntryStateOver f.program asked r.state
  pub head : HeadAgrees f asked r question
  pub ends : EndsBy f k r question

-- the question is true of the reading: every kept or fixed byte is asked
abbrev pub IsTrue : Frame → ℕ → Reading → Question → Type 0
IsTrue f k r question = IsTrueOver f (is_known_at f.program) k r question

-- some reading makes it true
abbrev pub IsSatisfiable : Frame → ℕ → Question → Type 0
IsSatisfiable f k question = (r : Reading) × IsTrue f k r question

-- A question is due where those before it are decided: there is an entry state; no segment from one has an event; no segment from a head state has one.
abbrev pub IsDue : Frame → ℕ → Question → Type 0
IsDue f k EntryQuestion = Unit {0}
IsDue f k FailQuestion = (s : State) × IsEntryState f.program s
IsDue f k StepQuestion = ((s : State) × IsEntryState f.program s) × NoEntryFails f k
IsDue f k TurnQuestion = ((s : State) × IsEntryState f.program s) × NoSegmentFails f k

-- Which part of a reading: the entry's, the head's, or what the contract step of a point is given.
pub data Part : Type 0 where
  EntryPart : Part
  HeadPart : Part
  GivenPart : Point → Part

-- what a part has
abbrev pub part_of : Reading → Part → Content
part_of r EntryPart = record { regs = r.state.regs; flags = r.state.flags; mem = r.state.mem }
part_of r HeadPart = r.head
part_of r (GivenPart q) = r.given q

-- a point with the contract step of a contract
pub record IsContractPoint (f : Frame) (k : ℕ) (q : Point) (x : Contract) : Type 0 where
  pub point : IsPoint f k q
  pub contract : q.contract ≡ true
  pub is : contract_at f.stepped q.at ≡ Some x

-- A bit that a reading gives: of a register or a flag of a part, of the choice of a point, or of the byte of a part's memory that a base read reads.
pub data Input : Type 0 where
  OfRegister : Part → (register bit : ℕ) → Input
  OfFlag : Part → ℕ → Input
  OfChoice : Point → (bit : ℕ) → Input
  OfByte : Part → (read bit : ℕ) → Input

-- the registers, the flags and the memory of a part that are inputs: all of the entry's and the head's, and those that a contract may change
abbrev pub HasRegister : Frame → ℕ → Part → ℕ → Type 0
HasRegister f k EntryPart n = f.program.machine.has_register n ≡ true
HasRegister f k HeadPart n = (has_heads f ≡ true) × (f.program.machine.has_register n ≡ true)
HasRegister f k (GivenPart q) n = (x : Contract) × IsContractPoint f k q x × Contains x.registers n

abbrev pub HasFlag : Frame → ℕ → Part → ℕ → Type 0
HasFlag f k EntryPart g = f.program.machine.has_flag g ≡ true
HasFlag f k HeadPart g = (has_heads f ≡ true) × (f.program.machine.has_flag g ≡ true)
HasFlag f k (GivenPart q) g = (x : Contract) × IsContractPoint f k q x × Contains x.flags g

abbrev pub HasMemory : Frame → ℕ → Part → Type 0
HasMemory f k EntryPart = Unit {0}
HasMemory f k HeadPart = has_heads f ≡ true
HasMemory f k (GivenPart q) = (x : Contract) × IsContractPoint f k q x × (x.writes ≢ [])

-- a bit of a reading, where there are at most so many byte loads: a base read is told by the load that it is of
abbrev pub IsInput : Frame → (k loads : ℕ) → Input → Type 0
IsInput f k loads (OfRegister part n i) = HasRegister f k part n × (i < 32)
IsInput f k loads (OfFlag part g) = HasFlag f k part g
IsInput f k loads (OfChoice q i) = IsPoint f k q × (q.contract ≡ false) × RowDraws (file_row f.program q.at) × (i < 2)
IsInput f k loads (OfByte part read i) = HasMemory f k part × (read < loads) × (i < 8)

-- the address of each base read of each part, by the reading
abbrev pub Addresses : Type 0
Addresses = Reading → Part → (read : ℕ) → ℕ

-- the value of a bit
abbrev pub input_value : Addresses → Reading → Input → ℕ
input_value address r (OfRegister part n i) = bit_at i ((part_of r part).regs n)
input_value address r (OfFlag part g) = (part_of r part).flags g
input_value address r (OfChoice q i) = bit_at i (r.choice q)
input_value address r (OfByte part read i) = bit_at i ((part_of r part).mem (address r part read))
