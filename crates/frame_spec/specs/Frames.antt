-- Frames: a program whose runs are cut at heads, and whose calls of some contracts are stepped over. Notes without invariants and contracts make one frame, in
-- which nothing is cut and nothing stepped over. The numbers of the lines that are invariants stand beside the notes.
use Rattle.std.specs.Prelude.{ℕ, ◌<◌, ◌^◌, Bool, true, false, List, [], ◌∷◌, Option, Some, None, ◌==◌, ◌&&◌, ◌||◌, not, nat_lt, nat_eq, if◌then◌else◌, map}
use Rattle.std.specs.List.{list_any, flat_map}
use Rattle.word_spec.specs.Words.{add}
use Rattle.word_spec.specs.Memory.{Memory, Endian}
use Rattle.word_spec.specs.State.{State}
use Rattle.machine_spec.specs.Machine.{Row, addresses}
use Rattle.word_spec.specs.RowFiles.{from_to}
use Rattle.bilv_spec.specs.Notes.{Expr, NoteLine, Assert, value}
use Rattle.bilv_spec.specs.Run.{Program}
use Rattle.machine_spec.specs.Endings.{Event, AssertFails, FetchFails, NoRow, HalfwordFails, CodeWritten}

-- bytes that a function may write: so many from the value of an expression on
pub record Writes : Type 0 where
  pub line : ℕ
  pub says : Expr
  pub count : ℕ

-- A contract of the function at an address: what it needs where it is called, what it gives where it comes back, the bytes that it may write, and the
-- registers and flags that it may change.
pub record Contract : Type 0 where
  pub at : ℕ
  pub needs : List NoteLine
  pub gives : List NoteLine
  pub writes : List Writes
  pub registers : List ℕ
  pub flags : List ℕ

-- registers, flags and a memory, without an address
pub record Content : Type 0 where
  pub regs : ℕ → ℕ
  pub flags : ℕ → ℕ
  pub mem : Memory

-- the state at an address
abbrev pub content_at : Content → ℕ → State
content_at c a = record { pc = a; regs = c.regs; flags = c.flags; mem = c.mem }

-- what is in a state besides its address
abbrev pub content_of : State → Content
content_of s = record { regs = s.regs; flags = s.flags; mem = s.mem }

-- what a content can hold
pub record IsContent (c : Content) : Type 0 where
  pub regs : (r : ℕ) → c.regs r < 2 ^ 32
  pub flags : (f : ℕ) → c.flags f < 2
  pub mem : (a : ℕ) → c.mem a < 256

-- A frame. program: what is run, its entry and its entry condition those of the frame. invariants: the numbers of those assert lines that are invariants. cuts:
-- runs end at heads. stepped: the contracts that calls step over. own: the contract whose frame it is.
pub record Frame : Type 0 where
  pub program : Program
  pub invariants : List ℕ
  pub cuts : Bool
  pub stepped : List Contract
  pub own : Option Contract

-- the tables alone: nothing is cut or stepped over, and no contract is judged at the exit
abbrev pub plain : Frame → Frame
plain f = record f { cuts = false; stepped = []; own = None }

-- the line is an invariant
abbrev pub is_invariant : Frame → Assert → Bool
is_invariant f a = list_any (nat_eq a.line) f.invariants

-- the invariants
abbrev pub invariants_of : Frame → List Assert → List Assert
invariants_of f [] = []
invariants_of f (a ∷ rest) = if is_invariant f a then a ∷ invariants_of f rest else invariants_of f rest

-- the address is a head: there is an invariant, and runs are cut there
abbrev pub is_head : Frame → ℕ → Bool
is_head f a = f.cuts && list_any (λ x. x.at == a) (invariants_of f f.program.notes.asserts)

-- What ends a run without an exit: an event of a step; an invariant that is false; what a called contract needs; a byte that the frame's contract may not
-- write; at the exit what it has to give, and a register or a flag that it may not change.
pub data FrameEvent : Type 0 where
  OfStep : Event → FrameEvent
  InvariantFails : ℕ → FrameEvent
  NeedsFails : ℕ → FrameEvent
  WritesFails : FrameEvent
  GivesFails : ℕ → FrameEvent
  ModifiesFails : FrameEvent

-- an assert line that is false, by its kind
abbrev pub line_event : Bool → ℕ → FrameEvent
line_event true line = InvariantFails line
line_event false line = OfStep (AssertFails line)

-- an event of a step
abbrev pub event_of : Frame → Event → FrameEvent
event_of f (AssertFails line) = line_event (list_any (nat_eq line) f.invariants) line
event_of f e = OfStep e

-- the events that a step judges before the bytes that the frame's contract may write
abbrev pub is_early : Event → Bool
is_early (AssertFails line) = true
is_early FetchFails = true
is_early NoRow = true
is_early HalfwordFails = true
is_early CodeWritten = true
is_early e = false

-- the contract of an address
abbrev pub contract_at : List Contract → ℕ → Option Contract
contract_at [] a = None
contract_at (x ∷ rest) a = if x.at == a then Some x else contract_at rest a

-- the addresses of the bytes that a contract may write, in the state where its function begins
abbrev pub written : Endian → List Writes → State → List ℕ
written e writes at_call = flat_map (λ w. map (add 32 (value e w.says at_call at_call)) (from_to 0 w.count)) writes

-- the byte at an address is one of these
abbrev pub covers : Endian → List Writes → State → ℕ → Bool
covers e writes at_call a = list_any (nat_eq a) (written e writes at_call)

-- one of these bytes is none that the frame's contract may write, if it has one, for a frame that began in the state at entry
abbrev pub is_outside : Option Contract → Endian → (entry : State) → List ℕ → Bool
is_outside None e entry places = false
is_outside (Some x) e entry places = list_any (λ a. not (covers e x.writes entry a)) places

-- the bytes that a row stores
abbrev pub stored_by_row : Option Row → State → List ℕ
stored_by_row None s = []
stored_by_row (Some row) s = addresses (row.stored s)

-- the machine has the register, and the contract may not change it
abbrev pub keeps_register : Frame → Contract → ℕ → Bool
keeps_register f x r = f.program.machine.has_register r && not (list_any (nat_eq r) x.registers)

-- so a flag
abbrev pub keeps_flag : Frame → Contract → ℕ → Bool
keeps_flag f x g = f.program.machine.has_flag g && not (list_any (nat_eq g) x.flags)

-- so a byte, by the state where its function begins
abbrev pub keeps_byte : Frame → Contract → State → ℕ → Bool
keeps_byte f x at_call a = nat_lt a 4294967296 && not (covers f.program.machine.endian x.writes at_call a)

-- A register or a flag differs that the contract may not change. A machine's registers are below 32, its flags below 4.
abbrev pub has_changed : Frame → Contract → State → State → Bool
has_changed f x entry new =
    list_any (λ r. keeps_register f x r && not (new.regs r == entry.regs r)) (from_to 0 32)
    || list_any (λ g. keeps_flag f x g && not (new.flags g == entry.flags g)) (from_to 0 4)
