-- An unrolled program, in which each point says what may happen there, and the walk of a reading through it. A walk names no machine and no row of a table.
use Rattle.std.specs.Prelude.{ℕ, zero, suc, ◌<◌, ◌+◌, ◌-◌, Bool, true, false, not, ◌==◌, ◌&&◌, nat_le, nat_lt, nat_eq, if◌then◌else◌, List, [], ◌∷◌, Option, Some, None, slice_index, slice_index_or, find, length, Contains}
use Rattle.std.specs.List.{list_any}
use Rattle.word_spec.specs.Words.{add}
use Rattle.word_spec.specs.Memory.{Endian, Memory}
use Rattle.word_spec.specs.State.{State}
use Rattle.machine_spec.specs.Machine.{OddHalfword, UnalignedLoad, exception_number, is_place}
use Rattle.bilv_spec.specs.Notes.{Expr, NoteLine, value, is_true}
use Rattle.machine_spec.specs.Bil.{Statements, Empty}
use Rattle.machine_spec.specs.BilMeaning.{Position, Ending, Ends, RaisesException, OutOfTurns, Wrong, Stuck, execute}
use Rattle.machine_spec.specs.BilStores.{list_stored}
use Rattle.machine_spec.specs.Simulation.{position}
use Rattle.machine_spec.specs.Endings.{Event, AssertFails, EnsureFails, HalfwordFails, CodeWritten, Trapped, AlignFails, JumpFails}
use Rattle.bilv_spec.specs.Run.{false_line}
use Rattle.bilv_spec.specs.Points.{Point}
use Rattle.bilv_spec.specs.Questions.{Reading}

-- what a walk carries from point to point; the address is the point's
pub record Carried : Type 0 where
  pub regs : ℕ → ℕ
  pub flags : ℕ → ℕ
  pub mem : Memory

-- the state at an address
abbrev pub state_at : Carried → ℕ → State
state_at c a = record { pc = a; regs = c.regs; flags = c.flags; mem = c.mem }

-- what is carried of a state
abbrev pub carried_of : State → Carried
carried_of s = record { regs = s.regs; flags = s.flags; mem = s.mem }

-- where an exit of a point leads: on to the point at a place of the program, out of the function, over the last backward transfer, or to an event
pub data Aim : Type 0 where
  OnTo : ℕ → Aim
  Outward : Aim
  OverLast : Aim
  ToEvent : Event → Aim

-- The exits of a point: an assert line that is false, by its number; an event whatever the state is; an exception that is raised; a kept byte that is stored;
-- a next address at which no row can stand; and an edge, which may be taken without a jump, by a jump, or by both, to an address, or to the entry's link value
-- where there is none.
pub data PointExit : Type 0 where
  FalseAssert : (line : ℕ) → Expr → PointExit
  Always : Event → PointExit
  Raising : PointExit
  WritingKept : PointExit
  Unaligned : PointExit
  Along : (falls jumps : Bool) → (to : Option ℕ) → Aim → PointExit

-- an exit is an edge
abbrev pub is_edge : PointExit → ℕ
is_edge (Along falls jumps to aim) = 1
is_edge x = 0

-- it leads out of the function
abbrev pub is_outward : Aim → Bool
is_outward Outward = true
is_outward aim = false

-- an exit is an edge out of the function
abbrev pub goes_out : PointExit → Bool
goes_out (Along falls jumps to aim) = is_outward aim
goes_out x = false

-- What a point does: it executes a list of statements.
pub data Action : Type 0 where
  Executes : Statements → Action

-- A point: the length of its row in bytes; what it does; whether its row reads the choice; what the price counts of it, which is the row's cost and the bytes
-- that the row loads and stores; and its exits in the order in which they are tried.
pub record UnrolledPoint : Type 0 where
  pub point : Point
  pub length : ℕ
  pub does : Action
  pub draws : Bool
  pub row : ℕ
  pub loads : ℕ
  pub stores : ℕ
  pub exits : List PointExit

-- a run of addresses, both ends included
pub record AddressRun : Type 0 where
  pub low : ℕ
  pub high : ℕ

-- a run of bytes from an address on; those that are not listed are 0
pub record ByteRun : Type 0 where
  pub at : ℕ
  pub count : ℕ
  pub bytes : List ℕ

-- An unrolled program: its byte order; whether some of its machine's rows have 2 bytes; the registers of its machine in the order in which a state lists them,
-- and how many flags it has; its entry condition (the number of the link register, the address of the function, the lines that are required, the kept and the
-- fixed bytes as runs); the lines that are ensured at the exit; the runs of kept bytes; the addresses of the words whose constants stand for their loads; and
-- its points, of which the first is the entry's.
pub record UnrolledProgram : Type 0 where
  pub endian : Endian
  pub narrow : Bool
  pub registers : List ℕ
  pub flags : ℕ
  pub link : ℕ
  pub entry : ℕ
  pub requires : List NoteLine
  pub ensures : List NoteLine
  pub kept : List AddressRun
  pub known : List ByteRun
  pub literals : List ℕ
  pub points : List UnrolledPoint

-- the program has the register
abbrev pub is_register_of : UnrolledProgram → ℕ → Bool
is_register_of u r = list_any (nat_eq r) u.registers

-- the program has the flag
abbrev pub is_flag_of : UnrolledProgram → ℕ → Bool
is_flag_of u f = nat_lt f u.flags

-- the byte at an address is kept
abbrev pub is_in : List AddressRun → ℕ → Bool
is_in runs a = list_any (λ r. nat_le r.low a && nat_le a r.high) runs

-- the byte of the run that was found
abbrev pub byte_in_run : ℕ → Option ByteRun → Option ℕ
byte_in_run a None = None
byte_in_run a (Some r) = Some (slice_index r.bytes (a - r.at))

-- the byte that is known at an address
abbrev pub byte_of_runs : List ByteRun → ℕ → Option ℕ
byte_of_runs runs a = byte_in_run a (find (λ r. nat_le r.at a && nat_lt a (r.at + r.count)) runs)

-- no point
abbrev pub no_point : UnrolledPoint
no_point = record {
  point = record { turns = 0; stack = []; at = 0 };
  length = 0;
  does = Executes Empty;
  draws = false;
  row = 0;
  loads = 0;
  stores = 0;
  exits = [];
}

-- the point at a place of the program; there is nothing behind the last
abbrev pub point_at : UnrolledProgram → ℕ → UnrolledPoint
point_at u i = slice_index_or u.points i no_point

-- How a point is left: it goes on to an address, by a jump or without one, and carries something on; or an exception is raised. A list that is well typed and
-- has no loop does one of the two.
pub data Leaving : Type 0 where
  GoesOn : (jumped : Bool) → (to : ℕ) → Carried → Leaving
  RaisesOne : ℕ → Leaving
  IsStuck : Leaving

-- the address that a list goes on to: its jump's, or the one behind its row
abbrev pub goes_on : UnrolledPoint → Option ℕ → Carried → Leaving
goes_on q None c = GoesOn false (add 32 q.point.at q.length) c
goes_on q (Some a) c = GoesOn true a c

-- how a list leaves its point, by how it ends
abbrev pub leaving_by : UnrolledPoint → Ending → Leaving
leaving_by q (Ends p) = goes_on q p.jump (record { regs = p.env.regs; flags = p.env.flags; mem = p.env.mem })
leaving_by q (RaisesException n p) = RaisesOne n
leaving_by q (OutOfTurns p) = IsStuck
leaving_by q Wrong = IsStuck

-- where the list of a point begins: no local variable has a value, no jump was made, and there are no turns of loops
abbrev pub begins : UnrolledPoint → Carried → Position
begins q c = position (λ x t. Stuck) 0 None (state_at c q.point.at)

-- how an action leaves a point
abbrev pub left_by : UnrolledPoint → (choice : ℕ) → Carried → Action → Leaving
left_by q choice c (Executes list) = leaving_by q (execute list choice (begins q c))

-- how a point is left, under a choice
abbrev pub leaving : UnrolledPoint → (choice : ℕ) → Carried → Leaving
leaving q choice c = left_by q choice c q.does

-- the addresses of the bytes that an action stores
abbrev pub stored_by : UnrolledPoint → (choice : ℕ) → Carried → Action → List ℕ
stored_by q choice c (Executes list) = list_stored list choice (begins q c)

-- the addresses of the bytes that a point stores
abbrev pub stored_at : UnrolledPoint → (choice : ℕ) → Carried → List ℕ
stored_at q choice c = stored_by q choice c q.does

-- an exception is raised
abbrev pub is_raised : Leaving → Bool
is_raised (GoesOn jumped to c) = false
is_raised (RaisesOne n) = true
is_raised IsStuck = false

-- the point goes on to an address at which no row can stand
abbrev pub is_unaligned : (narrow : Bool) → Leaving → Bool
is_unaligned narrow (GoesOn jumped to c) = not (is_place narrow to)
is_unaligned narrow (RaisesOne n) = false
is_unaligned narrow IsStuck = false

-- the address at which an edge is taken
abbrev pub edge_address : UnrolledProgram → (entry : State) → Option ℕ → ℕ
edge_address u entry None = entry.regs u.link
edge_address u entry (Some a) = a

-- the point goes on along an edge
abbrev pub goes_along : UnrolledProgram → (entry : State) → (falls jumps : Bool) → (to : Option ℕ) → Leaving → Bool
goes_along u entry falls jumps at (GoesOn jumped to c) = (if jumped then jumps else falls) && (to == edge_address u entry at)
goes_along u entry falls jumps at (RaisesOne n) = false
goes_along u entry falls jumps at IsStuck = false

-- an exit is taken, in the state now at the point, which stores a kept byte or not and is left in some way
abbrev pub is_taken : UnrolledProgram → (entry now : State) → (writes_kept : Bool) → Leaving → PointExit → Bool
is_taken u entry now writes_kept l (FalseAssert line e) = not (is_true (value u.endian e now entry))
is_taken u entry now writes_kept l (Always e) = true
is_taken u entry now writes_kept l Raising = is_raised l
is_taken u entry now writes_kept l WritingKept = writes_kept
is_taken u entry now writes_kept l Unaligned = is_unaligned u.narrow l
is_taken u entry now writes_kept l (Along falls jumps to aim) = goes_along u entry falls jumps to l

-- the event of an exception by its number
abbrev pub number_event : ℕ → Event
number_event n = if n == exception_number OddHalfword then HalfwordFails else if n == exception_number UnalignedLoad then AlignFails else Trapped

-- the event where an exception is raised
abbrev pub raised_event : Leaving → Event
raised_event (GoesOn jumped to c) = Trapped
raised_event (RaisesOne n) = number_event n
raised_event IsStuck = Trapped

-- where an exit leads
abbrev pub aim_of : Leaving → PointExit → Aim
aim_of l (FalseAssert line e) = ToEvent (AssertFails line)
aim_of l (Always e) = ToEvent e
aim_of l Raising = ToEvent (raised_event l)
aim_of l WritingKept = ToEvent CodeWritten
aim_of l Unaligned = ToEvent AlignFails
aim_of l (Along falls jumps to aim) = aim

-- where the first exit leads that is taken; a jump that takes none isn't allowed
abbrev pub first_aim : UnrolledProgram → (entry now : State) → (writes_kept : Bool) → Leaving → List PointExit → Aim
first_aim u entry now writes_kept l [] = ToEvent JumpFails
first_aim u entry now writes_kept l (x ∷ rest) = if is_taken u entry now writes_kept l x then aim_of l x else first_aim u entry now writes_kept l rest

-- a walk is at the point at a place, with what it carries; or it has left the function, had an event, or made one backward transfer too many
pub data Walk : Type 0 where
  WalkIsAt : (place : ℕ) → Carried → Walk
  WalkExits : Walk
  WalkFails : Event → Walk
  WalkTurns : Walk

-- what is carried on
abbrev pub carried_on : Leaving → Carried → Carried
carried_on (GoesOn jumped to c) old = c
carried_on (RaisesOne n) old = old
carried_on IsStuck old = old

-- the address that a point goes on to
abbrev pub next_address : Leaving → ℕ
next_address (GoesOn jumped to c) = to
next_address (RaisesOne n) = 0
next_address IsStuck = 0

-- an exit is judged by the ensure lines, in the state that it reaches
abbrev pub out_by : Option ℕ → Walk
out_by None = WalkExits
out_by (Some line) = WalkFails (EnsureFails line)

-- the walk after an exit that leads there
abbrev pub walk_to : UnrolledProgram → (entry : State) → (next : State) → Aim → Walk
walk_to u entry next (OnTo i) = WalkIsAt i (carried_of next)
walk_to u entry next Outward = out_by (false_line u.endian u.ensures next entry)
walk_to u entry next OverLast = WalkTurns
walk_to u entry next (ToEvent e) = WalkFails e

-- the walk after a point, which is left in some way
abbrev pub walk_from : UnrolledProgram → (entry : State) → UnrolledPoint → (choice : ℕ) → Carried → Walk
walk_from u entry q choice c =
    walk_to u entry (state_at (carried_on (leaving q choice c) c) (next_address (leaving q choice c)))
    (first_aim u entry (state_at c q.point.at) (list_any (is_in u.kept) (stored_at q choice c)) (leaving q choice c) q.exits)

-- the walk after one more point
abbrev pub walk_on : UnrolledProgram → Reading → Walk → Walk
walk_on u r (WalkIsAt i c) = walk_from u r.state (point_at u i) (r.choice (point_at u i).point) c
walk_on u r WalkExits = WalkExits
walk_on u r (WalkFails e) = WalkFails e
walk_on u r WalkTurns = WalkTurns

-- the walk of a reading after a number of points
unfoldable pub walk : UnrolledProgram → Reading → ℕ → Walk
walk u r zero = WalkIsAt 0 (carried_of r.state)
walk u r (suc n) = walk_on u r (walk u r n)

-- an exit of the point at place i that leads to a point leads to a later place of the program
abbrev pub LeadsLater : UnrolledProgram → (i : ℕ) → PointExit → Type 0
LeadsLater u i (Along falls jumps to (OnTo j)) = (i < j) × (j < length u.points)
LeadsLater u i x = Unit {0}

-- the exits of each point do
abbrev pub ExitsLeadLater : UnrolledProgram → Type 0
ExitsLeadLater u = (i : ℕ) (x : PointExit) → i < length u.points → Contains (point_at u i).exits x → LeadsLater u i x
