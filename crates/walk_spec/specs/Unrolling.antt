-- What the unrolled program of a program is, and what of it layers use that know no program.
use Rattle.std.specs.Prelude.{ℕ, suc, ◌≡◌, ◌≤◌, ◌<◌, ◌+◌, ◌^◌, Bool, true, false, ◌==◌, if◌then◌else◌, List, [], ◌∷◌, ◌++◌, ◌↔◌, Contains, Option, Some, None, length, map, filter, sum_by, slice_index}
use Rattle.std.specs.List.{list_any, AllZip}
use Rattle.word_spec.specs.Words.{bit}
use Rattle.word_spec.specs.Memory.{load}
use Rattle.word_spec.specs.State.{State, IsState}
use Rattle.machine_spec.specs.Machine.{How, On, Direct, DirectCall, Indirect, IndirectCall, Outcome, Goes, Raises, Row, addresses, exception_number}
use Rattle.bilv_spec.specs.Notes.{Expr, Number, Register, Flag, Pc, Bound, Memory, Old, Not, Binary, NoteLine, Assert, Notes}
use Rattle.machine_spec.specs.Bil as bil
use Rattle.machine_spec.specs.Bil.{BilVariable, Statements, Empty}
use Rattle.machine_spec.specs.BilTyping.{IsWellTyped}
use Rattle.machine_spec.specs.BilCounts.{list_weight, byte_loads, byte_stores, memory_choices, chosen_stores, unknowns, has_no_loop, has_no_special, nesting, list_names_only}
use Rattle.word_spec.specs.RowFiles.{from_to}
use Rattle.machine_spec.specs.StateText.{Layout}
use Rattle.bilv_spec.specs.Run.{Program, fetchable, all_kept}
use Rattle.machine_spec.specs.Endings.{Event, FetchFails, NoRow}
use Rattle.bilv_spec.specs.Points.{Point, EdgeEnd, ToAddress, ToExit, end_of, edges, fall_ends, jump_ends, same_end, file_row, file_number, file_word, row_price, loads_at, stores_at, IsPoint, ArePoints, IsCount, is_kept_at, is_known_at, begins_run, byte_of_cell}
use Rattle.bilv_spec.specs.LiveFlags.{IsRead, IsReadAfter}
use Rattle.walk_spec.specs.Unrolled.{Carried, state_at, Aim, OnTo, Outward, OverLast, PointExit, FalseAssert, Always, Raising, WritingKept, Unaligned, Along, Action, Executes, UnrolledPoint, UnrolledProgram, AddressRun, goes_out, is_register_of, is_flag_of, is_in, byte_of_runs, point_at, Leaving, GoesOn, RaisesOne, leaving, stored_at, ExitsLeadLater}

-- what is carried is that of a state, but for flags that nothing reads from here on
pub record IsCarriedOf (reads : ℕ → Type 0) (s : State) (c : Carried) : Type 0 where
  pub state : IsState (state_at c s.pc)
  pub regs : c.regs ≡ s.regs
  pub mem : c.mem ≡ s.mem
  pub flags : (f : ℕ) → reads f → c.flags f ≡ s.flags f

-- a row jumps
abbrev pub jumps : How → Bool
jumps On = false
jumps Direct = true
jumps DirectCall = true
jumps Indirect = true
jumps IndirectCall = true

-- the point is left as the row is: to the same address by the same way, with what is read later, or by the same exception
abbrev pub LeavesAs : (reads : ℕ → Type 0) → Outcome → Leaving → Type 0
LeavesAs reads (Goes how new) (GoesOn jumped to c) = (jumped ≡ jumps how) × (to ≡ new.pc) × IsCarriedOf reads new c
LeavesAs reads (Raises e) (RaisesOne n) = n ≡ exception_number e
LeavesAs reads o l = ⊥

-- the literal of the row is the file's, where its four bytes are kept
abbrev pub HoldsLiteral : Program → Row → State → Type 0
HoldsLiteral p row s = (a : ℕ) → row.literal s.pc ≡ Some a → all_kept p a ≡ true → load p.machine.endian 4 s.mem a ≡ file_number p a

-- A list may name the registers and flags of the program and the memory. Registers go by their numbers, whatever their bank.
abbrev pub is_variable_of : UnrolledProgram → BilVariable → Bool
is_variable_of u (bil.Register b r) = is_register_of u r
is_variable_of u (bil.Flag f) = is_flag_of u f
is_variable_of u bil.Mem = true
is_variable_of u (bil.Local x n) = false

-- A list that terms can be made of within the price of its point: well typed, without loops and specials, ifs at most two deep, no choice between memories and
-- no store in a side of a choice, over the program's variables, with an unknown only where the row draws, and no heavier than the price counts. Of the row's
-- price 64 are left for the exits of the point, so that a point without an edge can pay for them, and a point without a row, whose price is 64, has no list.
pub record IsRunnable (u : UnrolledProgram) (q : UnrolledPoint) (list : Statements) : Type 0 where
  pub typed : IsWellTyped list
  pub no_loop : has_no_loop list ≡ true
  pub no_special : has_no_special list ≡ true
  pub nests : nesting list ≤ 2
  pub picks : memory_choices list ≡ 0
  pub steady : chosen_stores list ≡ 0
  pub names : list_names_only list (is_variable_of u) ≡ true
  pub draws : q.draws ≡ false → unknowns list ≡ 0
  pub weight : list_weight list + 64 ≤ q.row
  pub loads : byte_loads list ≤ q.loads
  pub byte_stores : byte_stores list ≤ q.stores

-- an action that terms can be made of
abbrev pub CanBeTerms : UnrolledProgram → UnrolledPoint → Action → Type 0
CanBeTerms u q (Executes list) = IsRunnable u q list

-- What a point does is what the row at its address does, as far as it is read later, in each state that has the row's literal.
pub record DoesRow (p : Program) (q : UnrolledPoint) (row : Row) : Type 0 where
  pub length : q.length ≡ row.length
  pub leaves : (s : State) (c : Carried) (choice : ℕ) → IsState s → s.pc ≡ q.point.at → choice < 4 → HoldsLiteral p row s →
      IsCarriedOf (λ f. IsRead p f s.pc) s c → LeavesAs (λ f. IsReadAfter p f s.pc) (row.effect s choice) (leaving q choice c)
  pub stores : (s : State) (c : Carried) (choice : ℕ) → IsState s → s.pc ≡ q.point.at → choice < 4 → HoldsLiteral p row s →
      IsCarriedOf (λ f. IsRead p f s.pc) s c → (a : ℕ) → Contains (stored_at q choice c) a ↔ Contains (addresses (row.stored s)) a

-- the address of an edge's end, if it is not the exit
abbrev pub address_of : EdgeEnd → Option ℕ
address_of ToExit = None
address_of (ToAddress stack a) = Some a

-- an edge from the point at place i leads to the place of its end, which comes later; or over the last backward transfer; or out
abbrev pub IsAim : UnrolledProgram → (k i : ℕ) → Point → EdgeEnd → Aim → Type 0
IsAim u k i point ToExit Outward = Unit {0}
IsAim u k i point (ToAddress stack a) (OnTo j) = (i < j) × (j < length u.points) × ((point_at u j).point ≡ end_of point stack a)
IsAim u k i point (ToAddress stack a) OverLast = (end_of point stack a).turns ≡ suc k
IsAim u k i point t aim = ⊥

-- the exit is the edge of an end: the row may fall to it, or jump to it
pub record IsEdge (p : Program) (k : ℕ) (u : UnrolledProgram) (i : ℕ) (point : Point) (row : Row) (t : EdgeEnd) (x : PointExit) : Type 0 where
  pub aim : Aim
  pub leads : IsAim u k i point t aim
  pub is : x ≡ Along (list_any (same_end t) (fall_ends point row (row.successors point.at)))
      (list_any (same_end t) (jump_ends p point row (row.successors point.at))) (address_of t) aim

-- The ends of a point's edges in some order, each once, of which only one thing matters: the exit comes before a named target of the same address, so it
-- comes first.
pub record AreEdgesOf (p : Program) (point : Point) (ends : List EdgeEnd) : Type 0 where
  pub same : (t : EdgeEnd) → Contains (edges p point) t ↔ Contains ends t
  pub count : length ends ≡ length (edges p point)
  pub exit_first : (t : EdgeEnd) (rest : List EdgeEnd) → ends ≡ t ∷ rest → ¬ Contains rest ToExit

-- the exits by the assert lines at a point
abbrev pub assert_exits : Program → Point → List PointExit
assert_exits p point = map (λ a. FalseAssert a.line a.says) (filter (λ a. a.at == point.at) p.notes.asserts)

-- the event where there is no row
abbrev pub stop_event : (fetchable : Bool) → Event
stop_event true = NoRow
stop_event false = FetchFails

-- the row reads the choice
abbrev pub row_draws : Option Row → Bool
row_draws None = false
row_draws (Some row) = row.draws

-- what is counted of a point is what its row costs
pub record IsCounted (p : Program) (q : UnrolledPoint) (row : Option Row) : Type 0 where
  pub draws : q.draws ≡ row_draws row
  pub row_cost : q.row ≡ row_price row
  pub loads : q.loads ≡ loads_at p q.point.at row
  pub stores : q.stores ≡ stores_at row

-- What stands at a place, by the row at its address: its exits in the order of a step, with an edge for each of the program's, and what it does. Where there
-- is no row it does nothing.
abbrev pub DoesPlace : Program → (k : ℕ) → UnrolledProgram → (i : ℕ) → UnrolledPoint → Option Row → Type 0
DoesPlace p k u i q None = (q.does ≡ Executes Empty) × (q.exits ≡ assert_exits p q.point ++ Always (stop_event (fetchable p (file_word p q.point.at) q.point.at)) ∷ [])
DoesPlace p k u i q (Some row) =
    (along : List PointExit) × (q.exits ≡ assert_exits p q.point ++ Raising ∷ WritingKept ∷ Unaligned ∷ along)
    × ((ends : List EdgeEnd) × AreEdgesOf p q.point ends × AllZip (IsEdge p k u i q.point row) ends along) × DoesRow p q row

-- the place of a point
pub record IsPlace (p : Program) (k : ℕ) (u : UnrolledProgram) (i : ℕ) (q : UnrolledPoint) (row : Option Row) : Type 0 where
  pub does : DoesPlace p k u i q row
  pub terms : CanBeTerms u q q.does
  pub counted : IsCounted p q row

-- the byte that is known at an address: the file's where it is kept or fixed
abbrev pub file_known : Program → ℕ → Option ℕ
file_known p a = if is_known_at p a then Some (byte_of_cell (p.loaded a)) else None

-- the literal of the row at a point, whose four bytes are kept
pub record IsLiteralOf (p : Program) (k a : ℕ) : Type 0 where
  pub point : Point
  pub is_point : IsPoint p k point
  pub row : Row
  pub is_row : file_row p point.at ≡ Some row
  pub loads : row.literal point.at ≡ Some a
  pub is_kept : all_kept p a ≡ true

-- runs of addresses, none of them empty
abbrev pub AreRuns : List AddressRun → Type 0
AreRuns runs = (r : AddressRun) → Contains runs r → (r.low ≤ r.high) × (r.high < 2 ^ 32)

-- The unrolled program of a program: the same machine, entry condition and notes, its points each once with their edges, which lead to later places, and no
-- more runs and known bytes than the price counts.
pub record IsUnrolling (p : Program) (k : ℕ) (u : UnrolledProgram) : Type 0 where
  pub endian : u.endian ≡ p.machine.endian
  pub narrow : u.narrow ≡ p.machine.narrow
  pub registers : (r : ℕ) → is_register_of u r ≡ p.machine.has_register r
  pub registers_rise : (i j : ℕ) → i < j → j < length u.registers → slice_index u.registers i < slice_index u.registers j
  pub flags : (f : ℕ) → is_flag_of u f ≡ p.machine.has_flag f
  pub link : u.link ≡ p.machine.link
  pub entry : u.entry ≡ p.entry
  pub requires : u.requires ≡ p.notes.requires
  pub ensures : u.ensures ≡ p.notes.ensures
  pub kept : (a : ℕ) → is_in u.kept a ≡ is_kept_at p a
  pub runs : AreRuns u.kept
  pub kept_runs : IsCount (begins_run p) (length u.kept)
  pub known : (a : ℕ) → a < 2 ^ 32 → byte_of_runs u.known a ≡ file_known p a
  pub known_bytes : IsCount (is_known_at p) (sum_by (λ r. r.count) u.known)
  pub literals : (a : ℕ) → Contains u.literals a ↔ IsLiteralOf p k a
  pub points : ArePoints p k (map (λ q. q.point) u.points)
  pub first : (point_at u 0).point ≡ record { turns = 0; stack = []; at = p.entry }
  pub places : (i : ℕ) → i < length u.points → IsPlace p k u i (point_at u i) (file_row p (point_at u i).point.at)

-- A line of notes reads the program's registers and flags alone, and its numbers are words of 32 bits.
abbrev pub IsReadable : UnrolledProgram → Expr → Type 0
IsReadable u (Number n) = n < 2 ^ 32
IsReadable u (Register r) = is_register_of u r ≡ true
IsReadable u (Flag f) = is_flag_of u f ≡ true
IsReadable u Pc = Unit {0}
IsReadable u Bound = Unit {0}
IsReadable u (Memory n a) = (1 ≤ n) × (n ≤ 4) × IsReadable u a
IsReadable u (Old a) = IsReadable u a
IsReadable u (Not a) = IsReadable u a
IsReadable u (Binary op a b) = IsReadable u a × IsReadable u b

-- the lines of notes can be read by the program
pub record AreReadableBy (u : UnrolledProgram) (n : Notes) : Type 0 where
  pub requires : (l : NoteLine) → Contains n.requires l → IsReadable u l.says
  pub ensures : (l : NoteLine) → Contains n.ensures l → IsReadable u l.says
  pub asserts : (a : Assert) → Contains n.asserts a → IsReadable u a.says

-- the line of an exit is readable
abbrev pub ExitIsReadable : UnrolledProgram → PointExit → Type 0
ExitIsReadable u (FalseAssert line e) = IsReadable u e
ExitIsReadable u x = Unit {0}

-- the layout of states is that of the program: its registers and flags, and no more
pub record IsLaidOut (layout : Layout) (u : UnrolledProgram) : Type 0 where
  pub registers : u.registers ≡ from_to layout.first (length layout.registers)
  pub flags : u.flags ≡ length layout.flags

-- The size of a machine's state for which the prices and bounds are meant: an edge pays for selections of at most 31 words and 4 flags, and what is counted
-- for the nodes of an edge, 4 for each variable, leaves room for its own tests where there are at least 15 registers.
pub record IsSized (u : UnrolledProgram) : Type 0 where
  pub enough : 15 ≤ length u.registers
  pub registers : length u.registers ≤ 31
  pub flags : u.flags ≤ 4

-- What terms need of an unrolled program, without the program that it is of: a state of the right size, exits that lead to later places, at most one of them
-- out of the function, points that can be made terms, notes that can be read, and addresses that are words.
pub record IsWalkable (u : UnrolledProgram) : Type 0 where
  pub sized : IsSized u
  pub some : 0 < length u.points
  pub later : ExitsLeadLater u
  pub one_out : (i : ℕ) → i < length u.points → sum_by (λ x. bit (goes_out x)) (point_at u i).exits ≤ 1
  pub terms : (i : ℕ) → i < length u.points → CanBeTerms u (point_at u i) (point_at u i).does
  pub at : (i : ℕ) → i < length u.points → (point_at u i).point.at < 2 ^ 32
  pub runs : AreRuns u.kept
  pub entry : u.entry < 2 ^ 32
  pub link : is_register_of u u.link ≡ true
  pub requires : (l : NoteLine) → Contains u.requires l → IsReadable u l.says
  pub ensures : (l : NoteLine) → Contains u.ensures l → IsReadable u l.says
  pub asserts : (i : ℕ) (x : PointExit) → i < length u.points → Contains (point_at u i).exits x → ExitIsReadable u x
