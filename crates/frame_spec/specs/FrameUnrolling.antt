-- What the unrolled frame of a frame is: as without heads and contracts, with several roots, arrivals and contract steps.
use Rattle.std.specs.Prelude.{◌⊎◌, ℕ, suc, ◌≡◌, ◌≢◌, ◌≤◌, ◌+◌, ◌<◌, ◌^◌, Bool, true, false, not, ◌==◌, ◌&&◌, ◌||◌, nat_eq, nat_lt, if◌then◌else◌, List, [], ◌∷◌, ◌++◌, ◌↔◌, Contains, Option, Some, None, length, map, filter, sum_by, slice_index}
use Rattle.std.specs.List.{list_any, AllZip}
use Rattle.word_spec.specs.State.{State, IsState}
use Rattle.machine_spec.specs.Machine.{Outcome, Goes, Raises, Row, addresses, exception_number}
use Rattle.bilv_spec.specs.Notes.{Expr, Number, Register, Flag, Pc, Bound, Memory, Old, Not, Binary, NoteLine, Assert}
use Rattle.machine_spec.specs.Bil as bil
use Rattle.machine_spec.specs.Bil.{BilVariable, Statements, Empty}
use Rattle.machine_spec.specs.BilTyping.{IsWellTyped}
use Rattle.machine_spec.specs.BilCounts.{list_weight, byte_loads, byte_stores, memory_choices, chosen_stores, unknowns, has_no_loop, has_no_special, nesting, list_names_only}
use Rattle.bilv_spec.specs.Graph.{may_return, LeadsTo}
use Rattle.bilv_spec.specs.LiveFlags.{names_flag, reads_by, surely_by, asserts_flag, ensures_flag}
use Rattle.bilv_spec.specs.Run.{Program, fetchable, all_kept}
use Rattle.bilv_spec.specs.Points.{EdgeEnd, ToAddress, ToExit, fall_ends, jump_ends, same_end, file_row, file_word, IsCount, is_kept_at, is_known_at, begins_run}
use Rattle.walk_spec.specs.Unrolled.{is_in, byte_of_runs}
use Rattle.walk_spec.specs.Unrolling.{HoldsLiteral, jumps, address_of, stop_event, row_draws, file_known, AreRuns}
use Rattle.frame_spec.specs.Frames.{Content, Contract, Frame, OfStep, content_at, content_of, is_head, is_invariant, invariants_of, contract_at}
use Rattle.frame_spec.specs.FramePoints.{Anchor, AtEntry, AtHead, Point, IsPoint, ArePoints, IsAnchor, triple, first_of, is_entry, is_cut, frame_edges, end_of, point_price, point_loads, point_stores}
use Rattle.frame_spec.specs.FrameWalk.{Check, Aim, OnTo, IntoHead, Outward, OverLast, ToEvent, Cutting, PointExit, FalseCheck, FalseNeed, Always, Raising, WritingKept, WritingOutside, NotGiven, Unaligned, Along, Action, Executes, Arrives, StepsOver, UnrolledPoint, Root, Own, UnrolledProgram, point_at, root_at, Leaving, GoesOn, RaisesOne, IsRooted, left_by, stored_by, Walk, WalkIsAt, WalkArrives, WalkFails, WalkTurns, WalkBreaks, walk_from}
use Rattle.frame_spec.specs.FrameRuns.{FrameStep, Halts, GoesTo, Reaches, Breaks, contract_step}
use Rattle.frame_spec.specs.FrameLaws.{HasPlaces}

-- an expression names a flag within old
abbrev pub names_old : ℕ → Expr → Bool
names_old f (Old e) = names_flag f e || names_old f e
names_old f (Memory n e) = names_old f e
names_old f (Not e) = names_old f e
names_old f (Binary op a b) = names_old f a || names_old f b
names_old f (Flag g) = false
names_old f (Number n) = false
names_old f (Register r) = false
names_old f Pc = false
names_old f Bound = false

-- it names the flag anywhere: where a line is judged with one state as both, what it names within old is read there too
abbrev pub names_any : ℕ → Expr → Bool
names_any f e = names_flag f e || names_old f e

-- a contract step reads the flag: the contract may not change it, or a line names it as it is before
abbrev pub contract_reads : ℕ → Option Contract → Bool
contract_reads f None = false
contract_reads f (Some x) =
    not (list_any (nat_eq f) x.flags) || (list_any (λ l. names_any f l.says) x.needs || (list_any (λ w. names_any f w.says) x.writes
    || list_any (λ l. names_old f l.says) x.gives))

-- the exit of a contract's frame reads it
abbrev pub exit_reads : ℕ → List Contract → Bool
exit_reads f contracts = list_any (λ x. not (list_any (nat_eq f) x.flags) || list_any (λ l. names_flag f l.says) x.gives) contracts

mutual
  -- The flag is read from an address on before it is surely assigned, in some frame: one graph serves all frames, so that a row is trimmed once.
  pub data IsRead (p : Program) (contracts : List Contract) (f : ℕ) : ℕ → Type 0 where
    by_assert : {a : ℕ} → asserts_flag p f a ≡ true → IsRead p contracts f a
    by_row : {a : ℕ} → reads_by f (file_row p a) ≡ true → IsRead p contracts f a
    by_contract : {a : ℕ} → contract_reads f (contract_at contracts a) ≡ true → IsRead p contracts f a
    later : {a : ℕ} → surely_by f (file_row p a) ≡ false → IsReadAfter p contracts f a → IsRead p contracts f a

  pub data IsReadAfter (p : Program) (contracts : List Contract) (f : ℕ) : ℕ → Type 0 where
    on_path : {a b : ℕ} → LeadsTo p a b → IsRead p contracts f b → IsReadAfter p contracts f a
    at_exit : {a : ℕ} → may_return p a ≡ true → (ensures_flag p f || exit_reads f contracts) ≡ true → IsReadAfter p contracts f a

-- what is carried is that of a state, but for flags that nothing reads from here on
pub record IsCarriedOf (reads : ℕ → Type 0) (s : State) (c : Content) : Type 0 where
  pub state : IsState (content_at c s.pc)
  pub regs : c.regs ≡ s.regs
  pub mem : c.mem ≡ s.mem
  pub flags : (f : ℕ) → reads f → c.flags f ≡ s.flags f

-- A list may name the registers and flags of the frame and the memory. Registers go by their numbers, whatever their bank.
abbrev pub is_variable_of : UnrolledProgram → BilVariable → Bool
is_variable_of u (bil.Register b r) = list_any (nat_eq r) u.registers
is_variable_of u (bil.Flag g) = nat_lt g u.flags
is_variable_of u bil.Mem = true
is_variable_of u (bil.Local x n) = false

-- A list that terms can be made of within the price of its point, as without heads and contracts.
pub record IsRunnable (u : UnrolledProgram) (q : UnrolledPoint) (list : Statements) : Type 0 where
  pub typed : IsWellTyped list
  pub no_loop : has_no_loop list ≡ true
  pub no_special : has_no_special list ≡ true
  pub nests : nesting list ≤ 2
  pub picks : memory_choices list ≡ 0
  pub steady : chosen_stores list ≡ 0
  pub names : list_names_only list (is_variable_of u) ≡ true
  pub draws : q.draws ≡ false → unknowns list ≡ 0
  pub weight : list_weight list + 64 ≤ q.row
  pub loads : byte_loads list ≤ q.loads
  pub byte_stores : byte_stores list ≤ q.stores

-- an action that terms can be made of; an arrival has none, and what a contract step takes is of its own form
abbrev pub CanBeTerms : UnrolledProgram → UnrolledPoint → Action → Type 0
CanBeTerms u q (Executes list) = IsRunnable u q list
CanBeTerms u q Arrives = Unit {0}
CanBeTerms u q (StepsOver x) = Unit {0}

-- the point is left as the row is
abbrev pub LeavesAs : (reads : ℕ → Type 0) → Outcome → Leaving → Type 0
LeavesAs reads (Goes how new) (GoesOn jumped to c) = (jumped ≡ jumps how) × (to ≡ new.pc) × IsCarriedOf reads new c
LeavesAs reads (Raises e) (RaisesOne n) = n ≡ exception_number e
LeavesAs reads o l = ⊥

-- what a point does is what the row at its address does, as far as it is read later
pub record DoesRow (p : Program) (contracts : List Contract) (u : UnrolledProgram) (q : UnrolledPoint) (row : Row) : Type 0 where
  pub length : q.length ≡ row.length
  pub lists : (list : Statements) × (q.does ≡ Executes list)
  pub leaves : (s : State) (c : Content) (choice : ℕ) → IsState s → s.pc ≡ q.point.at → choice < 4 → HoldsLiteral p row s →
      IsCarriedOf (λ f. IsRead p contracts f s.pc) s c → LeavesAs (λ f. IsReadAfter p contracts f s.pc) (row.effect s choice) (left_by u q choice c c q.does)
  pub stores : (s : State) (c : Content) (choice : ℕ) → IsState s → s.pc ≡ q.point.at → choice < 4 → HoldsLiteral p row s →
      IsCarriedOf (λ f. IsRead p contracts f s.pc) s c → (a : ℕ) → Contains (stored_by u q choice c q.does) a ↔ Contains (addresses (row.stored s)) a

-- the lines that are judged at an address, in the order of the notes
abbrev pub checks_by : Frame → List Assert → List Check
checks_by f l = map (λ x. record { line = x.line; invariant = is_invariant f x; says = x.says }) l

abbrev pub checks_at : Frame → ℕ → List Check
checks_at f a = checks_by f (filter (λ x. x.at == a) f.program.notes.asserts)

-- At the first point of a head's anchor the invariants are assumed, so the other lines alone are judged there. No other point of the anchor is at a head.
abbrev pub checks_of : Frame → Point → List Check
checks_of f q =
    checks_by f (filter (λ x. (x.at == q.at) && not (is_head f q.at && not (is_entry q.anchor) && is_invariant f x)) f.program.notes.asserts)

-- An edge of the point at place i leads out; to a head, and to its lines; to the place of its end, which comes later; or over the last backward transfer.
abbrev pub IsAim : Frame → (k : ℕ) → UnrolledProgram → (i : ℕ) → Point → EdgeEnd → Aim → Type 0
IsAim f k u i q ToExit Outward = Unit {0}
IsAim f k u i q (ToAddress stack a) (IntoHead at lines) = (is_head f a ≡ true) × (at ≡ a) × (lines ≡ checks_at f a)
IsAim f k u i q (ToAddress stack a) (OnTo j) =
    (is_head f a ≡ false) × (i < j) × (j < length u.points) × ((point_at u j).point ≡ end_of f q stack a)
IsAim f k u i q (ToAddress stack a) OverLast = (is_head f a ≡ false) × ((end_of f q stack a).turns ≡ suc k)
IsAim f k u i q t aim = ⊥

-- the row of a point may fall to an end, or jump to it; a contract step does as a jump does
abbrev pub falls_to : Option Row → Point → EdgeEnd → Bool
falls_to None q t = false
falls_to (Some row) q t = list_any (same_end t) (fall_ends (triple q) row (row.successors q.at))

abbrev pub jumps_to : Frame → Option Row → Point → EdgeEnd → Bool
jumps_to f None q t = true
jumps_to f (Some row) q t = list_any (same_end t) (jump_ends f.program (triple q) row (row.successors q.at))

-- the exit is the edge of an end
pub record IsEdge (f : Frame) (k : ℕ) (u : UnrolledProgram) (i : ℕ) (q : Point) (row : Option Row) (t : EdgeEnd) (x : PointExit) : Type 0 where
  pub aim : Aim
  pub leads : IsAim f k u i q t aim
  pub is : x ≡ Along (falls_to row q t) (jumps_to f row q t) (address_of t) aim

-- the ends of a point's edges in some order, each once, the exit first
pub record AreEdgesOf (f : Frame) (q : Point) (ends : List EdgeEnd) : Type 0 where
  pub same : (t : EdgeEnd) → Contains (frame_edges f q) t ↔ Contains ends t
  pub count : length ends ≡ length (frame_edges f q)
  pub exit_first : (t : EdgeEnd) (rest : List EdgeEnd) → ends ≡ t ∷ rest → ¬ Contains rest ToExit

abbrev pub AreAlong : Frame → (k : ℕ) → UnrolledProgram → (i : ℕ) → Point → Option Row → List PointExit → Type 0
AreAlong f k u i q row along = (ends : List EdgeEnd) × AreEdgesOf f q ends × AllZip (IsEdge f k u i q row) ends along

-- the exit by the bytes that the frame's contract may write, where there is one
abbrev pub outside_exit : Option Contract → List PointExit
outside_exit None = []
outside_exit (Some x) = WritingOutside ∷ []

-- a contract step, by the contract of its address and the return address on top of the stack
abbrev pub DoesContract : Frame → (k : ℕ) → UnrolledProgram → (i : ℕ) → UnrolledPoint → Option Contract → List ℕ → Type 0
DoesContract f k u i q (Some x) (to ∷ below) =
    (along : List PointExit)
    × (q.does ≡ StepsOver (record { to = to; writes = x.writes; gives = x.gives; registers = x.registers; flags = x.flags }))
    × (q.exits ≡ map (λ l. FalseNeed l.line l.says) x.needs ++ WritingKept ∷ (outside_exit f.own ++ NotGiven ∷ along))
    × AreAlong f k u i q.point None along
DoesContract f k u i q o stack = ⊥

-- the row at an address
abbrev pub DoesAddress : Frame → List Contract → (k : ℕ) → UnrolledProgram → (i : ℕ) → UnrolledPoint → Option Row → Type 0
DoesAddress f contracts k u i q None =
    (q.does ≡ Executes Empty)
    × (q.exits ≡ map FalseCheck (checks_of f q.point) ++ Always
    (ToEvent (OfStep (stop_event (fetchable f.program (file_word f.program q.point.at) q.point.at)))) ∷ [])
DoesAddress f contracts k u i q (Some row) =
    (along : List PointExit)
    × (q.exits ≡ map FalseCheck (checks_of f q.point) ++ Raising ∷ WritingKept ∷ (outside_exit f.own ++ Unaligned ∷ along))
    × AreAlong f k u i q.point (Some row) along × DoesRow f.program contracts u q row

-- the entry's own point at a head
abbrev pub DoesCut : Frame → UnrolledPoint → Type 0
DoesCut f q = (q.does ≡ Arrives) × (q.exits ≡ map FalseCheck (checks_of f q.point) ++ Always Cutting ∷ [])

-- what stands at a place
abbrev pub DoesBy : (contract cut : Bool) → Frame → List Contract → (k : ℕ) → UnrolledProgram → (i : ℕ) → UnrolledPoint → Type 0
DoesBy true cut f contracts k u i q = DoesContract f k u i q (contract_at f.stepped q.point.at) q.point.stack
DoesBy false true f contracts k u i q = DoesCut f q
DoesBy false false f contracts k u i q = DoesAddress f contracts k u i q (file_row f.program q.point.at)

abbrev pub DoesPlace : Frame → List Contract → (k : ℕ) → UnrolledProgram → (i : ℕ) → UnrolledPoint → Type 0
DoesPlace f contracts k u i q = DoesBy q.point.contract (is_cut f q.point) f contracts k u i q

-- what is counted of a point
pub record IsCounted (f : Frame) (q : UnrolledPoint) : Type 0 where
  pub draws : q.draws ≡ (if q.point.contract then false else row_draws (file_row f.program q.point.at))
  pub row : q.row ≡ point_price f q.point
  pub loads : q.loads ≡ point_loads f q.point
  pub stores : q.stores ≡ point_stores f q.point

pub record IsPlace (f : Frame) (contracts : List Contract) (k : ℕ) (u : UnrolledProgram) (i : ℕ) (q : UnrolledPoint) : Type 0 where
  pub does : DoesPlace f contracts k u i q
  pub terms : CanBeTerms u q q.does
  pub counted : IsCounted f q

-- the literal of the row at a point, whose four bytes are kept
pub record IsLiteralOf (f : Frame) (k a : ℕ) : Type 0 where
  pub point : Point
  pub is_point : IsPoint f k point
  pub executes : point.contract ≡ false
  pub row : Row
  pub is_row : file_row f.program point.at ≡ Some row
  pub loads : row.literal point.at ≡ Some a
  pub is_kept : all_kept f.program a ≡ true

-- the invariants at a head, as lines
abbrev pub lines_of : List Assert → List NoteLine
lines_of l = map (λ x. record { line = x.line; says = x.says }) l

-- what a root assumes
abbrev pub assumed_at : Frame → Anchor → List NoteLine
assumed_at f AtEntry = []
assumed_at f (AtHead stack a) = lines_of (filter (λ x. x.at == a) (invariants_of f f.program.notes.asserts))

-- a root is that of an anchor
pub record IsRootOf (f : Frame) (u : UnrolledProgram) (x : Root) (anchor : Anchor) : Type 0 where
  pub place : x.place < length u.points
  pub point : (point_at u x.place).point ≡ first_of f.program.entry anchor
  pub assumes : x.assumes ≡ assumed_at f anchor

-- how a contract's frame is left
abbrev pub own_of : Option Contract → Option Own
own_of None = None
own_of (Some x) = Some (record { gives = x.gives; writes = x.writes; registers = x.registers; flags = x.flags })

-- The unrolled frame of a frame, among frames with these contracts: the same machine, entry condition and notes; its points each once with their edges; and
-- one root for each anchor.
pub record IsUnrolling (f : Frame) (contracts : List Contract) (k : ℕ) (u : UnrolledProgram) : Type 0 where
  pub endian : u.endian ≡ f.program.machine.endian
  pub narrow : u.narrow ≡ f.program.machine.narrow
  pub registers : (r : ℕ) → list_any (nat_eq r) u.registers ≡ f.program.machine.has_register r
  pub registers_rise : (i j : ℕ) → i < j → j < length u.registers → slice_index u.registers i < slice_index u.registers j
  pub flags : (g : ℕ) → nat_lt g u.flags ≡ f.program.machine.has_flag g
  pub link : u.link ≡ f.program.machine.link
  pub entry : u.entry ≡ f.program.entry
  pub requires : u.requires ≡ f.program.notes.requires
  pub ensures : u.ensures ≡ f.program.notes.ensures
  pub own : u.own ≡ own_of f.own
  pub kept : (a : ℕ) → is_in u.kept a ≡ is_kept_at f.program a
  pub runs : AreRuns u.kept
  pub kept_runs : IsCount (begins_run f.program) (length u.kept)
  pub known : (a : ℕ) → a < 2 ^ 32 → byte_of_runs u.known a ≡ file_known f.program a
  pub known_bytes : IsCount (is_known_at f.program) (sum_by (λ r. r.count) u.known)
  pub literals : (a : ℕ) → Contains u.literals a ↔ IsLiteralOf f k a
  pub points : ArePoints f k (map (λ q. q.point) u.points)
  pub first : (point_at u 0).point ≡ first_of f.program.entry AtEntry
  pub roots : (x : Root) → Contains u.roots x → (anchor : Anchor) × IsAnchor f k anchor × IsRootOf f u x anchor
  pub rooted : (anchor : Anchor) → IsAnchor f k anchor → (x : Root) × Contains u.roots x × IsRootOf f u x anchor
  pub roots_once : (i j : ℕ) → i < j → j < length u.roots → (root_at u i).place ≢ (root_at u j).place
  pub places : (i : ℕ) → i < length u.points → IsPlace f contracts k u i (point_at u i)

-- its places rise within their anchors, and its roots are those of its anchors
abbrev pub UnrollingIsRooted : Type 0
UnrollingIsRooted = (f : Frame) (contracts : List Contract) (k : ℕ) (u : UnrolledProgram) → IsUnrolling f contracts k u →
    IsRooted u

-- A walk after a step of a frame from a point: it ends alike, or is at the point of the edge that the step goes along, in the same state.
abbrev pub IsStep : Frame → (k : ℕ) → UnrolledProgram → Point → FrameStep → Walk → Type 0
IsStep f k u q (Halts e) w = w ≡ WalkFails e
IsStep f k u q (Breaks line) w = w ≡ WalkBreaks
IsStep f k u q (GoesTo d) w =
    ((j : ℕ) × (w ≡ WalkIsAt j (content_of d.state)) × (j < length u.points) × ((point_at u j).point ≡ end_of f q d.stack d.state.pc))
    ⊎ ((w ≡ WalkTurns) × ((end_of f q d.stack d.state.pc).turns ≡ suc k))
IsStep f k u q (Reaches d) w = w ≡ WalkArrives d.state.pc (checks_at f d.state.pc) (content_of d.state)
IsStep f k u q s w = ⊥

-- what a contract step does at a contract's point is what the frame does there: the one new case of the walk's being the run
abbrev pub ContractStepIsWalk : Type 0
ContractStepIsWalk = (f : Frame) (contracts : List Contract) (k : ℕ) (u : UnrolledProgram) → IsUnrolling f contracts k u → HasPlaces f.program →
    ((a : ℕ) (x : Contract) → contract_at f.stepped a ≡ Some x → contract_at contracts a ≡ Some x) →
    (i : ℕ) → i < length u.points → (point_at u i).point.contract ≡ true → (s e : State) (c g : Content) (choice : ℕ) → s.pc ≡ (point_at u i).point.at →
    IsCarriedOf (λ n. IsRead f.program contracts n s.pc) s c →
    IsStep f k u (point_at u i).point (contract_step f e (record { state = s; stack = (point_at u i).point.stack }) g)
    (walk_from u e (point_at u i) choice g c)
