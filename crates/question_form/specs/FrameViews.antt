-- The unrolled frame of the definitions that a value stands for.
use Rattle.std.specs.Prelude.{ℕ, ◌≡◌, ◌∷◌, ◌++◌, ◌&&◌, Bool, true, false, not, nat_eq, List, [], Option, Some, None, Contains, length, map, filter, option_map, slice_index_or, slice_range}
use Rattle.std.specs.List.{list_any}
use Rattle.std.specs.Global.{Vec}
use Rattle.word_spec.specs.Memory.{endian}
use Rattle.word_spec.specs.RowFiles.{from_to}
use Rattle.bilv_spec.specs.Notes.{NoteLine}
use Rattle.machine_spec.specs.Bil.{Empty}
use Rattle.walk_spec.specs.Unrolling.{stop_event}
use Rattle.frame_spec.specs.Frames as frames
use Rattle.frame_spec.specs.Frames.{OfStep}
use Rattle.frame_spec.specs.FramePoints.{Anchor, is_entry}
use Rattle.frame_spec.specs.FrameWalk as walk
use Rattle.frame_spec.specs.FrameWalk.{Check, Aim, PointExit, FalseCheck, FalseNeed, Always, Raising, WritingKept, WritingOutside, NotGiven, Unaligned, Along, ToEvent, Cutting, Gift, Action, Executes, Arrives, StepsOver, UnrolledPoint, UnrolledProgram}
use Rattle.frame_spec.specs.FrameUnrolling.{own_of, outside_exit}
use Rattle.frame_laws.specs.HeadlessLaws.{as_unrolled}
use Rattle.bil_ast.specs.declared.statements.Stmt.{Stmt}
use Rattle.bil_ast.specs.Views.{statements}
use Rattle.start_value.specs.Starts.{layout_of}
use Rattle.notes_value.specs.NoteViews.{notes_of}
use Rattle.notes_value.specs.FrameViews.{contract_of}
use Rattle.known_bytes.specs.Runs.{run_of}
use Rattle.program_points.specs.Listed.{anchor_of}
use Rattle.program_points.specs.Tables.{stack_at, stacks_of}
use Rattle.question_form.specs.declared.unrolled.Aim as declared
use Rattle.question_form.specs.declared.unrolled.Aim.TheVariants.{OnTo, IntoHead, Outward, OverLast}
use Rattle.question_form.specs.declared.unrolled.Deed.{Deed}
use Rattle.question_form.specs.declared.unrolled.Deed.TheVariants as deeds
use Rattle.question_form.specs.declared.unrolled.Edge.{Edge}
use Rattle.question_form.specs.declared.unrolled.Code.{Code}
use Rattle.question_form.specs.declared.unrolled.Point.{Point}
use Rattle.question_form.specs.declared.unrolled.Root.{Root}
use Rattle.question_form.specs.declared.unrolled.Unrolled.{Unrolled}
use Rattle.question_form.specs.Views.{no_assert, kept_of, code_of, edges_from, unrolled_of}

-- the line is an invariant
abbrev pub is_invariant : Unrolled → ℕ → Bool
is_invariant u line = list_any (nat_eq line) u.invariants.now

-- the assert line of a place, as one that is judged
abbrev pub check_at : Unrolled → ℕ × ℕ → Check
check_at u x =
    let a = slice_index_or (notes_of u.notes.now).asserts x.1 no_assert in record { line = a.line; invariant = is_invariant u a.line; says = a.says }

-- the assert lines of an address: those between two places of the lines by address
abbrev pub checks_between : Unrolled → ℕ × ℕ → List Check
checks_between u bounds = map (check_at u) (slice_range u.asserts.items bounds.0 bounds.1)

-- the line is judged at the points of an anchor: an invariant is not, where the segment begins at its head
abbrev pub is_judged : Anchor → Check → Bool
is_judged anchor x = not (not (is_entry anchor) && x.invariant)

-- where an edge leads
abbrev pub aim_of : Unrolled → declared.Aim → Aim
aim_of u (OnTo i) = walk.OnTo i
aim_of u (IntoHead at asserts) = walk.IntoHead at (checks_between u asserts)
aim_of u Outward = walk.Outward
aim_of u OverLast = walk.OverLast

-- an edge
abbrev pub edge_of : Unrolled → Edge → PointExit
edge_of u e = Along e.falls e.jumps e.to (aim_of u e.aim)

-- no root
abbrev pub no_root : Root
no_root = record { place = 0; head = None; asserts = (0, 0) }

-- where the segment of the root of a number begins
abbrev pub anchor_at : Unrolled → ℕ → Anchor
anchor_at u n = anchor_of (stacks_of u.frames.items) (slice_index_or u.roots.items n no_root).head

-- the contract whose frame it is
abbrev pub own_contract : Unrolled → Option frames.Contract
own_contract u = option_map (λ x. contract_of x.now) u.own

-- no contract
abbrev pub no_contract : frames.Contract
no_contract = record { at = 0; needs = []; gives = []; writes = []; registers = []; flags = [] }

-- the contract of a number among those that are stepped over
abbrev pub stepped_at : Unrolled → ℕ → frames.Contract
stepped_at u n = slice_index_or (map contract_of u.stepped.now) n no_contract

-- the top of a stack
abbrev pub top_of : List ℕ → ℕ
top_of [] = 0
top_of (to ∷ below) = to

-- what a contract step does, with a return address
abbrev pub gift_of : frames.Contract → (to : ℕ) → Gift
gift_of x to = record { to = to; writes = x.writes; gives = x.gives; registers = x.registers; flags = x.flags }

-- the exits behind those of the assert lines where the row of the address is executed: an event where there is none, and else those of the row, its edges last
abbrev pub row_exits : Unrolled → (fetchable : Bool) → Option (Vec Stmt) → List Edge → List PointExit
row_exits u fetchable None edges = Always (ToEvent (OfStep (stop_event fetchable))) ∷ []
row_exits u fetchable (Some list) edges = Raising ∷ WritingKept ∷ (outside_exit (own_contract u) ++ Unaligned ∷ map (edge_of u) edges)

-- the exits of a contract step: what it needs, the bytes that it writes, what it is given, and its edge
abbrev pub contract_exits : Unrolled → frames.Contract → List Edge → List PointExit
contract_exits u x edges =
    map (λ l. FalseNeed l.line l.says) x.needs ++ WritingKept ∷ (outside_exit (own_contract u) ++ NotGiven ∷ map (edge_of u) edges)

-- what is done at an address
abbrev pub list_of : Option (Vec Stmt) → Action
list_of None = Executes Empty
list_of (Some list) = Executes (statements list.items)

-- what is done at a point, with its stack
abbrev pub action_of : Unrolled → Deed → Option (Vec Stmt) → (stack : List ℕ) → Action
action_of u deeds.Row list stack = list_of list
action_of u deeds.Arrival list stack = Arrives
action_of u (deeds.Contract n) list stack = StepsOver (gift_of (stepped_at u n) (top_of stack))

-- a contract step is made there
abbrev pub is_contract : Deed → Bool
is_contract deeds.Row = false
is_contract deeds.Arrival = false
is_contract (deeds.Contract n) = true

-- the exits by the assert lines that are judged at a point of an anchor; none is where a contract step is made
abbrev pub judged_at : Unrolled → Deed → Anchor → Code → List PointExit
judged_at u deeds.Row anchor c = map FalseCheck (filter (is_judged anchor) (checks_between u c.asserts))
judged_at u deeds.Arrival anchor c = map FalseCheck (filter (is_judged anchor) (checks_between u c.asserts))
judged_at u (deeds.Contract n) anchor c = []

-- the exits behind those of the assert lines
abbrev pub exits_of : Unrolled → Deed → Code → List Edge → List PointExit
exits_of u deeds.Row c edges = row_exits u c.fetchable c.list edges
exits_of u deeds.Arrival c edges = Always Cutting ∷ []
exits_of u (deeds.Contract n) c edges = contract_exits u (stepped_at u n) edges

-- the point of a code, with its edges
abbrev pub point_by : Unrolled → Point → Code → List Edge → UnrolledPoint
point_by u q c edges = record {
  point = record { anchor = anchor_at u q.root; turns = q.turns; contract = is_contract q.deed; stack = stack_at u.frames.items q.stack; at = c.at };
  length = c.length;
  does = action_of u q.deed c.list (stack_at u.frames.items q.stack);
  draws = c.draws;
  row = c.row;
  loads = c.loads;
  stores = c.stores;
  exits = judged_at u q.deed (anchor_at u q.root) c ++ exits_of u q.deed c edges;
}

-- a point, before others
abbrev pub point_of : Unrolled → Point → List Point → UnrolledPoint
point_of u q rest = point_by u q (code_of u q) (slice_range u.edges.items q.edges (edges_from u rest))

-- the points
abbrev pub points_of : Unrolled → List Point → List UnrolledPoint
points_of u [] = []
points_of u (q ∷ rest) = point_of u q rest ∷ points_of u rest

-- a line, as one that is assumed
abbrev pub assumed_of : Check → NoteLine
assumed_of x = record { line = x.line; says = x.says }

-- a root
abbrev pub root_of : Unrolled → Root → walk.Root
root_of u x = record { place = x.place; assumes = map assumed_of (filter (λ c. c.invariant) (checks_between u x.asserts)) }

-- the unrolled frame
abbrev pub frame_unrolled_of : Unrolled → UnrolledProgram
frame_unrolled_of u = record {
  endian = endian u.big;
  narrow = u.narrow;
  registers = from_to (layout_of u.form).first (length (layout_of u.form).registers);
  flags = length (layout_of u.form).flags;
  link = u.link;
  entry = u.entry;
  requires = (notes_of u.notes.now).requires;
  ensures = (notes_of u.notes.now).ensures;
  own = own_of (own_contract u);
  kept = map kept_of u.kept.now;
  known = map run_of u.known.items;
  literals = u.literals.items;
  roots = map (root_of u) u.roots.items;
  points = points_of u u.points.items;
}

-- an edge leads to no head
abbrev pub is_headless : declared.Aim → Type 0
is_headless (IntoHead at asserts) = ⊥
is_headless aim = Unit {0}

-- The value is that of a program: it has no invariants, and no root but the entry's.
pub record IsHeadless (u : Unrolled) : Type 0 where
  pub invariants : u.invariants.now ≡ []
  pub heads : u.heads ≡ false
  pub own : u.own ≡ None
  pub roots : u.roots.items ≡ no_root ∷ []
  pub deeds : (q : Point) → Contains u.points.items q → q.deed ≡ deeds.Row
  pub edges : (e : Edge) → Contains u.edges.items e → is_headless e.aim

-- The unrolled frame that the value of a program stands for is its unrolled program.
abbrev pub HeadlessValues : Type 0
HeadlessValues = (u : Unrolled) → IsHeadless u → frame_unrolled_of u ≡ as_unrolled (unrolled_of u)
