-- The unrolled program of the definitions that a value stands for.
use Rattle.std.specs.Prelude.{ℕ, Bool, false, List, [], ◌∷◌, ◌++◌, Option, Some, None, length, map, slice_index_or, slice_range}
use Rattle.word_spec.specs.Memory.{endian}
use Rattle.bilv_spec.specs.Notes as notes
use Rattle.machine_spec.specs.Bil.{Empty}
use Rattle.word_spec.specs.RowFiles.{from_to}
use Rattle.walk_spec.specs.Unrolled as walk
use Rattle.walk_spec.specs.Unrolled.{Aim as WalkAim, PointExit, FalseAssert, Always, Raising, WritingKept, Unaligned, Along, Action, Executes, UnrolledPoint, UnrolledProgram, AddressRun}
use Rattle.walk_spec.specs.Unrolling.{stop_event}
pub use Rattle.call_form.specs.Views.{kind_of}
use Rattle.bil_ast.specs.declared.statements.Stmt.{Stmt}
use Rattle.bil_ast.specs.Views.{statements}
use Rattle.start_value.specs.Starts.{layout_of}
use Rattle.notes_value.specs.NoteViews.{notes_of}
use Rattle.known_bytes.specs.Runs.{run_of}
use Rattle.program_points.specs.Tables.{stack_at}
use Rattle.std.specs.Global.{Vec}
use Rattle.question_form.specs.declared.unrolled.Aim.{Aim}
use Rattle.question_form.specs.declared.unrolled.Aim.TheVariants.{OnTo, IntoHead, Outward, OverLast}
use Rattle.question_form.specs.declared.unrolled.Edge.{Edge}
use Rattle.question_form.specs.declared.unrolled.Code.{Code}
use Rattle.question_form.specs.declared.unrolled.Point.{Point}
use Rattle.question_form.specs.declared.unrolled.Unrolled.{Unrolled}

-- where an edge leads; a program has no heads
abbrev pub aim_of : Aim → WalkAim
aim_of (OnTo i) = walk.OnTo i
aim_of (IntoHead at asserts) = walk.OverLast
aim_of Outward = walk.Outward
aim_of OverLast = walk.OverLast

-- an edge
abbrev pub edge_of : Edge → PointExit
edge_of e = Along e.falls e.jumps e.to (aim_of e.aim)

-- a run of kept addresses
abbrev pub kept_of : ℕ × ℕ → AddressRun
kept_of r = record { low = r.0; high = r.1 }

-- no assert line
abbrev pub no_assert : notes.Assert
no_assert = record { line = 0; at = 0; says = notes.Number 0 }

-- the exit by an assert line of a list
abbrev pub assert_exit : List notes.Assert → ℕ × ℕ → PointExit
assert_exit asserts x = let a = slice_index_or asserts x.1 no_assert in FalseAssert a.line a.says

-- the exits by the assert lines of an address: those between two places of the lines by address
abbrev pub asserts_between : List notes.Assert → List (ℕ × ℕ) → ℕ × ℕ → List PointExit
asserts_between asserts index bounds = map (assert_exit asserts) (slice_range index bounds.0 bounds.1)

-- what is done at an address
abbrev pub action_of : Option (Vec Stmt) → Action
action_of None = Executes Empty
action_of (Some list) = Executes (statements list.items)

-- the exits behind those of the assert lines: an event where there is no row, and else those of the row, its edges last
abbrev pub row_exits : (fetchable : Bool) → Option (Vec Stmt) → List Edge → List PointExit
row_exits fetchable None edges = Always (stop_event fetchable) ∷ []
row_exits fetchable (Some list) edges = Raising ∷ WritingKept ∷ Unaligned ∷ map edge_of edges

-- the point of a code, with its edges
abbrev pub point_by : Unrolled → Point → Code → List Edge → UnrolledPoint
point_by u q c edges = record {
  point = record { turns = q.turns; stack = stack_at u.frames.items q.stack; at = c.at };
  length = c.length;
  does = action_of c.list;
  draws = c.draws;
  row = c.row;
  loads = c.loads;
  stores = c.stores;
  exits = asserts_between (notes_of u.notes.now).asserts u.asserts.items c.asserts ++ row_exits c.fetchable c.list edges;
}

-- no code
abbrev pub no_code : Code
no_code = record { at = 0; length = 0; fetchable = false; list = None; draws = false; row = 0; loads = 0; stores = 0; asserts = (0, 0) }

-- the code of a point
abbrev pub code_of : Unrolled → Point → Code
code_of u q = slice_index_or u.codes.items q.code no_code

-- where the edges of the next point begin
abbrev pub edges_from : Unrolled → List Point → ℕ
edges_from u [] = length u.edges.items
edges_from u (q ∷ rest) = q.edges

-- a point, before others
abbrev pub point_of : Unrolled → Point → List Point → UnrolledPoint
point_of u q rest = point_by u q (code_of u q) (slice_range u.edges.items q.edges (edges_from u rest))

-- the points
abbrev pub points_of : Unrolled → List Point → List UnrolledPoint
points_of u [] = []
points_of u (q ∷ rest) = point_of u q rest ∷ points_of u rest

-- the unrolled program
abbrev pub unrolled_of : Unrolled → UnrolledProgram
unrolled_of u = record {
  endian = endian u.big;
  narrow = u.narrow;
  registers = from_to (layout_of u.form).first (length (layout_of u.form).registers);
  flags = length (layout_of u.form).flags;
  link = u.link;
  entry = u.entry;
  requires = (notes_of u.notes.now).requires;
  ensures = (notes_of u.notes.now).ensures;
  kept = map kept_of u.kept.now;
  known = map run_of u.known.items;
  literals = u.literals.items;
  points = points_of u u.points.items;
}
