-- Which assert lines are evaluated, and which edges are exits.
use Rattle.std.specs.Prelude.{ℕ, Bool, true, not, nat_eq, if◌then◌else◌, List, [], ◌∷◌, ◌++◌, map, Option, Some, None, slice_index_or}
use Rattle.std.specs.Global.{Vec}
use Rattle.std.specs.List.{flat_map, list_any}
use Rattle.bilv_spec.specs.Notes as notes
use Rattle.frame_spec.specs.Frames as frames
use Rattle.frame_spec.specs.FramePoints.{Anchor, AtEntry, AtHead, says_of}
use Rattle.frame_spec.specs.FrameWalk.{Check}
use Rattle.bil_ast.specs.declared.statements.Stmt.{Stmt}
use Rattle.question_form.specs.Views.{no_assert}
use Rattle.question_form.specs.declared.unrolled.Deed.{Deed}
use Rattle.question_form.specs.declared.unrolled.Deed.TheVariants.{Row, Arrival, Contract}
use Rattle.question_form.specs.declared.unrolled.Unrolled.{Unrolled}
use Rattle.question_form.specs.FrameViews.{anchor_at, checks_between, stepped_at}
use Rattle.frame_price.specs.declared.lines.Chosen.{Chosen}
use Rattle.frame_price.specs.declared.lines.Chosen.TheVariants.{All, Asserts, Invariants}

-- the assert line of a place
abbrev pub check_of : List notes.Assert → (invariants : List ℕ) → ℕ × ℕ → Check
check_of asserts invariants x =
    let a = slice_index_or asserts x.1 no_assert in record { line = a.line; invariant = list_any (nat_eq a.line) invariants; says = a.says }

-- the line is evaluated
abbrev pub is_chosen : Chosen → (invariant : Bool) → Bool
is_chosen All invariant = true
is_chosen Asserts invariant = not invariant
is_chosen Invariants invariant = invariant

-- a line, if it is evaluated
abbrev pub lines_if : Bool → notes.Expr → List notes.Expr
lines_if chosen e = if chosen then e ∷ [] else []

-- the evaluated ones
abbrev pub evaluated_lines : Chosen → List Check → List notes.Expr
evaluated_lines chosen checks = flat_map (λ x. lines_if (is_chosen chosen x.invariant) x.says) checks

-- Where the edges of a point begin that are exits of it, by where its edges begin and where they end: an arrival has none, nor has a point without a row where no
-- contract step is made.
abbrev pub exits_begin : Deed → Option (Vec Stmt) → (first end : ℕ) → ℕ
exits_begin Row None first end = end
exits_begin Row (Some list) first end = first
exits_begin Arrival list first end = end
exits_begin (Contract n) list first end = first

-- the assert lines that are judged at a point of an anchor
abbrev pub chosen_by : Anchor → Chosen
chosen_by AtEntry = All
chosen_by (AtHead stack at) = Asserts

-- the lines that say which bytes a frame's own contract may write
abbrev pub own_lines : Option frames.Contract → List notes.Expr
own_lines None = []
own_lines (Some x) = map (λ w. w.says) x.writes

-- the lines that a point evaluates before those of its edges: those of the assert lines of its address, or what its contract needs
abbrev pub first_lines : Unrolled → Deed → (root : ℕ) → (asserts : ℕ × ℕ) → List notes.Expr
first_lines u Row root asserts = evaluated_lines (chosen_by (anchor_at u root)) (checks_between u asserts)
first_lines u Arrival root asserts = evaluated_lines (chosen_by (anchor_at u root)) (checks_between u asserts)
first_lines u (Contract n) root asserts = says_of (stepped_at u n).needs

-- the lines that a point evaluates behind those of its edges: those of its contract's step
abbrev pub last_lines : Unrolled → Deed → List notes.Expr
last_lines u Row = []
last_lines u Arrival = []
last_lines u (Contract n) = says_of (stepped_at u n).gives ++ map (λ w. w.says) (stepped_at u n).writes
