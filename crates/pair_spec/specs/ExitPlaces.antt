-- What a program shares with the one in which its exit is a place: what is said of that one is carried to the program itself.
use Rattle.std.specs.Prelude.{ℕ, ◌≡◌, ◌<◌, ◌+◌, ◌*◌, ◌↔◌, Bool, false, ◌==◌, ◌&&◌, nat_lt, List, length, map, filter, sum_by}
use Rattle.std.specs.Str.{bytes_eq}
use Rattle.word_spec.specs.State.{Written}
use Rattle.clause_spec.specs.Clauses.{Cnf}
use Rattle.bilv_spec.specs.Notes.{Expr}
use Rattle.bilv_spec.specs.Run.{Program}
use Rattle.bilv_spec.specs.Points.{Point, bytes_loaded, line_price}
use Rattle.bilv_spec.specs.Questions.{Reading}
use Rattle.term_spec.specs.Terms.{TermNode, TermReading, term_value}
use Rattle.walk_spec.specs.Unrolled.{UnrolledProgram, ExitsLeadLater, point_at}
use Rattle.walk_spec.specs.Unrolling.{IsUnrolling, IsWalkable}
use Rattle.term_spec.specs.WalkQuestions.{AreNamedBelow, term_reading}
use Rattle.walk_spec.specs.Prices.{edges_of, known_of, line_steps, loads_of, point_bound, point_lines, point_loads, point_price, stores_of}
use Rattle.term_spec.specs.Cells.{Cells, AreFormed}
use Rattle.term_spec.specs.ClauseForm.{IsBroken, IsStartOf, drawn_below, first_byte, inputs, reading}
use Rattle.call_spec.specs.Calls.{PairQuestion}
use Rattle.pair_spec.specs.Links.{Link}
use Rattle.pair_spec.specs.PairTerms.{SideCells, TellsPair, exit_place, exits_of, with_exit_place}

-- the form with the exit as a place can be made terms where the program can
abbrev pub ExitPlaceWalks : Type 0
ExitPlaceWalks = (u : UnrolledProgram) → IsWalkable u → IsWalkable (with_exit_place u)

-- the lines that are evaluated where a walk leaves
abbrev pub exit_lines : UnrolledProgram → List Expr
exit_lines u = map (λ l. l.says) u.ensures

-- What it costs: the same stores, edges and known bytes. The program evaluates the ensure lines at each point that may exit, and the form does nowhere; so of
-- what is counted of lines, as their loads, the form has less.
abbrev pub ExitPlaceCosts : Type 0
ExitPlaceCosts = (u : UnrolledProgram) →
    (stores_of (with_exit_place u) ≡ stores_of u) × (edges_of (with_exit_place u) ≡ edges_of u) × (known_of (with_exit_place u) ≡ known_of u)
    × (loads_of u ≡ loads_of (with_exit_place u) + exits_of u * sum_by bytes_loaded (exit_lines u))
    × ((count : Expr → ℕ) → sum_by count (point_lines u) ≡ sum_by count (point_lines (with_exit_place u)) + exits_of u * sum_by count (exit_lines u))

-- The room of its points: they have the ensure lines less, and the last place more.
abbrev pub ExitPlaceRooms : Type 0
ExitPlaceRooms = (u : UnrolledProgram) →
    (point_price (with_exit_place u) + exits_of u * sum_by line_price (exit_lines u) ≡ point_price u + 64)
    × (point_loads (with_exit_place u) + exits_of u * sum_by bytes_loaded (exit_lines u) ≡ point_loads u)
    × (point_bound (with_exit_place u) + 4 * (exits_of u * line_steps (exit_lines u)) ≡ point_bound u + 64)

-- It has the same inputs, since its last place draws nothing: valuations are read alike, nodes name the same, and cells have the same form.
abbrev pub ExitPlaceReads : Type 0
ExitPlaceReads = (u : UnrolledProgram) →
    ((i : ℕ) → drawn_below (with_exit_place u) i ≡ drawn_below u i)
    × (first_byte (with_exit_place u) ≡ first_byte u)
    × ((c : Cells) → inputs (with_exit_place u) c ≡ inputs u c)
    × ((c : Cells) (v : ℕ → Bool) → reading (with_exit_place u) c v ≡ reading u c v)
    × ((reads : ℕ) (nodes : List TermNode) → AreNamedBelow (with_exit_place u) reads nodes ↔ AreNamedBelow u reads nodes)
    × ((c : Cells) → AreFormed (with_exit_place u) c ↔ AreFormed u c)
    × ((c : Cells) (x : TermReading) (at : ℕ) → IsBroken (with_exit_place u) c x at ↔ IsBroken u c x at)

-- terms have the same values under a reading of either
abbrev pub ExitPlaceTerms : Type 0
ExitPlaceTerms = (u : UnrolledProgram) (r : Reading) (nodes : List TermNode) → AreNamedBelow u 0 nodes → (i : ℕ) → i < length nodes →
    term_value (term_reading (with_exit_place u) r) nodes i ≡ term_value (term_reading u r) nodes i

-- clauses that tell the cells of both forms tell those of both programs
abbrev pub ExitPlacePairs : Type 0
ExitPlacePairs = (u w : UnrolledProgram) (links : List Link) (question : PairQuestion) (c d : SideCells) (cnf : Cnf) →
    TellsPair (with_exit_place u) (with_exit_place w) links question c d cnf → TellsPair u w links question c d cnf

-- the point is that of the exit's place
abbrev pub is_exit_point : Point → Bool
is_exit_point q = (q.turns == exit_place.point.turns) && (q.at == exit_place.point.at) && bytes_eq q.stack exit_place.point.stack

-- no point of the program is: a reading then has a choice of its own for the exit's place
abbrev pub HasOwnExit : UnrolledProgram → Type 0
HasOwnExit u = (i : ℕ) → i < length u.points → is_exit_point (point_at u i).point ≡ false

-- A program has its own exit where the exit's place counts more backward transfers than its points may have.
abbrev pub ExitIsOwn : Type 0
ExitIsOwn = (p : Program) (k : ℕ) (u : UnrolledProgram) → IsUnrolling p k u → k < exit_place.point.turns → HasOwnExit u

-- a start, written without choices at steps from a number on
abbrev pub before_step : ℕ → Written → Written
before_step n s = record s { choices = filter (λ x. nat_lt x.0 n) s.choices }

-- A start of values for the form is one for the program, but for choices at a step that only the form has. No walk draws there, yet a start may name it.
abbrev pub ExitPlaceStarts : Type 0
ExitPlaceStarts = (u : UnrolledProgram) → 0 < length u.points → ExitsLeadLater u → HasOwnExit u → (c : Cells) (v : ℕ → Bool) (s : Written) →
    IsStartOf (with_exit_place u) c v s → IsStartOf u c v (before_step (length u.points) s)
