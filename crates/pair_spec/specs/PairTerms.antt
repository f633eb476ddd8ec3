-- Between the points of two programs and the clauses of a question about both: where a walk leaves the function, a side as terms, its cells, and clauses.
use Rattle.std.specs.Prelude.{None, ◌++◌, ℕ, ◌≡◌, ◌≤◌, ◌<◌, ◌+◌, ◌-◌, ◌*◌, Bool, true, false, ◌==◌, ◌↔◌, if◌then◌else◌, List, [], ◌∷◌, length, map, filter}
use Rattle.std.specs.List.{list_any, flat_map}
use Rattle.word_spec.specs.Memory.{Memory, Little}
use Rattle.word_spec.specs.State.{State}
use Rattle.bilv_spec.specs.Notes.{Expr, Flag, value}
use Rattle.clause_spec.specs.Clauses.{Cnf, ExtendsOnceWhere}
use Rattle.bilv_spec.specs.Questions.{Reading, IsReading}
use Rattle.term_spec.specs.Terms.{TermReading, with_mem, InRange, TermNode, HasWidth, term_word, term_gates}
use Rattle.machine_spec.specs.Bil.{Empty}
use Rattle.bilv_spec.specs.Run.{false_line}
use Rattle.walk_spec.specs.Unrolled.{Carried, UnrolledProgram, UnrolledPoint, PointExit, FalseAssert, Always, Raising, WritingKept, Unaligned, Along, Aim, OnTo, Outward, OverLast, ToEvent, Executes, WalkIsAt, walk, point_at, Leaving, leaving, stored_at, is_in, first_aim, carried_on, next_address, state_at, goes_out, ExitsLeadLater}
use Rattle.walk_spec.specs.Sweep.{held}
use Rattle.term_spec.specs.Passive.{Names, AreNames, Denotes, Tells, UnderAll}
use Rattle.term_spec.specs.WalkQuestions.{MeetsLines, HasAsked, Room, AreTermsWithin, term_reading}
use Rattle.walk_spec.specs.Prices.{term_price, loads_of, stores_of, edges_of, known_of, node_bound, variables_of}
use Rattle.term_spec.specs.Cells.{Cells, AreFormed, Gives, IsAllowed, cell_gates}
use Rattle.term_spec.specs.ClauseForm.{inputs, reading}
use Rattle.pair_spec.specs.Links.{Link, EqualAtEntry, EqualAtExit, SharedBytes, SameBytes, addresses, named_by}
use Rattle.call_spec.specs.Calls.{PairQuestion, PairOfStates, DifferenceOfExits}
use Rattle.pair_spec.specs.Pairs.{shared_bytes, same_bytes}
use Rattle.pair_spec.specs.PairEvidence.{behind}

-- ---- the exit as a place

-- the walk comes out after a point: its exit leads out of the function, whether the ensure lines are true there or not
pub record WalkComesOut (u : UnrolledProgram) (r : Reading) (out : Carried) (pc : ℕ) : Type 0 where
  pub points : ℕ
  pub place : ℕ
  pub carried : Carried
  pub is_at : walk u r points ≡ WalkIsAt place carried
  pub leaving_is : Leaving
  pub left_so : leaving_is ≡ leaving (point_at u place) (r.choice (point_at u place).point) carried
  pub aim : first_aim u r.state (state_at carried (point_at u place).point.at)
      (list_any (is_in u.kept) (stored_at (point_at u place) (r.choice (point_at u place).point) carried)) leaving_is (point_at u place).exits ≡ Outward
  pub out_is : out ≡ carried_on leaving_is carried
  pub pc_is : pc ≡ next_address leaving_is

-- it leaves the function: the ensure lines are true where it comes out
pub record WalkLeaves (u : UnrolledProgram) (r : Reading) (out : Carried) (pc : ℕ) : Type 0 where
  pub comes_out : WalkComesOut u r out pc
  pub ensured : false_line u.endian u.ensures (state_at out pc) r.state ≡ None

-- what leads out leads to a place
abbrev pub aimed : ℕ → Aim → Aim
aimed n Outward = OnTo n
aimed n (OnTo i) = OnTo i
aimed n OverLast = OverLast
aimed n (ToEvent e) = ToEvent e

abbrev pub exit_aimed : ℕ → PointExit → PointExit
exit_aimed n (Along falls jumps to aim) = Along falls jumps to (aimed n aim)
exit_aimed n (FalseAssert line e) = FalseAssert line e
exit_aimed n (Always e) = Always e
exit_aimed n Raising = Raising
exit_aimed n WritingKept = WritingKept
exit_aimed n Unaligned = Unaligned

-- The place of the exit, at which nothing is done: that of a row without statements and edges. Its point counts more backward transfers than a budget allows, so
-- that it is none of a program's points.
abbrev pub exit_place : UnrolledPoint
exit_place = record {
  point = record { turns = 4097; stack = []; at = 0 };
  length = 4;
  does = Executes Empty;
  draws = false;
  row = 64;
  loads = 0;
  stores = 0;
  exits = Raising ∷ WritingKept ∷ Unaligned ∷ [];
}

-- a point whose exits are aimed so
abbrev pub point_aimed : ℕ → UnrolledPoint → UnrolledPoint
point_aimed n q = record q { exits = map (exit_aimed n) q.exits }

-- the same program, in which the exit is one more place, after all others
abbrev pub with_exit_place : UnrolledProgram → UnrolledProgram
with_exit_place u = record u { points = map (point_aimed (length u.points)) u.points ++ exit_place ∷ [] }

-- the law that ties both: a walk comes out where the other one comes to the last place, with the same carried on
abbrev pub ExitIsPlace : Type 0
ExitIsPlace = (u : UnrolledProgram) → 0 < length u.points → ExitsLeadLater u → (r : Reading) (out : Carried) →
    ((pc : ℕ) × WalkComesOut u r out pc) ↔ ((n : ℕ) × (walk (with_exit_place u) r n ≡ WalkIsAt (length u.points) out))

-- A passive program of that form, of whose places the last is not handled: whether it is met, and terms for what is carried to it.
pub record TellsExit (u : UnrolledProgram) (nodes : List TermNode) (met : ℕ) (names : Names) : Type 0 where
  pub bit_of : HasWidth nodes 1 met
  pub form : AreNames u nodes names
  pub tells : UnderAll u (λ r. Tells nodes (term_reading u r) met ((held (with_exit_place u) r (length u.points)).met (length u.points)))
  pub denotes : UnderAll u (λ r. (held (with_exit_place u) r (length u.points)).met (length u.points) ≡ true →
      Denotes u nodes (term_reading u r) names ((held (with_exit_place u) r (length u.points)).carried (length u.points)))

-- ---- a side as terms: its bit, and the words that are compared with the other side's, in the order of the links

-- the words of a link at entry, and at the exit, as functions of a state
abbrev pub entry_words : (second : Bool) → Link → List (State → ℕ)
entry_words side (EqualAtEntry n x y) = (λ s. value Little (named_by side x y) s s) ∷ []
entry_words side (SharedBytes n low high) = map (λ a s. s.mem a) (addresses low high)
entry_words side (EqualAtExit n x y) = []
entry_words side (SameBytes n low high) = []

abbrev pub exit_words : (second : Bool) → Link → List (State → ℕ)
exit_words side (EqualAtExit n x y) = (λ s. value Little (named_by side x y) s s) ∷ []
exit_words side (SameBytes n low high) = map (λ a s. s.mem a) (addresses low high)
exit_words side (EqualAtEntry n x y) = []
exit_words side (SharedBytes n low high) = []

abbrev pub all_entry_words : (second : Bool) → List Link → List (State → ℕ)
all_entry_words side links = flat_map (entry_words side) links

abbrev pub all_exit_words : (second : Bool) → List Link → List (State → ℕ)
all_exit_words side links = flat_map (exit_words side) links

-- nodes, the place of the bit, and the places of the words
pub record SideTerm : Type 0 where
  pub nodes : List TermNode
  pub root : ℕ
  pub entries : List ℕ
  pub exits : List ℕ

-- under a reading the places have these words
abbrev pub HaveWords : TermReading → List TermNode → List ℕ → List ℕ → Type 0
HaveWords x nodes places words = map (term_word x nodes) places ≡ words

-- how many bits the words of a link have
abbrev pub bits_of : Expr → ℕ
bits_of (Flag f) = 1
bits_of other = 32

abbrev pub entry_widths : Link → List ℕ
entry_widths (EqualAtEntry n x y) = bits_of x ∷ []
entry_widths (SharedBytes n low high) = map (λ a. 8) (addresses low high)
entry_widths (EqualAtExit n x y) = []
entry_widths (SameBytes n low high) = []

abbrev pub exit_widths : Link → List ℕ
exit_widths (EqualAtExit n x y) = bits_of x ∷ []
exit_widths (SameBytes n low high) = map (λ a. 8) (addresses low high)
exit_widths (EqualAtEntry n x y) = []
exit_widths (SharedBytes n low high) = []

abbrev pub HaveWidths : List TermNode → List ℕ → List ℕ → Type 0
HaveWidths nodes [] [] = Unit {0}
HaveWidths nodes (i ∷ is) (n ∷ ns) = HasWidth nodes n i × HaveWidths nodes is ns
HaveWidths nodes is ns = ⊥

-- the points that may exit
abbrev pub exits_of : UnrolledProgram → ℕ
exits_of u = length (filter (λ q. list_any goes_out q.exits) u.points)

-- the byte loads of the links
abbrev pub added_loads : List Link → UnrolledProgram → ℕ
added_loads links u = shared_bytes links + same_bytes links * exits_of u

-- The room of a side: that of a question, with the loads of the links, and nodes: 4 for each variable, which the exit and the links name once more, and 128 for
-- the exit's place; 4 for each line, each byte of a range, and each byte that is to be the same at each point that may exit, four times.
abbrev pub side_room : List Link → UnrolledProgram → Room
side_room links u = record {
  gates = term_price u - 1;
  loads = loads_of u + added_loads links u;
  nodes =
      node_bound u
      + 4 * (variables_of u + 32 + 4 * (length links + shared_bytes links + same_bytes links) + 4 * (same_bytes links * exits_of u));
}

-- what the bit says, but for the bytes of the file
abbrev pub SideEnds : UnrolledProgram → Reading → PairQuestion → Type 0
SideEnds u r PairOfStates = Unit {0}
SideEnds u r DifferenceOfExits = (out : Carried) × (pc : ℕ) × WalkLeaves u r out pc

-- The terms of a side. The exit's words count only where the required lines are true and the walk leaves.
pub record TellsSide (u : UnrolledProgram) (second : Bool) (links : List Link) (question : PairQuestion) (t : SideTerm) : Type 0 where
  pub terms : AreTermsWithin u (side_room links u) t.nodes
  pub root : HasWidth t.nodes 1 t.root
  pub means : (r : Reading) → IsReading r → r.state.pc ≡ u.entry →
      (term_word (term_reading u r) t.nodes t.root ≡ 1) ↔ (MeetsLines u r.state × SideEnds u r question)
  pub entry_widths : HaveWidths t.nodes t.entries (flat_map entry_widths links)
  pub exit_widths : question ≡ DifferenceOfExits → HaveWidths t.nodes t.exits (flat_map exit_widths links)
  pub entry_values : (r : Reading) → IsReading r → r.state.pc ≡ u.entry →
      HaveWords (term_reading u r) t.nodes t.entries (map (λ f. f r.state) (all_entry_words second links))
  pub exit_values : question ≡ DifferenceOfExits → (r : Reading) (out : Carried) (pc : ℕ) → IsReading r → r.state.pc ≡ u.entry → MeetsLines u r.state → WalkLeaves u r out pc →
      HaveWords (term_reading u r) t.nodes t.exits (map (λ f. f (state_at out pc)) (all_exit_words second links))

-- ---- cells of a side: those of a question, whose words have places too

pub record SideCells : Type 0 where
  pub cells : Cells
  pub entries : List ℕ
  pub exits : List ℕ

-- The cells tell the side over the known bytes that are asked, as TellsCells says of a question, and have the words too.
pub record TellsSideCells (u : UnrolledProgram) (links : List Link) (question : PairQuestion) (t : SideTerm) (asked : ℕ → Bool) (c : SideCells) : Type 0 where
  pub formed : AreFormed u c.cells
  pub same : (x : TermReading) → InRange x → Gives c.cells x → term_word x c.cells.nodes c.cells.root ≡ term_word x t.nodes t.root
  pub entry_widths : HaveWidths c.cells.nodes c.entries (flat_map entry_widths links)
  pub exit_widths : question ≡ DifferenceOfExits → HaveWidths c.cells.nodes c.exits (flat_map exit_widths links)
  pub entries : (x : TermReading) → InRange x → Gives c.cells x → HaveWords x c.cells.nodes c.entries (map (term_word x t.nodes) t.entries)
  pub exits : (x : TermReading) → InRange x → Gives c.cells x → HaveWords x c.cells.nodes c.exits (map (term_word x t.nodes) t.exits)
  pub sound : (x : TermReading) → InRange x → Gives c.cells x → HasAsked u asked (x.mem 0) → IsAllowed c.cells x
  pub complete : (x : TermReading) → InRange x → IsAllowed c.cells x →
      (m : Memory) × ((a : ℕ) → m a < 256) × HasAsked u asked m × Gives c.cells (with_mem x m)
  pub gates : term_gates c.cells.nodes ≤
      term_gates t.nodes + cell_gates (loads_of u + added_loads links u) (stores_of u) (edges_of u) (known_of u)
  pub reads : length c.cells.addresses ≤ loads_of u + added_loads links u

-- ---- clauses over both: the inputs of the first side stand before those of the second

abbrev pub first_reading : UnrolledProgram → SideCells → (ℕ → Bool) → TermReading
first_reading u c v = reading u c.cells v

abbrev pub second_reading : (first : UnrolledProgram) → (before : SideCells) → UnrolledProgram → SideCells → (ℕ → Bool) → TermReading
second_reading w b u c v = reading u c.cells (behind (inputs w b.cells) v)

-- the words of both sides are the same, place by place
abbrev pub same_words : List ℕ → List ℕ → Bool
same_words [] [] = true
same_words (a ∷ xs) (b ∷ ys) = if a == b then same_words xs ys else false
same_words xs ys = false

abbrev pub words_at : TermReading → SideCells → List ℕ → List ℕ
words_at x c places = map (term_word x c.cells.nodes) places

-- what the question asks of the words at the exits
abbrev pub ExitsAs : PairQuestion → (first second : List ℕ) → Type 0
ExitsAs PairOfStates xs ys = Unit {0}
ExitsAs DifferenceOfExits xs ys = same_words xs ys ≡ false

-- under two readings all is as the question asks
pub record MakesPairTrue (question : PairQuestion) (c d : SideCells) (x y : TermReading) : Type 0 where
  pub first_allowed : IsAllowed c.cells x
  pub second_allowed : IsAllowed d.cells y
  pub first_root : term_word x c.cells.nodes c.cells.root ≡ 1
  pub second_root : term_word y d.cells.nodes d.cells.root ≡ 1
  pub linked : same_words (words_at x c c.entries) (words_at y d d.entries) ≡ true
  pub ends : ExitsAs question (words_at x c c.exits) (words_at y d d.exits)

-- Clauses tell the cells of both sides.
pub record TellsPair (u w : UnrolledProgram) (links : List Link) (question : PairQuestion) (c d : SideCells) (cnf : Cnf) : Type 0 where
  pub extends : ExtendsOnceWhere (inputs u c.cells + inputs w d.cells) cnf
      (λ v. MakesPairTrue question c d (first_reading u c v) (second_reading u c w d v))
  pub all : inputs u c.cells + inputs w d.cells ≤ cnf.variables
  pub few : cnf.variables ≤ inputs u c.cells + inputs w d.cells + 1 + term_gates c.cells.nodes + term_gates d.cells.nodes
      + (512 * length links + 512 * (shared_bytes links + same_bytes links))
