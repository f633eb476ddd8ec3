-- The exits of a row, and what stands at a place.
use Rattle.std.specs.Prelude.{ℕ, suc, ◌≡◌, ◌≤◌, ◌<◌, ◌+◌, ◌*◌, ◌^◌, ◌||◌, Bool, false, List, [], ◌∷◌, ◌++◌, map, drop, not, sum_by, slice_index_or, slice_range}
use Rattle.std.specs.List.{list_any}
use Rattle.bilv_spec.specs.Notes.{Expr}
use Rattle.bilv_spec.specs.Points.{line_price, bytes_loaded}
use Rattle.word_spec.specs.State.{State}
use Rattle.term_spec.specs.Terms.{TermReading, InRange, TermNode, HasWidth, term_word}
use Rattle.walk_spec.specs.Unrolled as tables
use Rattle.walk_spec.specs.Unrolled.{is_in, state_at}
use Rattle.walk_spec.specs.Sweep.{Held}
use Rattle.term_spec.specs.Passive.{Denotes, Tells}
use Rattle.walk_spec.specs.Prices.{line_steps}
use Rattle.frame_spec.specs.Frames.{Content, content_at}
use Rattle.frame_spec.specs.FramePoints.{is_entry}
use Rattle.frame_spec.specs.FrameUnrolling.{outside_exit}
use Rattle.frame_spec.specs.FrameWalk.{Check, UnrolledProgram, UnrolledPoint, Raising, WritingKept, Unaligned, next_state, left_by, stored_by, gives_of, is_outside, is_raised, is_unaligned}
use Rattle.frame_terms.specs.PassiveFrames.{IsNamedBelow, gift_part}
use Rattle.question_form.specs.declared.unrolled.Code.{Code}
use Rattle.question_form.specs.declared.unrolled.Deed.{Deed}
use Rattle.question_form.specs.declared.unrolled.Deed.TheVariants.{Row, Arrival, Contract}
use Rattle.question_form.specs.declared.unrolled.Edge.{Edge}
use Rattle.question_form.specs.declared.unrolled.Point.{Point}
use Rattle.question_form.specs.declared.unrolled.Unrolled.{Unrolled}
use Rattle.question_form.specs.Views.{code_of, edges_from}
use Rattle.question_form.specs.Views as tables_by
use Rattle.question_form.specs.FrameViews.{anchor_at, edge_of, exits_of, own_contract, point_by, frame_unrolled_of}
use Rattle.term_names.specs.declared.names.Names.{Names}
use Rattle.term_names.specs.Views.{form_of, names_of}
use Rattle.term_names.specs.Chosen.{at_entry}
use Rattle.note_terms.specs.declared.Now.{Now}
use Rattle.passify.specs.declared.sweep.Sweep.{Sweep}
use Rattle.passify.specs.Plain.{carried}
use Rattle.passify.specs.Sweeps.{Steps}
use Rattle.passify.specs.Exits.{IsPending}
use Rattle.passify.specs.Situations.{Situation, checks_of, goes, said}
use Rattle.passify.specs.Edges.{AreLater, GoesHere, IsLeftBy, aim_gates, aim_loads, aim_joins, aim_nodes}
use Rattle.passify.specs.Handled.{point_gates, point_loaded, point_joins, point_nodes}

-- the situation at a point, by what is carried to it, and by what is given there, which only a contract step reads
abbrev pub situation_at : UnrolledProgram → UnrolledPoint → (entry : State) → (choice : ℕ) → (given c : Content) → Situation
situation_at u q entry choice g c = record {
  program = u;
  entry = entry;
  now = content_at c q.point.at;
  next = next_state (left_by u q choice g c q.does) c;
  stored = stored_by u q choice c q.does;
  leaving = left_by u q choice g c q.does;
  gives = gives_of q.does;
}

-- no point
abbrev pub no_point : Point
no_point = record { root = 0; turns = 0; code = 0; stack = 0; deed = Row; edges = 0 }

-- the point of a place
abbrev pub own_point : Unrolled → ℕ → Point
own_point u i = slice_index_or u.points.items i no_point

-- its code
abbrev pub own_code : Unrolled → ℕ → Code
own_code u i = code_of u (own_point u i)

-- its edges
abbrev pub own_edges : Unrolled → ℕ → List Edge
own_edges u i = slice_range u.edges.items (own_point u i).edges (edges_from u (drop (i + 1) u.points.items))

-- the entries of assert lines that are judged at a point; none is where a contract step is made
abbrev pub index_for : Deed → List (ℕ × ℕ) → List (ℕ × ℕ)
index_for Row index = index
index_for Arrival index = index
index_for (Contract n) index = []

-- its assert lines, by address and place
abbrev pub own_index : Unrolled → ℕ → List (ℕ × ℕ)
own_index u i = index_for (own_point u i).deed (slice_range u.asserts.items (own_code u i).asserts.0 (own_code u i).asserts.1)

-- the point by all of these, of a program
abbrev pub placed : Unrolled → ℕ → tables.UnrolledPoint
placed u i = tables_by.point_by u (own_point u i) (own_code u i) (own_edges u i)

-- and of a frame
abbrev pub framed : Unrolled → ℕ → UnrolledPoint
framed u i = point_by u (own_point u i) (own_code u i) (own_edges u i)

-- its segment begins at a head
abbrev pub is_of_head : Unrolled → ℕ → Bool
is_of_head u i = not (is_entry (anchor_at u (own_point u i).root))

-- its assert lines; where its segment begins at a head no invariant is judged
abbrev pub own_checks : Unrolled → ℕ → List Check
own_checks u i = checks_of u (is_of_head u i) (own_index u i)

-- what they say
abbrev pub own_lines : Unrolled → ℕ → List Expr
own_lines u i = said (own_checks u i)

-- some byte that is stored is kept, or is none that the frame's own contract may write
abbrev pub is_refused : Situation → Bool
is_refused S = list_any (is_in S.program.kept) S.stored || is_outside S.program.own S.program.endian S.entry S.stored

-- Bits tell whether a point raises an exception, stores a byte that it may not and goes on to where no row can stand, and terms are what it goes on to.
pub record LeavesHere (nodes : List TermNode) (s : Sweep) (big : Bool) (raise write off : ℕ) (next : Now) (jumped link : ℕ) (x : TermReading)
    (S : Situation) : Type 0 where
  pub raised : Tells nodes x raise (is_raised S.leaving)
  pub wrote : Tells nodes x write (is_refused S)
  pub odd : is_raised S.leaving ≡ false → Tells nodes x off (is_unaligned S.program.narrow S.leaving)
  pub goes_on : is_raised S.leaving ≡ false → GoesHere nodes s big next jumped link x S

-- The exits of a row are tried, three to events and some edges.
pub record IsLeaving (u : Unrolled) (old new : List TermNode) (s z : Sweep) (rest left : ℕ) (raise write off : ℕ) (next : Now) (jumped link : ℕ)
    (edges : List Edge) : Type 0 where
  pub steps : Steps old new s z (9 + sum_by (λ e. 35 + aim_gates u next.names.now e.aim) edges) (sum_by (λ e. aim_loads u e.aim) edges) 0 (sum_by
      (λ e. aim_joins e.aim) edges)
      (24 + sum_by (λ e. 14 + aim_nodes u next.names.now e.aim) edges) (λ m. ⊥)
  pub bit : HasWidth new 1 left
  pub tries : (x : TermReading) → InRange x → (from : ℕ) → AreLater from edges → (S : Situation) → IsLeftBy u S.program →
      (term_word x old rest ≡ 1 → LeavesHere old s u.big raise write off next jumped link x S) → (before after : Held) →
      IsPending old s from x rest before after (goes S (Raising ∷ WritingKept ∷ (outside_exit (own_contract u) ++ Unaligned ∷ map (edge_of u) edges)) before) →
      IsPending new z from x left before after (goes S [] before)

-- what is given at a place, for a state of which the memory above what machines see stays
pub record IsGivenAt (x : TermReading) (place : ℕ) (given c : Content) : Type 0 where
  pub regs : given.regs ≡ x.regs (gift_part place)
  pub flags : given.flags ≡ x.flags (gift_part place)
  pub low : (a : ℕ) → a < 2 ^ 32 → given.mem a ≡ x.mem (gift_part place) a
  pub high : (a : ℕ) → 2 ^ 32 ≤ a → given.mem a ≡ c.mem a

-- What stands at a place behind its assert lines is tried, from what terms denote, and no exit is left but that of a jump to no edge. Beside it there is room
-- for the assert lines, and for the address and the end.
pub record IsRowTried (u : Unrolled) (place : ℕ) (n : Names) (old new : List TermNode) (s z : Sweep) (rest left : ℕ) : Type 0 where
  pub gates : ℕ
  pub loads : ℕ
  pub stores : ℕ
  pub joins : ℕ
  pub nodes : ℕ
  pub steps : Steps old new s z gates loads stores joins nodes (IsNamedBelow (frame_unrolled_of u) u.heads 0)
  pub few_gates : gates + sum_by line_price (own_lines u place) + 1 ≤ point_gates (frame_unrolled_of u) (framed u place)
  pub few_loads : loads + sum_by bytes_loaded (own_lines u place) ≤ point_loaded (frame_unrolled_of u) (framed u place)
  pub few_stores : stores ≤ (framed u place).stores
  pub few_joins : joins ≤ point_joins (framed u place)
  pub few_nodes : nodes + 4 * line_steps (own_lines u place) + 3 ≤ point_nodes (frame_unrolled_of u) (framed u place)
  pub bit : HasWidth new 1 left
  pub tries : (x : TermReading) → InRange x → (entry : State) → entry ≡ state_at (at_entry x) s.at → (given c : Content) → IsGivenAt x place given c →
      (term_word x old rest ≡ 1 → Denotes (form_of n) old x (names_of n) (carried c)) → (before after : Held) →
      IsPending old s (suc place) x rest before after
      (goes (situation_at (frame_unrolled_of u) (framed u place) entry (x.choice place) given c)
      (exits_of u (own_point u place).deed (own_code u place) (own_edges u place)) before) →
      IsPending new z (suc place) x left before after
      (goes (situation_at (frame_unrolled_of u) (framed u place) entry (x.choice place) given c) [] before)
