-- What is kept while segments are begun at roots.
use Rattle.std.specs.Prelude.{ℕ, ◌≡◌, ◌≤◌, ◌+◌, ◌*◌, ◌==◌, ◌&&◌, Bool, true, false, List, length, map, filter, drop, take, sum_by, Contains, None, if◌then◌else◌}
use Rattle.std.specs.List.{flat_map, list_all, list_any}
use Rattle.bilv_spec.specs.Notes.{Expr, value, is_true}
use Rattle.bilv_spec.specs.Points.{line_price, bytes_loaded}
use Rattle.word_spec.specs.Memory.{endian}
use Rattle.word_spec.specs.State.{State}
use Rattle.term_spec.specs.Terms.{TermReading, InRange, TermNode, AreTyped, HasWidth, term_word, term_gates, term_loads, term_stores, term_joins}
use Rattle.walk_spec.specs.Unrolled.{Carried, state_at}
use Rattle.walk_spec.specs.Prices.{line_steps}
use Rattle.term_spec.specs.Passive.{AreNames, Denotes, Tells}
use Rattle.frame_spec.specs.FramePoints.{says_of}
use Rattle.frame_spec.specs.FrameQuestions.{Reading}
use Rattle.frame_spec.specs.FrameWalk.{Check, Held, Root, UnrolledProgram, is_assumed, point_at, root_content}
use Rattle.frame_laws.specs.FramePrices.{begin_lines, own_lines, own_writes, variables_of}
use Rattle.frame_terms.specs.PassiveFrames.{AreNamedBelow, UnderAll, part_reading}
use Rattle.term_dag.specs.Made.{Grew, InputsFrom}
use Rattle.term_names.specs.declared.names.Names.{Names}
use Rattle.term_names.specs.Views.{form_of, names_of}
use Rattle.term_names.specs.Chosen.{HaveSameForm, IsOfPart, at_part}
use Rattle.note_terms.specs.declared.Now.{Now}
use Rattle.note_terms.specs.Lines.{IsStateOf}
use Rattle.question_form.specs.declared.unrolled.Root as declared
use Rattle.question_form.specs.declared.unrolled.Unrolled.{Unrolled}
use Rattle.question_form.specs.FrameViews.{check_at, frame_unrolled_of}
use Rattle.passify.specs.declared.sweep.Sweep.{Sweep}
use Rattle.passify.specs.Handled.{IsSweepOf}
use Rattle.passify.specs.Rows.{is_of_head}
use Rattle.passify.specs.declared.spans.Span.{Span}
use Rattle.passify.specs.Spans.{AreOwn, IsSpan, addresses_of, own_places}
use Rattle.passify.specs.Sweeps.{AreTermsOf, AreWell}
use Rattle.passify.specs.Swept.{ShowsAll}

-- a root behind the entry's exists only where the frame has a head
abbrev pub AreHeaded : Unrolled → Type 0
AreHeaded u = u.heads ≡ false → (x : declared.Root) → Contains u.roots.items x → x.head ≡ None

-- the invariants among the assert lines of some entries of the lines by address
abbrev pub assumed_of : Unrolled → List (ℕ × ℕ) → List Check
assumed_of u index = filter (λ x. x.invariant) (map (check_at u) index)

-- what they say
abbrev pub assumed_lines : Unrolled → List (ℕ × ℕ) → List Expr
assumed_lines u index = map (λ x. x.says) (assumed_of u index)

-- some lines are true in a state
abbrev pub are_true : (big : Bool) → List Expr → (now entry : State) → Bool
are_true big lines now entry = list_all (λ e. is_true (value (endian big) e now entry)) lines

-- What is held before any point, where segments begin at some roots.
abbrev pub begun : UnrolledProgram → Reading → List Root → Held
begun u r roots = record {
  met = λ i. list_any (λ x. (x.place == i) && is_assumed u r x) roots;
  carried = λ i. root_content r (point_at u i).point.anchor;
  fails = false;
  steps = false;
  turns = false;
}

-- The terms of the head's state: those of part 1, where the frame has a head.
pub record AreHeadNames (u : Unrolled) (old new : List TermNode) (entry n : Names) : Type 0 where
  pub grew : Grew old new 0 0 0 0 (variables_of (frame_unrolled_of u))
  pub inputs : InputsFrom old new (λ m. (u.heads ≡ true) × IsOfPart 1 entry.first (length entry.registers.items) (length entry.flags.items) m)
  pub same : HaveSameForm entry n
  pub names : AreNames (form_of n) new (names_of n)
  pub denotes : u.heads ≡ true → (x : TermReading) → InRange x → Denotes (form_of n) new x (names_of n) (at_part x 1)

-- the lines that some roots assume
abbrev pub lines_of : List Root → List Expr
lines_of roots = flat_map (λ x. says_of x.assumes) roots

-- The terms are within what may be evaluated where segments begin and what there is before it, but for what some roots may.
pub record LeaveRootRoom (u : UnrolledProgram) (nodes : List TermNode) (others : List Root) : Type 0 where
  pub gates : term_gates nodes + sum_by line_price (lines_of others) ≤ sum_by line_price (begin_lines u)
  pub loads : term_loads nodes + sum_by bytes_loaded (lines_of others) ≤ sum_by bytes_loaded (begin_lines u)
  pub stores : term_stores nodes ≤ 0
  pub joins : term_joins nodes ≤ 0
  pub few : length nodes + (length others + 4 * line_steps (lines_of others)) ≤ 2 * variables_of u + 3 + (length u.roots + 4 * line_steps (begin_lines u))

-- Segments have been begun at the first roots: what is kept are terms of the frame, with those of the head's state and a bit that is 1 beside them, with
-- room for
-- the roots that are left, and under every reading they are what is held for those before.
pub record ArePlanted (u : Unrolled) (done : ℕ) (nodes : List TermNode) (s : Sweep) (head : Names) (yes : ℕ) : Type 0 where
  pub well : AreWell nodes s
  pub sweep : IsSweepOf u s
  pub own : AreOwn u nodes s
  pub named : AreNamedBelow (frame_unrolled_of u) u.heads 0 nodes
  pub room : LeaveRootRoom (frame_unrolled_of u) nodes (drop done (frame_unrolled_of u).roots)
  pub head_terms : AreTermsOf s.entry nodes head
  pub head_denotes : u.heads ≡ true → (x : TermReading) → InRange x → Denotes (form_of head) nodes x (names_of head) (at_part x 1)
  pub bit : HasWidth nodes 1 yes
  pub is_yes : (x : TermReading) → InRange x → Tells nodes x yes true
  pub shows : UnderAll (frame_unrolled_of u) (λ r. ShowsAll nodes s 0 (part_reading (frame_unrolled_of u) r)
      (begun (frame_unrolled_of u) r (take done (frame_unrolled_of u).roots)))

-- the terms of the state with which the segment of a place begins
abbrev pub begins_with : Unrolled → (place : ℕ) → (head entry : Names) → Names
begins_with u i head entry = if is_of_head u i then head else entry

-- A bit tells that some lines are true in a state, with the state at entry, where another is 1.
pub record AreAssumed (old new : List TermNode) (big : Bool) (lines : List Expr) (now entry : Now) (yes t : ℕ) : Type 0 where
  pub grew : Grew old new (sum_by line_price lines) (sum_by bytes_loaded lines) 0 0 (4 * line_steps lines)
  pub inputs : InputsFrom old new (λ m. ⊥)
  pub typed : AreTyped new
  pub width : HasWidth new 1 t
  pub tells : (x : TermReading) → InRange x → Tells old x yes true → (c d : Carried) (at from : ℕ) → IsStateOf old x now c at → IsStateOf old x entry d from →
      Tells new x t (are_true big lines (state_at c at) (state_at d from))

-- The spans are what the frame's own contract may write, by the state at entry; none where it has none. They are within what those lines may cost.
pub record AreOwnSpans (u : Unrolled) (old new : List TermNode) (entry : Names) (pc : ℕ) (spans : List Span) : Type 0 where
  pub grew : let f = frame_unrolled_of u in Grew old new (sum_by line_price (own_lines f)) (sum_by bytes_loaded (own_lines f)) 0 0 (4 * line_steps (own_lines f))
  pub inputs : InputsFrom old new (λ m. ⊥)
  pub typed : AreTyped new
  pub each : (k : Span) → Contains spans k → IsSpan new k
  pub count : length spans ≡ own_writes (frame_unrolled_of u)
  pub written : (x : TermReading) → InRange x → (c : Carried) (at : ℕ) → Denotes (form_of entry) old x (names_of entry) c → term_word x old pc ≡ at →
      addresses_of new x spans ≡ own_places u (state_at c at)
