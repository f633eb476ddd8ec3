-- Edges as exits that are tried.
use Rattle.std.specs.Prelude.{ℕ, ◌≡◌, ◌≤◌, ◌<◌, ◌+◌, ◌*◌, Bool, true, ◌==◌, ◌&&◌, if◌then◌else◌, List, [], ◌∷◌, ◌++◌, Option, Some, None, Contains, map, sum_by}
use Rattle.bilv_spec.specs.Notes.{Expr}
use Rattle.bilv_spec.specs.Points.{line_price, bytes_loaded}
use Rattle.term_spec.specs.Terms.{TermReading, InRange, TermNode, HasWidth, term_word}
use Rattle.walk_spec.specs.Unrolled.{Walk}
use Rattle.walk_spec.specs.Unrolling.{IsReadable}
use Rattle.walk_spec.specs.Sweep.{Held}
use Rattle.term_spec.specs.Passive.{Tells}
use Rattle.walk_spec.specs.Prices.{line_steps}
use Rattle.frame_spec.specs.Frames.{Content, content_at}
use Rattle.frame_spec.specs.FrameWalk.{GoesOn, PointExit, UnrolledProgram, walk_to}
use Rattle.frame_spec.specs.FrameUnrolling.{own_of}
use Rattle.frame_laws.specs.FramePrices.{exit_lines}
use Rattle.notes_value.specs.NoteViews.{notes_of}
use Rattle.question_form.specs.declared.unrolled.Aim.{Aim}
use Rattle.question_form.specs.declared.unrolled.Aim.TheVariants.{OnTo, IntoHead, Outward, OverLast}
use Rattle.question_form.specs.declared.unrolled.Edge.{Edge}
use Rattle.question_form.specs.declared.unrolled.Unrolled.{Unrolled}
use Rattle.question_form.specs.FrameViews.{aim_of, checks_between, edge_of, frame_unrolled_of, own_contract}
use Rattle.question_form.specs.Forms.{IsAimFormed}
use Rattle.term_names.specs.declared.names.Names.{Names}
use Rattle.term_names.specs.Views.{form_of}
use Rattle.note_terms.specs.declared.Now.{Now}
use Rattle.passify.specs.declared.sweep.Sweep.{Sweep}
use Rattle.passify.specs.Plain.{plain}
use Rattle.passify.specs.Spans.{is_own}
use Rattle.passify.specs.Sweeps.{Steps, bits_of, terms_of}
use Rattle.passify.specs.Exits.{IsPending, Narrows}
use Rattle.passify.specs.Situations.{Situation, IsThere, goes, said}

-- the address of an edge, by the value of the link register at entry
abbrev pub edge_word : Option ℕ → (link : ℕ) → ℕ
edge_word None link = link
edge_word (Some a) link = a

-- a bit tells that a point goes on by a way that an edge has, where another tells that the addresses are equal
abbrev pub TellsWay : (old new : List TermNode) → (falls jumps : Bool) → (jumped same t : ℕ) → TermReading → Type 0
TellsWay old new falls jumps jumped same t x = (j e : Bool) → Tells old x jumped j → Tells old x same e → Tells new x t ((if j then jumps else falls) && e)

-- an aim is no place before one
abbrev pub IsLater : (from : ℕ) → Aim → Type 0
IsLater from (OnTo j) = from ≤ j
IsLater from Outward = Unit {0}
IsLater from (IntoHead at asserts) = Unit {0}
IsLater from OverLast = Unit {0}

-- the lines that are judged where the frame is left
abbrev pub lines_out : Unrolled → List Expr
lines_out u = exit_lines (frame_unrolled_of u)

-- the lines that are judged where an aim leads
abbrev pub lines_to : Unrolled → Aim → List Expr
lines_to u (OnTo j) = []
lines_to u Outward = lines_out u
lines_to u (IntoHead at asserts) = said (checks_between u asserts)
lines_to u OverLast = []

-- lines can be read by the terms of a state
abbrev pub AreRead : Names → List Expr → Type 0
AreRead n lines = (e : Expr) → Contains lines e → IsReadable (form_of n) e

-- an aim is a place, if it is one
abbrev pub IsPlaceOf : (places : ℕ) → Aim → Type 0
IsPlaceOf places (OnTo j) = j < places
IsPlaceOf places Outward = Unit {0}
IsPlaceOf places (IntoHead at asserts) = Unit {0}
IsPlaceOf places OverLast = Unit {0}

-- a walk can be handed on by an aim: it is a place, or its lines can be read
pub record CanGo (u : Unrolled) (places : ℕ) (n : Names) (aim : Aim) : Type 0 where
  pub place : IsPlaceOf places aim
  pub formed : IsAimFormed u aim
  pub reads : AreRead n (lines_to u aim)

-- a frame is left by the ensure lines of the notes, or by what its own contract gives and may change
pub record IsLeftBy (u : Unrolled) (p : UnrolledProgram) : Type 0 where
  pub own : p.own ≡ own_of (own_contract u)
  pub ensures : p.ensures ≡ (notes_of u.notes.now).ensures
  pub registers : p.registers ≡ (frame_unrolled_of u).registers
  pub flags : p.flags ≡ (frame_unrolled_of u).flags

-- the walk goes on by an aim to the next state, which terms are where a bit is 1
pub record Follows (u : Unrolled) (nodes : List TermNode) (s : Sweep) (next : Now) (aim : Aim) (from : ℕ) (x : TermReading) (w : Walk) (b : Bool) : Type 0 where
  pub situation : Situation
  pub is : w ≡ plain situation.program situation.entry (walk_to situation.program situation.entry situation.next (aim_of u aim))
  pub later : IsLater from aim
  pub leaves : IsLeftBy u situation.program
  pub there : b ≡ true → IsThere nodes s u.big next (λ S. S.next) x situation

-- what it costs in gates to go on by an aim
abbrev pub aim_gates : Unrolled → Names → Aim → ℕ
aim_gates u n (OnTo j) = bits_of n + 1
aim_gates u n Outward = sum_by line_price (lines_out u) + is_own (own_contract u) * (bits_of n + terms_of n + 1)
aim_gates u n (IntoHead at asserts) = sum_by line_price (said (checks_between u asserts))
aim_gates u n OverLast = 1

-- in byte loads
abbrev pub aim_loads : Unrolled → Aim → ℕ
aim_loads u aim = sum_by bytes_loaded (lines_to u aim)

-- in joins
abbrev pub aim_joins : Aim → ℕ
aim_joins (OnTo j) = 1
aim_joins Outward = 0
aim_joins (IntoHead at asserts) = 0
aim_joins OverLast = 0

-- in nodes
abbrev pub aim_nodes : Unrolled → Names → Aim → ℕ
aim_nodes u n (OnTo j) = 2 * terms_of n + 2
aim_nodes u n Outward = 4 * line_steps (lines_out u) + is_own (own_contract u) * (4 * terms_of n + 1)
aim_nodes u n (IntoHead at asserts) = 1 + 4 * line_steps (said (checks_between u asserts))
aim_nodes u n OverLast = 2

-- the point goes on, to a state that terms are, by a jump or without one, as a bit tells
pub record GoesHere (nodes : List TermNode) (s : Sweep) (big : Bool) (next : Now) (jumped link : ℕ) (x : TermReading) (S : Situation) : Type 0 where
  pub jumps : Bool
  pub to : ℕ
  pub carried : Content
  pub leaving : S.leaving ≡ GoesOn jumps to carried
  pub next_state : S.next ≡ content_at carried to
  pub tells : Tells nodes x jumped jumps
  pub link_word : term_word x nodes link ≡ S.entry.regs S.program.link
  pub there : IsThere nodes s big next (λ S. S.next) x S

-- the test whether an edge is taken: by its way, and to its address
abbrev pub edge_test : Edge → (jumped : Bool) → (next link : ℕ) → Bool
edge_test e j next link = (if j then e.jumps else e.falls) && (next == edge_word e.to link)

-- a bit tells whether an edge is taken
abbrev pub TellsEdge : (old new : List TermNode) → Edge → (jumped next link t : ℕ) → TermReading → Type 0
TellsEdge old new e jumped next link t x = (j : Bool) → Tells old x jumped j → Tells new x t (edge_test e j (term_word x old next) (term_word x old link))

-- the test says whether an edge is taken, by what terms tell of how the point is left
pub record TakesEdge (nodes : List TermNode) (e : Edge) (jumped next link : ℕ) (x : TermReading) (q : Bool) : Type 0 where
  pub by_jump : Bool
  pub tells : Tells nodes x jumped by_jump
  pub is : q ≡ edge_test e by_jump (term_word x nodes next) (term_word x nodes link)

-- terms within what some edges may cost, but for others
pub record AreEdges (u : Unrolled) (old new : List TermNode) (s z : Sweep) (n : Names) (all others : List Edge) : Type 0 where
  pub gates : ℕ
  pub loads : ℕ
  pub joins : ℕ
  pub nodes : ℕ
  pub steps : Steps old new s z gates loads 0 joins nodes (λ m. ⊥)
  pub few_gates : gates + sum_by (λ e. 35 + aim_gates u n e.aim) others ≤ sum_by (λ e. 35 + aim_gates u n e.aim) all
  pub few_loads : loads + sum_by (λ e. aim_loads u e.aim) others ≤ sum_by (λ e. aim_loads u e.aim) all
  pub few_joins : joins + sum_by (λ e. aim_joins e.aim) others ≤ sum_by (λ e. aim_joins e.aim) all
  pub few_nodes : nodes + sum_by (λ e. 14 + aim_nodes u n e.aim) others ≤ sum_by (λ e. 14 + aim_nodes u n e.aim) all

-- the edges lead to no place before one
abbrev pub AreLater : (from : ℕ) → List Edge → Type 0
AreLater from [] = Unit {0}
AreLater from (e ∷ rest) = IsLater from e.aim × AreLater from rest

-- Edges are tried one by one: some are left.
pub record EdgesTried (u : Unrolled) (old new : List TermNode) (s z : Sweep) (rest left : ℕ) (next : Now) (jumped link : ℕ) (all others : List Edge) : Type 0
  where
    pub edges : AreEdges u old new s z next.names.now all others
    pub bit : HasWidth new 1 left
    pub narrows : Narrows old new rest left (λ x q. Unit {0})
    pub later : (from : ℕ) → AreLater from all → AreLater from others
    pub tries : (x : TermReading) → InRange x → (from : ℕ) → AreLater from all → (S : Situation) → IsLeftBy u S.program →
        (term_word x old rest ≡ 1 → GoesHere old s u.big next jumped link x S) → (before after : Held)
        (tail : List PointExit) → IsPending old s from x rest before after (goes S (map (edge_of u) all ++ tail) before) →
        IsPending new z from x left before after (goes S (map (edge_of u) others ++ tail) before)
