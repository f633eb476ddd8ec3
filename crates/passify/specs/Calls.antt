-- What it means that a contract step is tried.
use Rattle.std.specs.Prelude.{ℕ, suc, ◌≡◌, ◌≤◌, ◌<◌, ◌+◌, ◌*◌, ◌&&◌, Bool, true, not, if◌then◌else◌, nat_eq, List, [], ◌∷◌, ◌++◌, length, map, sum_by}
use Rattle.std.specs.List.{list_any}
use Rattle.word_spec.specs.Memory.{endian}
use Rattle.bilv_spec.specs.Notes.{NoteLine}
use Rattle.bilv_spec.specs.Points.{line_price, bytes_loaded}
use Rattle.bilv_spec.specs.Run.{false_line}
use Rattle.term_spec.specs.Terms.{TermReading, InRange, TermNode, TakeNode, AreTyped, HasWidth, term_word}
use Rattle.term_spec.specs.Passive.{AreNames, Denotes, Tells}
use Rattle.walk_spec.specs.Unrolled.{Carried, carried_of, state_at}
use Rattle.walk_spec.specs.Sweep.{Held}
use Rattle.walk_spec.specs.Prices.{line_steps}
use Rattle.frame_spec.specs.Frames.{Content, Contract, content_at}
use Rattle.frame_spec.specs.FramePoints.{says_of}
use Rattle.frame_spec.specs.FrameWalk.{UnrolledPoint, PointExit, FalseNeed, NotGiven, GoesOn, is_line_false}
use Rattle.term_dag.specs.Made.{Grew, InputsFrom}
use Rattle.question_form.specs.declared.unrolled.Unrolled.{Unrolled}
use Rattle.question_form.specs.FrameViews.{edge_of, top_of}
use Rattle.program_points.specs.Tables.{stack_at}
use Rattle.term_names.specs.declared.names.Names.{Names}
use Rattle.term_names.specs.Views.{form_of, names_of}
use Rattle.term_names.specs.Chosen.{HaveSameForm, at_entry}
use Rattle.term_names.specs.Gifts.{given_node}
use Rattle.note_terms.specs.declared.Now.{Now}
use Rattle.note_terms.specs.Lines.{IsStateOf}
use Rattle.passify.specs.declared.spans.Span.{Span}
use Rattle.passify.specs.declared.sweep.Sweep.{Sweep}
use Rattle.passify.specs.Edges.{IsLeftBy, aim_gates, aim_joins, aim_loads, aim_nodes}
use Rattle.passify.specs.Exits.{IsPending}
use Rattle.passify.specs.Rows.{own_edges, own_point}
use Rattle.passify.specs.Situations.{LinesTried, Situation, goes}
use Rattle.passify.specs.Spans.{addresses_of, bytes_of}
use Rattle.passify.specs.Sweeps.{Steps}

-- what is held in the end by the exits of what a contract needs, and others behind
abbrev pub goes_needs : List NoteLine → Situation → List PointExit → Held → Held
goes_needs lines S tail h = goes S (map (λ l. FalseNeed l.line l.says) lines ++ tail) h

-- Lines of what a contract needs are tried: some are left.
abbrev pub NeedsTried : (old new : List TermNode) → (s z : Sweep) → (rest left : ℕ) → (big : Bool) → Now → (all others : List NoteLine) → Type 0
NeedsTried old new s z rest left big n all others =
    LinesTried old new s z rest left big n (λ S. S.now) (says_of all) (says_of others) (goes_needs all) (goes_needs others)

-- What is left of a bit where lines are true in the next state, with the state before it as the old one.
pub record AreGiven (old new : List TermNode) (rest left : ℕ) (big : Bool) (next now : Now) (lines : List NoteLine) : Type 0 where
  pub grew : Grew old new (sum_by line_price (says_of lines)) (sum_by bytes_loaded (says_of lines)) 0 0 (4 * line_steps (says_of lines))
  pub inputs : InputsFrom old new (λ m. ⊥)
  pub typed : AreTyped new
  pub bit : HasWidth new 1 left
  pub narrows : (x : TermReading) → InRange x → term_word x new left ≡ 1 → term_word x old rest ≡ 1
  pub tells : (x : TermReading) → InRange x → (p : Bool) → Tells old x rest p → (c d : Carried) (to at : ℕ) →
      (p ≡ true → IsStateOf old x next c to × IsStateOf old x now d at) →
      Tells new x left (p && not (is_line_false (false_line (endian big) lines (state_at c to) (state_at d at))))

-- the price of a contract step's point pays for the bytes that it may write, and for its end
pub record IsGiftPaid (q : UnrolledPoint) (x : Contract) : Type 0 where
  pub row : 64 ≤ q.row
  pub stores : sum_by (λ w. w.count) x.writes ≤ q.stores

-- what a step leaves of a content: what a part has of the registers and flags that the contract may change, and at some places, and else what was there
abbrev pub left_behind : TermReading → (part : ℕ) → Contract → (places : List ℕ) → Carried → Carried
left_behind x part k places c = record {
  regs = λ r. if list_any (nat_eq r) k.registers then x.regs part r else c.regs r;
  flags = λ g. if list_any (nat_eq g) k.flags then x.flags part g else c.flags g;
  mem = λ a. if list_any (nat_eq a) places then x.mem part a else c.mem a;
}

-- a node is of a part: a register or a flag of a form that a contract may change, or a take
pub data IsGiftNode (part : ℕ) (k : Contract) (n : Names) (spans : List Span) (m : TermNode) : Type 0 where
  OfRegister : (r : ℕ) → m ≡ given_node Bool.false part r → list_any (nat_eq r) (form_of n).registers ≡ true → list_any (nat_eq r) k.registers ≡ true →
      IsGiftNode part k n spans m
  OfFlag : (g : ℕ) → m ≡ given_node true part g → g < length n.flags.items → list_any (nat_eq g) k.flags ≡ true → IsGiftNode part k n spans m
  OfTake : (i a b : ℕ) → m ≡ TakeNode i a b part → 1 ≤ length spans → IsGiftNode part k n spans m

-- The terms are what a contract step leaves of a state.
pub record IsGiftState (old new : List TermNode) (part : ℕ) (k : Contract) (spans : List Span) (before n : Names) : Type 0 where
  pub form : HaveSameForm before n
  pub grew : Grew old new 0 0 (bytes_of spans) 0 (length before.registers.items + length before.flags.items + 2 * length spans)
  pub inputs : InputsFrom old new (IsGiftNode part k before spans)
  pub typed : AreTyped new
  pub names : AreNames (form_of n) new (names_of n)
  pub denotes : (x : TermReading) → InRange x → (c : Carried) → Denotes (form_of before) old x (names_of before) c →
      Denotes (form_of n) new x (names_of n) (left_behind x part k (addresses_of old x spans) c)

-- a step goes on to a state that terms are, from one that terms are
pub record StepsHere (u : Unrolled) (place : ℕ) (k : Contract) (nodes : List TermNode) (s : Sweep) (n : Names) (now : Now) (x : TermReading)
    (S : Situation) : Type 0 where
  pub endian : S.program.endian ≡ endian u.big
  pub link : S.program.link ≡ u.link
  pub entry : S.entry ≡ state_at (at_entry x) s.at
  pub now_is : IsStateOf nodes x now (carried_of S.now) S.now.pc
  pub content : Content
  pub leaving : S.leaving ≡ GoesOn true (top_of (stack_at u.frames.items (own_point u place).stack)) content
  pub next : S.next ≡ content_at content (top_of (stack_at u.frames.items (own_point u place).stack))
  pub denotes : Denotes (form_of n) nodes x (names_of n) (carried_of S.next)
  pub gives : S.gives ≡ k.gives

-- A contract step goes on, where it is given what its contract gives, by its edges.
pub record IsGoneOn (u : Unrolled) (place : ℕ) (k : Contract) (n : Names) (now : Now) (old new : List TermNode) (s z : Sweep) (rest left : ℕ) : Type 0 where
  pub steps : let es = own_edges u place in
      Steps old new s z (sum_by line_price (says_of k.gives) + sum_by (λ e. 35 + aim_gates u n e.aim) es)
      (sum_by bytes_loaded (says_of k.gives) + sum_by (λ e. aim_loads u e.aim) es) 0 (sum_by (λ e. aim_joins e.aim) es)
      (1 + 4 * line_steps (says_of k.gives) + sum_by (λ e. 14 + aim_nodes u n e.aim) es) (λ m. ⊥)
  pub bit : HasWidth new 1 left
  pub tries : (x : TermReading) → InRange x → (S : Situation) → IsLeftBy u S.program → (term_word x old rest ≡ 1 → StepsHere u place k old s n now x S) →
      (before after : Held) → IsPending old s (suc place) x rest before after (goes S (NotGiven ∷ map (edge_of u) (own_edges u place)) before) →
      IsPending new z (suc place) x left before after (goes S [] before)
