-- The exits of a row, tried one by one.
use Rattle.std.proofs.Common.{◌≡◌, ℕ, ◌+◌, Bool, true, false, List, [], ◌∷◌, ◌++◌, map, refl, ap, sym, ◌∙◌, subst, arith}
use Rattle.std.specs.Prelude.{◌||◌, Option, Some, None, sum_by}
use Rattle.std.specs.List.{list_any}
use Rattle.machine_spec.specs.Endings.{CodeWritten, AlignFails, JumpFails}
use Rattle.term_spec.specs.Terms.{TermReading, InRange, TermNode, HasWidth, term_word}
use Rattle.walk_spec.specs.Unrolled.{WalkFails, carried_of, is_in, state_at}
use Rattle.frame_spec.specs.Frames.{Contract, OfStep, WritesFails}
use Rattle.frame_spec.specs.FrameUnrolling.{outside_exit, own_of}
use Rattle.frame_spec.specs.FrameWalk.{Own, PointExit, Raising, WritingKept, WritingOutside, Unaligned, first_aim, is_outside, is_raised, is_unaligned, raised_event}
use Rattle.walk_spec.specs.Sweep.{Held, held_if, hand}
use Rattle.term_spec.specs.Passive.{Tells}
use Rattle.term_dag.specs.Made.{Grew}
use Rattle.term_dag.proofs.Growth.{grew_more}
use Rattle.question_form.specs.declared.unrolled.Edge.{Edge}
use Rattle.question_form.specs.declared.unrolled.Unrolled.{Unrolled}
use Rattle.question_form.specs.FrameViews.{edge_of, own_contract}
use Rattle.term_names.specs.declared.names.Names.{Names}
use Rattle.term_names.specs.Chosen.{at_entry}
use Rattle.note_terms.specs.declared.Now.{Now}
use Rattle.passify.specs.declared.sweep.Sweep.{Sweep}
use Rattle.passify.specs.Sweeps.{AreWell, AreLike, AreTermsOf, Steps, HasEvent, Hands, ShowsAt}
use Rattle.passify.specs.Exits.{IsPending, Narrows, Tries}
use Rattle.passify.specs.Situations.{Situation, deciding, goes}
use Rattle.passify.specs.Edges.{AreEdges, AreLater, EdgesTried, GoesHere, IsLeftBy, aim_gates, aim_loads, aim_joins, aim_nodes}
use Rattle.passify.specs.Rows.{IsLeaving, LeavesHere, is_refused}
use Rattle.passify.proofs.Kept.{tells_keep, word_keeps, denotes_keep, shows_keep, terms_keep}
use Rattle.passify.proofs.Lines.{event_by, steps_on}
use Rattle.passify.proofs.Tried.{bit_false}

-- what is pending stays so as the terms grow
pub pending_keep : (old new : List TermNode) (g l st j n : ℕ) (s : Sweep) (from : ℕ) (x : TermReading) (rest : ℕ) (before after go : Held) →
    Grew old new g l st j n → AreWell old s
    → HasWidth old 1 rest →
    IsPending old s from x rest before after go → IsPending new s from x rest before after go
pending_keep old new g l st j n s from x rest before after go grew w wr k = record {
  some = k.some;
  tells = tells_keep grew x rest k.some wr.0 k.tells;
  goes = k.goes;
  shows = shows_keep grew s from x (held_if k.some before after) w k.shows;
}

-- a bit that says whether a place is met begins its exits
pub pending_start : (nodes : List TermNode) (s : Sweep) (from : ℕ) (x : TermReading) (rest : ℕ) (b : Bool) (h go : Held) → Tells nodes x rest b →
    ShowsAt nodes s from x h →
    IsPending nodes s from x rest h (held_if b go h) go
pending_start nodes s from x rest b h go tells shows = record { some = b; tells = tells; goes = λ e. ap (λ (q : Bool). held_if q go h) e; shows = by b }
  where
    by : (b : Bool) → ShowsAt nodes s from x (held_if b h (held_if b go h))
    by true = shows
    by false = shows

-- where no exit was taken, the jump is to no edge
pub pending_end : (old new : List TermNode) (s z : Sweep) (from : ℕ) (x : TermReading) (left : ℕ) (before after : Held) (S : Situation) → InRange x →
    Hands old new s z left
    (λ from x w b. HasEvent w) →
    IsPending old s from x left before after (goes S [] before) → ShowsAt new z from x after
pending_end old new s z from x left before after S r hands k = by k.some k.tells k.goes k.shows
  where
    by : (b : Bool) → Tells old x left b → (b ≡ true → after ≡ goes S [] before) → ShowsAt old s from x (held_if b before after) → ShowsAt new z from x after
    by true t g sh = subst (λ (q : Held). ShowsAt new z from x q) (sym (g refl)) (hands x r from (WalkFails JumpFails) true (JumpFails, refl) t before sh)
    by false t g sh = hands x r from (WalkFails JumpFails) false (JumpFails, refl) t after sh

-- all edges were tried
pub edges_steps : (u : Unrolled) (old new : List TermNode) (s z : Sweep) (n : Names) (all : List Edge) → AreEdges u old new s z n all [] →
    Steps old new s z (sum_by (λ e. 35 + aim_gates u n e.aim) all) (sum_by (λ e. aim_loads u e.aim) all) 0 (sum_by (λ e. aim_joins e.aim) all)
    (sum_by (λ e. 14 + aim_nodes u n e.aim) all) (λ m. ⊥)
edges_steps u old new s z n all k = record {
  grew = grew_more old new k.gates k.loads 0 k.joins k.nodes (sum_by (λ e. 35 + aim_gates u n e.aim) all) (sum_by (λ e. aim_loads u e.aim) all) 0
      (sum_by (λ e. aim_joins e.aim) all)
      (sum_by (λ e. 14 + aim_nodes u n e.aim) all) (omega (arith, k.few_gates)) (omega (arith, k.few_loads)) (omega arith) (omega (arith, k.few_joins))
      (omega (arith, k.few_nodes)) k.steps.grew;
  inputs = k.steps.inputs;
  well = k.steps.well;
  like = k.steps.like;
}

pub exits_end : (xs : List PointExit) → xs ++ [] ≡ xs
exits_end [] = refl
exits_end (x ∷ xs) = ap (λ (l : List PointExit). x ∷ l) (exits_end xs)

-- where a point goes on stays so as the terms grow
pub goes_keep : (old new : List TermNode) (g l st j n : ℕ) (s z : Sweep) (big : Bool) (next : Now) (jumped link : ℕ) (x : TermReading) (S : Situation) →
    Grew old new g l st j n →
    AreLike s z → AreTermsOf s.entry old next.names.now →
    HasWidth old 32 next.pc.0 → HasWidth old 1 jumped → HasWidth old 32 link → GoesHere old s big next jumped link x S → GoesHere new z big next jumped link x S
goes_keep old new g l st j n s z big next jumped link x S grew like names pc wj wl f = record {
  jumps = f.jumps;
  to = f.to;
  carried = f.carried;
  leaving = f.leaving;
  next_state = f.next_state;
  tells = tells_keep grew x jumped f.jumps wj.0 f.tells;
  link_word = word_keeps grew x link wl.0 ∙ f.link_word;
  there = record {
    endian = f.there.endian;
    entry = f.there.entry ∙ ap (state_at (at_entry x)) (sym like.at);
    is = record {
      carried = denotes_keep grew x next.names.now
          (carried_of S.next) names.names f.there.is.carried;
      pc = word_keeps grew x next.pc.0 pc.0 ∙ f.there.is.pc;
    };
  };
}

-- a step keeps the names
pub names_step : (old new : List TermNode) (s z : Sweep) (g l st j k : ℕ) (more : TermNode → Type 0) (n : Names) → Steps old new s z g l st j k more →
    AreTermsOf s.entry old n →
    AreTermsOf z.entry new n
names_step old new s z g l st j k more n p h = subst (λ (e : Names). AreTermsOf e new n) (sym p.like.entry) (terms_keep p.grew s.entry n h)

-- three exits keep the names
pub leave_names : (d0 d1 d2 d3 : List TermNode) (s0 s1 s2 s3 : Sweep) (n : Names) → AreTermsOf s0.entry d0 n → Steps d0 d1 s0 s1 3 0 0 0 8 (λ m. ⊥) →
    Steps d1 d2 s1 s2 3 0 0 0 8
    (λ m. ⊥) → Steps d2 d3 s2 s3 3 0 0 0 8 (λ m. ⊥) →
    AreTermsOf s3.entry d3 n
leave_names d0 d1 d2 d3 s0 s1 s2 s3 n h p q r =
    names_step d2 d3 s2 s3 3 0 0 0 8 (λ m. ⊥) n r (names_step d1 d2 s1 s2 3 0 0 0 8 (λ m. ⊥) n q (names_step d0 d1 s0 s1 3 0 0 0 8 (λ m. ⊥) n p h))

either_if : (p q : Bool) (a b c : Held) → held_if p a (held_if q a c) ≡ held_if (p || q) a c
either_if true q a b c = refl
either_if false q a b c = refl

-- the exits by what is written are one
pub refused_by : (S : Situation) (o : Option Contract) (rest : List PointExit) (h : Held) → S.program.own ≡ own_of o →
    goes S (WritingKept ∷ (outside_exit o ++ rest)) h ≡ held_if (is_refused S) (hand (WalkFails JumpFails) h) (goes S rest h)
refused_by S None rest h e =
    event_by (list_any (is_in S.program.kept) S.stored) S.program S.entry S.next (OfStep CodeWritten) (first_aim S.program (deciding S) rest) h
    ∙ ap (λ (b : Bool). held_if b (hand (WalkFails JumpFails) h) (goes S rest h))
    (or_false (list_any (is_in S.program.kept) S.stored)
    ∙ ap (λ (o : Option Own). list_any (is_in S.program.kept) S.stored || is_outside o S.program.endian S.entry S.stored) (sym e))
  where
    or_false : (b : Bool) → b ≡ (b || false)
    or_false true = refl
    or_false false = refl
refused_by S (Some x) rest h e =
    let fails = hand (WalkFails JumpFails) h in
    event_by (list_any (is_in S.program.kept) S.stored) S.program S.entry S.next (OfStep CodeWritten)
    (first_aim S.program (deciding S) (WritingOutside ∷ rest)) h
    ∙ ap (λ (y : Held). held_if (list_any (is_in S.program.kept) S.stored) fails y)
    (event_by (is_outside S.program.own S.program.endian S.entry S.stored) S.program S.entry S.next WritesFails (first_aim S.program (deciding S) rest) h)
    ∙ either_if (list_any (is_in S.program.kept) S.stored) (is_outside S.program.own S.program.endian S.entry S.stored) fails fails (goes S rest h)

module _ (u : Unrolled) (d0 d1 d2 d3 d4 : List TermNode) (s0 s1 s2 s3 s4 : Sweep) (rest quiet kept aligned left : ℕ) (raise write off : ℕ)
    (next : Now)
    (jumped link : ℕ) (edges : List Edge)
    (ww : HasWidth d0 1 write) (wo : HasWidth d0 1 off) (names : AreTermsOf s0.entry d0 next.names.now) (pc : HasWidth d0 32 next.pc.0)
    (wj : HasWidth d0 1 jumped)
    (wl : HasWidth d0 32 link)
    (st1 : Steps d0 d1 s0 s1 3 0 0 0 8 (λ m. ⊥)) (tries1 : Tries d0 d1 s0 s1 rest quiet (λ x q. Tells d0 x raise q) (λ from x w b. HasEvent w))
    (narrows1 : Narrows d0 d1 rest quiet (λ x q. Tells d0 x raise q))
    (st2 : Steps d1 d2 s1 s2 3 0 0 0 8 (λ m. ⊥)) (tries2 : Tries d1 d2 s1 s2 quiet kept (λ x q. Tells d1 x write q) (λ from x w b. HasEvent w))
    (narrows2 : Narrows d1 d2 quiet kept (λ x q. Tells d1 x write q))
    (st3 : Steps d2 d3 s2 s3 3 0 0 0 8 (λ m. ⊥)) (tries3 : Tries d2 d3 s2 s3 kept aligned (λ x q. Tells d2 x off q) (λ from x w b. HasEvent w))
    (narrows3 : Narrows d2 d3 kept aligned (λ x q. Tells d2 x off q))
    (tried : EdgesTried u d3 d4 s3 s4 aligned left next jumped link edges []) where
  st12 : Steps d0 d2 s0 s2 (3 + 3) (0 + 0) (0 + 0) (0 + 0) (8 + 8) (λ m. ⊥)
  st12 = steps_on d0 d1 d2 s0 s1 s2 (λ m. ⊥) 3 0 0 0 8 3 0 0 0 8 st1 st2

  leave_steps3 : Steps d0 d3 s0 s3 (3 + 3 + 3) (0 + 0 + 0) (0 + 0 + 0) (0 + 0 + 0) (8 + 8 + 8) (λ m. ⊥)
  leave_steps3 = steps_on d0 d2 d3 s0 s2 s3 (λ m. ⊥) (3 + 3) (0 + 0) (0 + 0) (0 + 0) (8 + 8) 3 0 0 0 8 st12 st3

  module _ (x : TermReading) (r : InRange x) (S : Situation) (fits : term_word x d0 rest ≡ 1 →
      LeavesHere d0 s0 u.big raise write off next jumped link x S) where
    takes2 : term_word x d1 quiet ≡ 1 → Tells d1 x write (is_refused S)
    takes2 h = tells_keep st1.grew x write (is_refused S) ww.0 (fits (narrows1 x r h).0).wrote

    not_raised : term_word x d2 kept ≡ 1 → (term_word x d0 rest ≡ 1) × (is_raised S.leaving ≡ false)
    not_raised h = let k = narrows1 x r (narrows2 x r h).0 in (k.0, bit_false (is_raised S.leaving) (sym (fits k.0).raised ∙ k.1))

    takes3 : term_word x d2 kept ≡ 1 → Tells d2 x off (is_unaligned S.program.narrow S.leaving)
    takes3 h = let k = not_raised h in tells_keep st12.grew x off (is_unaligned S.program.narrow S.leaving) wo.0 ((fits k.0).odd k.1)

    takes4 : term_word x d3 aligned ≡ 1 → GoesHere d3 s3 u.big next jumped link x S
    takes4 h =
        let k = not_raised (narrows3 x r h).0 in
        goes_keep d0 d3 _ _ _ _ _ s0 s3 u.big next jumped link x S leave_steps3.grew leave_steps3.like names pc wj wl ((fits k.0).goes_on k.1)

    abbrev behind1 : List PointExit
    behind1 = WritingKept ∷ (outside_exit (own_contract u) ++ Unaligned ∷ map (edge_of u) edges)

    abbrev behind2 : List PointExit
    behind2 = Unaligned ∷ map (edge_of u) edges

    abbrev behind3 : List PointExit
    behind3 = map (edge_of u) edges

    leave_tries : (from : ℕ) → AreLater from edges → IsLeftBy u S.program → (before after : Held) →
        IsPending d0 s0 from x rest before after (goes S (Raising ∷ behind1) before) →
        IsPending d4 s4 from x left before after (goes S [] before)
    leave_tries from later leaves before after p0 =
        let p1 = tries1 x r from (WalkFails JumpFails) (is_raised S.leaving) (λ h. (fits h).raised)
        (λ b h. (JumpFails, refl)) before after
        (goes S (Raising ∷ behind1) before) (goes S behind1 before)
        (event_by (is_raised S.leaving) S.program S.entry S.next (raised_event S.leaving)
        (first_aim S.program (deciding S) behind1) before) p0 in
        let p2 = tries2 x r from (WalkFails JumpFails) (is_refused S) takes2
        (λ b h. (JumpFails, refl)) before after (goes S behind1 before) (goes S behind2 before)
        (refused_by S (own_contract u) behind2 before leaves.own) p1 in
        let p3 = tries3 x r from (WalkFails JumpFails) (is_unaligned S.program.narrow S.leaving) takes3
        (λ b h. (JumpFails, refl)) before after (goes S behind2 before) (goes S behind3 before)
        (event_by (is_unaligned S.program.narrow S.leaving) S.program S.entry S.next (OfStep AlignFails) (first_aim S.program
        (deciding S) behind3) before) p2 in
        tried.tries x r from later S leaves takes4 before after []
        (subst (λ (xs : List PointExit). IsPending d3 s3 from x aligned before after (goes S xs before)) (sym (exits_end behind3)) p3)

  pub leave_tried : IsLeaving u d0 d4 s0 s4 rest left raise write off next jumped link edges
  leave_tried = record {
    steps = (
        let k = edges_steps u d3 d4 s3 s4 next.names.now edges tried.edges in
        let G = sum_by (λ (e : Edge). 35 + aim_gates u next.names.now e.aim) edges in
        let L = sum_by (λ (e : Edge). aim_loads u e.aim) edges in
        let J = sum_by (λ (e : Edge). aim_joins e.aim) edges in
        let N = sum_by (λ (e : Edge). 14 + aim_nodes u next.names.now e.aim) edges in
        let t = steps_on d0 d3 d4 s0 s3 s4 (λ m. ⊥) (3 + 3 + 3) (0 + 0 + 0) (0 + 0 + 0) (0 + 0 + 0) (8 + 8 + 8) G L 0 J N leave_steps3 k in
        record {
          grew = grew_more d0 d4 _ _ _ _ _ (9 + G) L 0 J (24 + N) (omega arith) (omega arith) (omega arith) (omega arith) (omega arith) t.grew;
          inputs = t.inputs;
          well = t.well;
          like = t.like;
        }
        );
    bit = tried.bit;
    tries = λ x r from later S leaves fits before after p. leave_tries x r S fits from later leaves before after p;
  }
