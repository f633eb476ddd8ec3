-- One place more.
use Rattle.std.proofs.Common.{◌≡◌, inl, inr, ℕ, zero, suc, ◌+◌, ◌<◌, ◌≤◌, Bool, false, List, [], ◌∷◌, Option, Some, None, length, refl, ap, sym, ◌∙◌, subst, arith, drop, get_or}
use Rattle.std.specs.Prelude.{slice_get, map, slice_index}
use Rattle.std.specs.Vec.{with_item}
use Rattle.std.proofs.Math.ListN.{set}
use Rattle.std.proofs.lemmas.Bool.{cases_lt}
use Rattle.std.proofs.lemmas.List.{get_or-map, length-map, length-set}
use Rattle.std.proofs.lemmas.Option.{slice_get_read}
use Rattle.word_spec.specs.RowFiles.{from_to}
use Rattle.term_spec.specs.Terms.{TermReading, TermNode, HasWidth, term_word}
use Rattle.walk_spec.specs.Unrolled as tables
use Rattle.walk_spec.specs.Unrolled.{Carried}
use Rattle.walk_spec.specs.Sweep as sweeps
use Rattle.term_spec.specs.Passive.{AreNames, Denotes, Tells}
use Rattle.frame_spec.specs.FramePoints.{AtEntry}
use Rattle.frame_spec.specs.FrameQuestions.{Reading, IsReading}
use Rattle.frame_spec.specs.FrameWalk.{UnrolledProgram, Held, WalkIsAt, held, held_if, hand, no_point, point_at, sweep_on, walk_on}
use Rattle.frame_terms.specs.PassiveFrames.{IsNamedBelow, UnderAll, inputs_of, part_reading}
use Rattle.term_dag.specs.declared.nodes.Term.{Term}
use Rattle.term_dag.specs.Made.{Grew}
use Rattle.term_dag.proofs.Growth.{grew_none, grew_width}
use Rattle.term_names.specs.declared.names.Names.{Names}
use Rattle.term_names.specs.Views.{AreFor, form_of, names_of}
use Rattle.term_names.specs.Chosen.{HaveSameForm}
use Rattle.question_form.specs.declared.unrolled.Unrolled.{Unrolled}
use Rattle.question_form.specs.declared.questions.Passive.{Passive}
use Rattle.question_form.specs.FrameViews.{frame_unrolled_of}
use Rattle.passify.specs.declared.sweep.Sweep.{Sweep}
use Rattle.passify.specs.Lasts.{AreCarriedIn, CarriesIn}
use Rattle.passify.specs.Likes.{IsLike}
use Rattle.passify.specs.Plain.{carried, held_for}
use Rattle.passify.specs.Sweeps.{AreWell, AreCarried, ShowsAt, term_at}
use Rattle.passify.specs.Handled.{IsSweepOf}
use Rattle.passify.specs.Made.{IsPassiveIn}
use Rattle.passify.specs.Swept.{AreSwept, IsPassed, LeaveRoom, ShowsAll}
use Rattle.passify.proofs.Inputs.{named_on}
use Rattle.passify.proofs.Likes.{like_next, like_on}
use Rattle.passify.proofs.Pointed.{own_keeps}
use Rattle.passify.proofs.Lines.{drop_here, drop_all}
use Rattle.passify.proofs.Pushed.{met_bit, other_default}
use Rattle.passify.proofs.Standing.{framed_length}
use Rattle.passify.proofs.Tried.{bit_false}
use Rattle.passify.proofs.Kept.{truth, word_keeps}
use Rattle.passify.proofs.Rooms.{room_on, room_past, all_gates, all_loads, all_stores, all_joins, all_few}

none_kept : {X : Type 0} → (xs : List (Option X)) (j i : ℕ) (m : X) → slice_get (set xs j None) i ≡ Some (Some m) → slice_get xs i ≡ Some (Some m)
none_kept [] j i m e = e
none_kept (y ∷ ys) zero zero m e = absurd (no e)
  where
    no : Some None ≡ Some (Some m) → ⊥
    no e = cc
none_kept (y ∷ ys) zero (suc i) m e = e
none_kept (y ∷ ys) (suc j) zero m e = e
none_kept (y ∷ ys) (suc j) (suc i) m e = none_kept ys j i m e

later_kept : {X : Type 0} → (xs : List X) (j i : ℕ) (y : X) → suc j ≤ i → slice_get (set xs j y) i ≡ slice_get xs i
later_kept [] j i y l = refl
later_kept (x ∷ xs) zero zero y l = absurd (omega arith)
later_kept (x ∷ xs) zero (suc i) y l = refl
later_kept (x ∷ xs) (suc j) zero y l = absurd (omega arith)
later_kept (x ∷ xs) (suc j) (suc i) y l = later_kept xs j i y (omega arith)

pub same_names : (n m : Names) → Some (Some n) ≡ Some (Some m) → n ≡ m
same_names n m e = cc

-- without the terms of a place
abbrev pub forget : Sweep → ℕ → Sweep
forget s t = record s { states = with_item s.states t None }

pub forget_well : (nodes : List TermNode) (s : Sweep) (t : ℕ) → AreWell nodes s → AreWell nodes (forget s t)
forget_well nodes s t w = record {
  typed = w.typed;
  entry = w.entry;
  denotes = w.denotes;
  pc = w.pc;
  pc_is = w.pc_is;
  count = length-set s.states.items t None ∙ w.count;
  bits = w.bits;
  states = λ i m e. w.states i m (none_kept s.states.items t i m e);
  fails = w.fails;
  steps = w.steps;
  turns = w.turns;
}

forget_shows : (nodes : List TermNode) (s : Sweep) (t : ℕ) (x : TermReading) (h : sweeps.Held) → ShowsAt nodes s t x h → ShowsAt nodes (forget s t) (suc t) x h
forget_shows nodes s t x h k = record {
  mets = k.mets;
  carries = λ i f l m. subst (λ (q : Option (Option Names)). AreCarried nodes x q (h.carried i)) (sym (later_kept s.states.items t i None f))
      (k.carries i (omega (arith, f)) l m);
  failing = k.failing;
  turning = k.turning;
}

-- a place that is not met changes nothing
passed : (u : UnrolledProgram) (r : Reading) (t : ℕ) (h : Held) → h.met t ≡ false → sweep_on u r t h ≡ h
passed u r t h e = ap (λ (b : Bool). held_if b (hand u r (point_at u t).point.anchor (walk_on u r (WalkIsAt t (h.carried t))) h) h) e

held_next : (u : UnrolledProgram) (r : Reading) (t : ℕ) → held u r (suc t) ≡ sweep_on u r t (held u r t)
unfolding held
held_next u r t = refl

next : (t : ℕ) → suc t ≡ t + 1
next t = omega arith

forget_all : (nodes : List TermNode) (s : Sweep) (t : ℕ) (x : TermReading) (h : Held) → ShowsAll nodes s t x h → ShowsAll nodes (forget s t) (suc t) x h
forget_all nodes s t x h k = record { shows = forget_shows nodes s t x (held_for AtEntry h) k.shows; stepping = k.stepping }

-- terms of the form of others are for the same registers and flags
for_same : (u : tables.UnrolledProgram) (a b : Names) → AreFor u a → HaveSameForm a b → AreFor u b
for_same u a b f h = record {
  registers = f.registers ∙ (λ k. from_to (h.first k) (h.registers k));
  flags = f.flags ∙ h.flags;
}

-- terms for a form are terms for a program of it
module _ (u : tables.UnrolledProgram) (nodes : List TermNode) (n : Names) (f : AreFor u n) where
  names_for : AreNames (form_of n) nodes (names_of n) → AreNames u nodes (names_of n)
  names_for h = record {
    registers = h.registers ∙ ap (λ (l : List ℕ). length l) (sym f.registers);
    flags = h.flags ∙ sym f.flags;
    words = λ i l. h.words i (subst (λ (xs : List ℕ). i < length xs) f.registers l);
    bits = λ i l. h.bits i (subst (λ (m : ℕ). i < m) f.flags l);
    memory = h.memory;
  }

  denotes_for : (x : TermReading) (c : Carried) → Denotes (form_of n) nodes x (names_of n) c → Denotes u nodes x (names_of n) c
  denotes_for x c d = record {
    registers = λ i l.
        d.registers i (subst (λ (xs : List ℕ). i < length xs) f.registers l) ∙ ap (λ (xs : List ℕ). c.regs (slice_index xs i)) (sym f.registers);
    flags = λ i l. d.flags i (subst (λ (m : ℕ). i < m) f.flags l);
    memory = d.memory;
  }

-- the same places are met
met_like : {u : UnrolledProgram} {g h : Held} → IsLike u g h → (i : ℕ) → g.met i ≡ h.met i
met_like k i = ap (λ (q : Held). q.met i) k.low

-- what is carried to a place stays as the terms grow
pub carries_on : (u : UnrolledProgram) (t : ℕ) (old new : List TermNode) (n : Names) {g l st j m : ℕ} → Grew old new g l st j m → CarriesIn u t old n →
    CarriesIn u t new n
carries_on u t old new n {g} {l} {st} {j} {m} grew k =
    let h = k.names in
    record {
      form = k.form;
      names = record {
        registers = h.registers;
        flags = h.flags;
        words = λ i w. grew_width old new g l st j m 32 (slice_index (names_of n).registers i) grew (h.words i w);
        bits = λ i w. grew_width old new g l st j m 1 (slice_index (names_of n).flags i) grew (h.bits i w);
        memory = grew_width old new g l st j m 0 (names_of n).memory grew h.memory;
      };
      denotes = λ r i e met.
          let x = part_reading u r in
          let was = k.denotes r i e met in
          let d = was.3 in (
            was.0,
            was.1,
            was.2,
            record {
              registers = λ i w. word_keeps grew x (slice_index (names_of n).registers i) (h.words i w).0 ∙ d.registers i w;
              flags = λ i w. word_keeps grew x (slice_index (names_of n).flags i) (h.bits i w).0 ∙ d.flags i w;
              memory = ap (λ v. v.bytes) (grew.keeps x (names_of n).memory h.memory.0) ∙ d.memory;
            },
          );
    }

pub stays_carried : (u : UnrolledProgram) (t : ℕ) (old new : List TermNode) (o : Option Names) {g l st j m : ℕ} → Grew old new g l st j m →
    AreCarriedIn u t old o → AreCarriedIn u t new o
stays_carried u t old new None grew k = k
stays_carried u t old new (Some n) grew k = carries_on u t old new n grew k

-- what is carried to the places before one is kept, and that to the place is had
pub states_on : (u : UnrolledProgram) (old new : List TermNode) (t : ℕ) (last : Option Names) →
    ((i : ℕ) → i < t → (names : Option Names) × AreCarriedIn u i old names) →
    ((i : ℕ) (names : Option Names) → AreCarriedIn u i old names → AreCarriedIn u i new names) → AreCarriedIn u t new last →
    (i : ℕ) → i < t + 1 → (names : Option Names) × AreCarriedIn u i new names
states_on u old new t last before kept here i l = elim (cases_lt i t) [
  | inl m ↦ (let h = before i m in (h.0, kept i h.0 h.1))
  | inr n ↦ (let e : t ≡ i = omega (arith, l, n) in (last, subst (λ (x : ℕ). AreCarriedIn u x new last) e here))
]

module _ (u : Unrolled) (t : ℕ) (old : List TermNode) (s : Sweep) (a : AreSwept u t old s) (within : t < length u.points.items) where
  here : drop t (frame_unrolled_of u).points ≡ point_at (frame_unrolled_of u) t ∷ drop (t + 1) (frame_unrolled_of u).points
  here =
      drop_here (frame_unrolled_of u).points t (point_at (frame_unrolled_of u) t) (omega (arith, within, framed_length u u.points.items))
      (other_default (frame_unrolled_of u).points t no_point (point_at (frame_unrolled_of u) t) (omega (arith, within, framed_length u u.points.items)))

  room : LeaveRoom (frame_unrolled_of u) old (point_at (frame_unrolled_of u) t ∷ drop (t + 1) (frame_unrolled_of u).points)
  room = subst (LeaveRoom (frame_unrolled_of u) old) here a.room

  pub place : t < length s.met.items
  place = omega (arith, within, framed_length u u.points.items, a.sweep.places)

  pub sweep_forgets : IsSweepOf u (forget s t)
  sweep_forgets = record { form = a.sweep.form; at = a.sweep.at; places = a.sweep.places }

  pub met_within : (met : Term) → met ≡ get_or s.met.items t met → met.0 < length old
  met_within met at = (met_bit old old s t met met 0 0 0 0 0 a.well place at (grew_none old)).1.0

  -- the terms that were taken from the place
  pub taken_was : (was taken o : Option Names) → was ≡ get_or s.states.items t was → taken ≡ was → taken ≡ o → slice_get s.states.items t ≡ Some o
  taken_was was taken o at e k = slice_get_read s.states.items (length s.states.items) t was refl (omega (arith, place, a.well.count)) at ∙ ap Some (sym e ∙ k)

  -- where the place is not met
  pub passed_by : UnderAll (frame_unrolled_of u) (λ r. (held (frame_unrolled_of u) r t).met t ≡ false) → AreSwept u (t + 1) old (forget s t)
  passed_by not = record {
    well = forget_well old s t a.well;
    sweep = sweep_forgets;
    own = own_keeps u old old s (forget s t) a.own (grew_none old) refl refl;
    named = a.named;
    room = room_past (frame_unrolled_of u) old (point_at (frame_unrolled_of u) t) (drop (t + 1) (frame_unrolled_of u).points) room;
    shows = λ r k e.
        let f = frame_unrolled_of u in
        let x = part_reading f r in
        let q = a.shows r k e in
        let same : held f r (t + 1) ≡ held f r t = ap (held f r) (sym (next t)) ∙ held_next f r t ∙ passed f r t (held f r t) (not r k e) in (
          q.0,
          subst (λ (y : Held). IsLike f q.0 y) (sym same) q.1,
          subst (λ (n : ℕ). ShowsAll old (forget s t) n x q.0) (next t) (forget_all old s t x q.0 q.2),
        );
  }

  -- a place that has no terms is not met
  pub none_met : slice_get s.states.items t ≡ Some None → UnderAll (frame_unrolled_of u) (λ r. (held (frame_unrolled_of u) r t).met t ≡ false)
  none_met e r k p = elim (truth ((held (frame_unrolled_of u) r t).met t)) [
    | inl m ↦ (let q = a.shows r k p in
        let c = q.2.shows.carries t (omega arith) place (met_like q.1 t ∙ m) in absurd (no c.names (sym e ∙ c.is)))
    | inr m ↦ m
  ]
    where
      no : (n : Names) → Some None ≡ Some (Some n) → ⊥
      no n e = cc

  -- nor is one whose bit is 0
  pub zero_met : (met : Term) → met ≡ get_or s.met.items t met → ((x : TermReading) → term_word x old met.0 ≡ 0) →
      UnderAll (frame_unrolled_of u) (λ r. (held (frame_unrolled_of u) r t).met t ≡ false)
  zero_met met at none r k p =
      let x = part_reading (frame_unrolled_of u) r in
      let is : met.0 ≡ term_at s.met.items t = ap (λ q. q.0) (at ∙ other_default s.met.items t met (record { 0 = 0 }) place) in
      let q = a.shows r k p in
      sym (met_like q.1 t) ∙ bit_false (q.0.met t) (sym (q.2.shows.mets t place) ∙ ap (term_word x old) (sym is) ∙ none x)

  -- the terms of a place are what is carried to it
  pub carried_there : (n : Names) → slice_get s.states.items t ≡ Some (Some n) → CarriesIn (frame_unrolled_of u) t old n
  carried_there n has =
      let terms = a.well.states t n has in
      let f = for_same (inputs_of (frame_unrolled_of u)) s.entry n a.sweep.form terms.same in
      record {
        form = f;
        names = names_for (inputs_of (frame_unrolled_of u)) old n f terms.names;
        denotes = λ r i e met.
            let x = part_reading (frame_unrolled_of u) r in
            let k = a.shows r i e in
            let c = k.2.shows.carries t (omega arith) place (met_like k.1 t ∙ met) in (
              k.0.carried t,
              ap (λ (h : Held). h.carried t) k.1.low,
              λ none. ap (λ (h : Held). h.carried t) (k.1.exact none),
              denotes_for (inputs_of (frame_unrolled_of u)) old n f x (carried (k.0.carried t))
                  (subst (λ (q : Names). Denotes (form_of q) old x (names_of q) (carried (k.0.carried t))) (sym (same_names n c.names (sym has ∙ c.is))) c.denotes),
            );
      }

  -- where the point is handled
  pub handled_by : (new : List TermNode) (z : Sweep) (n : Names) → slice_get s.states.items t ≡ Some (Some n) → IsPassed u old new (forget s t) z t n →
      AreSwept u (t + 1) new z
  handled_by new z n has k = record {
    well = k.well;
    sweep = k.sweep;
    own = k.own;
    named = named_on (frame_unrolled_of u) u.heads old new (IsNamedBelow (frame_unrolled_of u) u.heads 0) (λ m i c. c) k.inputs a.named;
    room = room_on (frame_unrolled_of u) old new (point_at (frame_unrolled_of u) t) (drop (t + 1) (frame_unrolled_of u).points) room k.grew;
    shows = λ r i e.
        let x = part_reading (frame_unrolled_of u) r in
        let f = frame_unrolled_of u in
        let p = a.shows r i e in
        let h = p.0 in
        let y = k.shows r i e h (forget_all old s t x h p.2)
        (λ m. let c = p.2.shows.carries t (omega arith) place m in
        subst (λ (q : Names). Denotes (form_of q) old x (names_of q) (carried (h.carried t))) (sym (same_names n c.names (sym has ∙ c.is))) c.denotes) in
        let same : held f r (t + 1) ≡ sweep_on f r t (held f r t) = ap (held f r) (sym (next t)) ∙ held_next f r t in (
          y.0,
          subst (λ (q : Held). IsLike f y.0 q) (sym same) (like_on f y.0 (sweep_on f r t h) (sweep_on f r t (held f r t)) y.1
              (like_next f r t h (held f r t) p.1)),
          subst (λ (q : ℕ). ShowsAll new z q x y.0) (next t) y.2,
        );
  }

-- when all places are handled
pub swept_passive : (u : Unrolled) (t : ℕ) (p : Passive) (s : Sweep) → p.unrolled.now ≡ u → p.met.items ≡ s.met.items → p.fails ≡ s.fails → p.steps ≡ s.steps →
    p.turns ≡ s.turns →
    length u.points.items ≤ t → t ≤ length u.points.items →
    AreSwept u t p.dag s → ((i : ℕ) → i < t → (names : Option Names) × AreCarriedIn (frame_unrolled_of u) i p.dag names) → IsPassiveIn u p
swept_passive u t p s of met fails steps turns above below a states = record {
  of = of;
  states = λ i l. states i (omega (arith, l, above));
  tells = record {
    terms = record {
      typed = a.well.typed;
      named = a.named;
      gates = (let g = all_gates (frame_unrolled_of u) p.dag none in omega (arith, g));
      loads = all_loads (frame_unrolled_of u) p.dag none;
      stores = all_stores (frame_unrolled_of u) p.dag none;
      joins = all_joins (frame_unrolled_of u) p.dag none;
      few = all_few (frame_unrolled_of u) p.dag none;
    };
    count = count;
    bits = λ i l. subst (HasWidth p.dag 1) (sym (at i (within i l))) (a.well.bits i (within i l));
    fails_bit = subst (λ (q : Term). HasWidth p.dag 1 q.0) (sym fails) a.well.fails;
    steps_bit = subst (λ (q : Term). HasWidth p.dag 1 q.0) (sym steps) a.well.steps;
    turns_bit = subst (λ (q : Term). HasWidth p.dag 1 q.0) (sym turns) a.well.turns;
    mets = λ r k e i l.
        let x = part_reading (frame_unrolled_of u) r in
        subst (λ (b : Bool). Tells p.dag x (slice_index (map (λ q. q.0) p.met.items) i) b) (met_like (like r k e) i)
        (subst (λ (q : ℕ). Tells p.dag x q ((a.shows r k e).0.met i)) (sym (at i (within i l))) ((a.shows r k e).2.shows.mets i (within i l)));
    failing = λ r k e.
        let x = part_reading (frame_unrolled_of u) r in
        subst (λ (b : Bool). Tells p.dag x p.fails.0 b) (ap (λ (h : Held). h.fails) (like r k e).low)
        (subst (λ (q : Term). Tells p.dag x q.0 (a.shows r k e).0.fails) (sym fails) (a.shows r k e).2.shows.failing);
    stepping = λ r k e.
        let x = part_reading (frame_unrolled_of u) r in
        subst (λ (b : Bool). Tells p.dag x p.steps.0 b) (ap (λ (h : Held). h.steps) (like r k e).low)
        (subst (λ (q : Term). Tells p.dag x q.0 (a.shows r k e).0.steps) (sym steps) (a.shows r k e).2.stepping);
    turning = λ r k e.
        let x = part_reading (frame_unrolled_of u) r in
        subst (λ (b : Bool). Tells p.dag x p.turns.0 b) (ap (λ (h : Held). h.turns) (like r k e).low)
        (subst (λ (q : Term). Tells p.dag x q.0 (a.shows r k e).0.turns) (sym turns) (a.shows r k e).2.shows.turning);
  };
}
  where
    last : t ≡ length (frame_unrolled_of u).points
    last = omega (arith, above, below, framed_length u u.points.items)

    none : LeaveRoom (frame_unrolled_of u) p.dag []
    none = subst (LeaveRoom (frame_unrolled_of u) p.dag) (drop_all (frame_unrolled_of u).points t (omega (arith, last))) a.room

    like : (r : Reading) (k : IsReading r) (e : r.state.pc ≡ u.entry) →
        IsLike (frame_unrolled_of u) (a.shows r k e).0 (held (frame_unrolled_of u) r (length (frame_unrolled_of u).points))
    like r k e = subst (λ (n : ℕ). IsLike (frame_unrolled_of u) (a.shows r k e).0 (held (frame_unrolled_of u) r n)) last (a.shows r k e).1

    within : (i : ℕ) → i < length (frame_unrolled_of u).points → i < length s.met.items
    within i l = omega (arith, l, a.sweep.places, framed_length u u.points.items)

    at : (i : ℕ) → i < length s.met.items → slice_index (map (λ q. q.0) p.met.items) i ≡ term_at s.met.items i
    at i l = ap (λ (z : List Term). slice_index (map (λ q. q.0) z) i) met ∙ get_or-map (λ (q : Term). q.0) s.met.items i (record { 0 = 0 }) 0 l

    count : length (map (λ (q : Term). q.0) p.met.items) ≡ length (frame_unrolled_of u).points
    count = length-map p.met.items (λ q. q.0) ∙ ap (λ (z : List Term). length z) met ∙ a.sweep.places ∙ sym (framed_length u u.points.items)
