-- What is handed on.
use Rattle.std.proofs.Common.{◌≡◌, ◌≢◌, inl, inr, ◌⊎◌, ℕ, zero, suc, ◌+◌, ◌*◌, ◌<◌, Bool, true, false, List, [], ◌∷◌, Option, Some, length, refl, ap, sym, ◌∙◌, subst, arith, get_or}
use Rattle.std.specs.Prelude.{◌==◌, slice_get, ◌||◌, if◌then◌else◌}
use Rattle.std.proofs.Math.ListN.{set}
use Rattle.std.proofs.lemmas.Option.{slice_get_read}
use Rattle.std.proofs.lemmas.Bool.Decides.{nat_tests}
use Rattle.term_spec.specs.Terms.{TermReading, TermNode, HasWidth, term_word}
use Rattle.walk_spec.specs.Unrolled.{Carried, Walk, WalkIsAt, WalkFails, WalkTurns}
use Rattle.walk_spec.specs.Sweep.{Held, held_if, hand, carried_if}
use Rattle.term_spec.specs.Passive.{AreNames, Denotes, Tells}
use Rattle.term_dag.specs.Made.{Grew}
use Rattle.term_dag.specs.declared.nodes.Term.{Term}
use Rattle.term_dag.proofs.Growth.{grew_on, grew_width, grew_none, inputs_on}
use Rattle.term_names.specs.declared.names.Names.{Names}
use Rattle.term_names.specs.Views.{form_of, names_of}
use Rattle.term_names.specs.Chosen.{at_entry}
use Rattle.passify.specs.declared.sweep.Sweep.{Sweep}
use Rattle.passify.specs.Bits.{Makes, TellsByBoth}
use Rattle.passify.specs.Sweeps.{term_at, AreTermsOf, AreWell, AreCarried, ShowsAt, Steps, Hands, HasEvent, ComesTo, IsJoined, bits_of, terms_of}
use Rattle.passify.proofs.Joined.{form_on}
use Rattle.passify.proofs.Kept.{truth, well_keeps, shows_keep, tells_keep, denotes_keep, terms_keep, well_ends, shows_ends}

failed : (b f : Bool) → (f || b) ≡ (if b then true else f)
failed true true = refl
failed true false = refl
failed false true = refl
failed false false = refl

module _ (old new : List TermNode) (s : Sweep) (hit : ℕ) (t : Term) (w : AreWell old s) where
  pub fail_steps : Makes old new 1 2 1 t.0 (TellsByBoth (λ p q. p || q) old new s.fails.0 hit t.0) → Steps old new s (record s { fails = t }) 1 0 0 0 2 (λ m. ⊥)
  fail_steps k =
      let v = well_keeps k.grew s k.typed w in
      record {
        grew = k.grew;
        inputs = k.inputs;
        well = well_ends new s t s.turns v k.width v.turns;
        like = record
            { entry = refl; pc = refl; at = refl; places = refl; steps = refl; own = refl };
      }

  pub fail_hands : Makes old new 1 2 1 t.0 (TellsByBoth (λ p q. p || q) old new s.fails.0 hit t.0) →
      Hands old new s (record s { fails = t }) hit (λ from x v b. HasEvent v)
  fail_hands k x r from v b (e, is) tells h shows =
      subst (λ (z : Walk). ShowsAt new (record s { fails = t }) from x (held_if b (hand z h) h)) (sym is) (by b tells)
    where
      by : (b : Bool) → Tells old x hit b → ShowsAt new (record s { fails = t }) from x (held_if b (hand (WalkFails e) h) h)
      by b q =
          let kept = shows_keep k.grew s from x h w shows in
          let done = shows_ends new s from x h t s.turns (h.fails || b) h.turns kept (k.holds x r h.fails b shows.failing q) kept.turning in
          last b done
        where
          last : (b : Bool) → ShowsAt new (record s { fails = t }) from x (record h { fails = h.fails || b }) →
              ShowsAt new (record s { fails = t }) from x (held_if b (hand (WalkFails e) h) h)
          last true d = subst (λ (z : Bool). ShowsAt new (record s { fails = t }) from x (record h { fails = z })) (failed true h.fails) d
          last false d = subst (λ (z : Bool). ShowsAt new (record s { fails = t }) from x (record h { fails = z })) (failed false h.fails) d

  pub turn_steps : Makes old new 1 2 1 t.0 (TellsByBoth (λ p q. p || q) old new s.turns.0 hit t.0) → Steps old new s (record s { turns = t }) 1 0 0 0 2 (λ m. ⊥)
  turn_steps k =
      let v = well_keeps k.grew s k.typed w in
      record {
        grew = k.grew;
        inputs = k.inputs;
        well = well_ends new s s.fails t v v.fails k.width;
        like = record
            { entry = refl; pc = refl; at = refl; places = refl; steps = refl; own = refl };
      }

  pub turn_hands : Makes old new 1 2 1 t.0 (TellsByBoth (λ p q. p || q) old new s.turns.0 hit t.0) →
      Hands old new s (record s { turns = t }) hit (λ from x v b. v ≡ WalkTurns)
  turn_hands k x r from v b is tells h shows =
      subst (λ (z : Walk). ShowsAt new (record s { turns = t }) from x (held_if b (hand z h) h)) (sym is) (by b tells)
    where
      by : (b : Bool) → Tells old x hit b → ShowsAt new (record s { turns = t }) from x (held_if b (hand WalkTurns h) h)
      by b q =
          let kept = shows_keep k.grew s from x h w shows in
          let done = shows_ends new s from x h s.fails t h.fails (h.turns || b) kept kept.failing (k.holds x r h.turns b shows.turning q) in
          last b done
        where
          last : (b : Bool) → ShowsAt new (record s { turns = t }) from x (record h { turns = h.turns || b }) →
              ShowsAt new (record s { turns = t }) from x (held_if b (hand WalkTurns h) h)
          last true d = subst (λ (z : Bool). ShowsAt new (record s { turns = t }) from x (record h { turns = z })) (failed true h.turns) d
          last false d = subst (λ (z : Bool). ShowsAt new (record s { turns = t }) from x (record h { turns = z })) (failed false h.turns) d

module _ {X : Type 0} where
  get_same : (xs : List X) (j : ℕ) (x : X) → j < length xs → slice_get (set xs j x) j ≡ Some x
  get_same [] j x h = absurd (omega arith)
  get_same (y ∷ xs) zero x h = refl
  get_same (y ∷ xs) (suc j) x h = get_same xs j x (omega arith)

  get_other : (xs : List X) (i j : ℕ) (x : X) → i ≢ j → slice_get (set xs j x) i ≡ slice_get xs i
  get_other [] i j x h = refl
  get_other (y ∷ xs) zero zero x h = absurd (h refl)
  get_other (y ∷ xs) (suc i) zero x h = refl
  get_other (y ∷ xs) zero (suc j) x h = refl
  get_other (y ∷ xs) (suc i) (suc j) x h = get_other xs i j x (λ e. h (ap suc e))

  set_length : (xs : List X) (j : ℕ) (x : X) → length (set xs j x) ≡ length xs
  set_length [] j x = refl
  set_length (y ∷ xs) zero x = refl
  set_length (y ∷ xs) (suc j) x = ap suc (set_length xs j x)

  read_same : (xs : List X) (j : ℕ) (x d : X) → j < length xs → get_or (set xs j x) j d ≡ x
  read_same [] j x d h = absurd (omega arith)
  read_same (y ∷ xs) zero x d h = refl
  read_same (y ∷ xs) (suc j) x d h = read_same xs j x d (omega arith)

  read_other : (xs : List X) (i j : ℕ) (x d : X) → i ≢ j → get_or (set xs j x) i d ≡ get_or xs i d
  read_other [] i j x d h = refl
  read_other (y ∷ xs) zero zero x d h = absurd (h refl)
  read_other (y ∷ xs) (suc i) zero x d h = refl
  read_other (y ∷ xs) zero (suc j) x d h = refl
  read_other (y ∷ xs) (suc i) (suc j) x d h = read_other xs i j x d (λ e. h (ap suc e))

pub other_default : {X : Type 0} → (xs : List X) (j : ℕ) (a b : X) → j < length xs → get_or xs j a ≡ get_or xs j b
other_default [] j a b h = absurd (omega arith)
other_default (x ∷ xs) zero a b h = refl
other_default (x ∷ xs) (suc j) a b h = other_default xs j a b (omega arith)

or_false : (b : Bool) → (b || false) ≡ b
or_false true = refl
or_false false = refl

or_true : (b : Bool) → (b || true) ≡ true
or_true true = refl
or_true false = refl

pub same_eq : (j : ℕ) → (j == j) ≡ true
same_eq j = grind (arith, nat_tests)

pub not_eq : (i j : ℕ) → i ≢ j → (i == j) ≡ false
not_eq i j n = grind (arith, nat_tests)

some_is : {X : Type 0} → (a b : X) → Some a ≡ Some b → a ≡ b
some_is a b e = cc

-- a place has another bit and other terms
pub record Placed (s z : Sweep) (j : ℕ) (t : Term) (n : Names) : Type 0 where
  pub within : j < length s.met.items
  pub entry : z.entry ≡ s.entry
  pub pc : z.pc ≡ s.pc
  pub at : z.at ≡ s.at
  pub met : z.met.items ≡ set s.met.items j t
  pub states : z.states.items ≡ set s.states.items j (Some n)
  pub fails : z.fails ≡ s.fails
  pub steps : z.steps ≡ s.steps
  pub own : z.own ≡ s.own
  pub turns : z.turns ≡ s.turns

module _ (nodes : List TermNode) (s z : Sweep) (j : ℕ) (t : Term) (n : Names) (p : Placed s z j t n) (w : AreWell nodes s) where
  bit_here : term_at z.met.items j ≡ t.0
  bit_here = ap (λ l. term_at l j) p.met ∙ ap (λ q. q.0) (read_same s.met.items j t (record { 0 = 0 }) p.within)

  bit_there : (i : ℕ) → i ≢ j → term_at z.met.items i ≡ term_at s.met.items i
  bit_there i ne = ap (λ l. term_at l i) p.met ∙ ap (λ q. q.0) (read_other s.met.items i j t (record { 0 = 0 }) ne)

  state_here : slice_get z.states.items j ≡ Some (Some n)
  state_here = ap (λ l. slice_get l j) p.states ∙ get_same s.states.items j (Some n) (let a = w.count in let b = p.within in omega arith)

  state_there : (i : ℕ) → i ≢ j → slice_get z.states.items i ≡ slice_get s.states.items i
  state_there i ne = ap (λ l. slice_get l i) p.states ∙ get_other s.states.items i j (Some n) ne

  met_length : length z.met.items ≡ length s.met.items
  met_length = ap (λ l. length l) p.met ∙ set_length s.met.items j t

  states_length : length z.states.items ≡ length s.states.items
  states_length = ap (λ l. length l) p.states ∙ set_length s.states.items j (Some n)

  same_or : (i : ℕ) → (i ≡ j) ⊎ (i ≢ j)
  same_or i = elim (truth (i == j)) [ inl a ↦ inl (grind (arith, nat_tests)) | inr a ↦ inr (grind (arith, nat_tests)) ]

  pub placed_well : HasWidth nodes 1 t.0 → AreTermsOf s.entry nodes n → AreWell nodes z
  placed_well ht hn = record {
    typed = w.typed;
    entry = subst (λ (e : Names). AreNames (form_of e) nodes (names_of e)) (sym p.entry) w.entry;
    denotes = λ x r. subst (λ (e : Names). Denotes (form_of e) nodes x (names_of e) (at_entry x)) (sym p.entry) (w.denotes x r);
    pc = subst (λ (e : Term). HasWidth nodes 32 e.0) (sym p.pc) w.pc;
    pc_is = λ x. ap (λ (e : Term). term_word x nodes e.0) p.pc ∙ w.pc_is x ∙ sym p.at;
    count = states_length ∙ w.count ∙ sym met_length;
    bits = λ i l. elim (same_or i) [
      | inl e ↦ subst (λ (q : ℕ). HasWidth nodes 1 q) (sym (ap (λ k. term_at z.met.items k) e ∙ bit_here)) ht
      | inr e ↦ subst (λ (q : ℕ). HasWidth nodes 1 q) (sym (bit_there i e)) (w.bits i (subst (λ (q : ℕ). i < q) met_length l))
    ];
    states = λ i m e. elim (same_or i) [
      | inl q ↦ (let f : n ≡ m = some_is n m (some_is (Some n) (Some m) (sym (ap (λ k. slice_get z.states.items k) q ∙ state_here) ∙ e)) in
          subst (λ (k : Names). AreTermsOf k nodes m) (sym p.entry) (subst (AreTermsOf s.entry nodes) f hn))
      | inr q ↦ subst (λ (k : Names). AreTermsOf k nodes m) (sym p.entry) (w.states i m (sym (state_there i q) ∙ e))
    ];
    fails = subst (λ (e : Term). HasWidth nodes 1 e.0) (sym p.fails) w.fails;
    steps = subst (λ (e : Term). HasWidth nodes 1 e.0) (sym p.steps) w.steps;
    turns = subst (λ (e : Term). HasWidth nodes 1 e.0) (sym p.turns) w.turns;
  }

  pub placed_shows : (from : ℕ) (x : TermReading) (h g : Held) → ShowsAt nodes s from x h →
      ((i : ℕ) → i ≢ j → (g.met i ≡ h.met i) × (g.carried i ≡ h.carried i)) → g.fails ≡ h.fails → g.turns ≡ h.turns →
      Tells nodes x t.0 (g.met j) → (g.met j ≡ true → Denotes (form_of n) nodes x (names_of n) (g.carried j)) → ShowsAt nodes z from x g
  placed_shows from x h g k others gf gt bit den = record {
    mets = λ i l. elim (same_or i) [
      | inl e ↦ subst (λ (q : ℕ). Tells nodes x (term_at z.met.items q) (g.met q)) (sym e) (subst (λ (q : ℕ). Tells nodes x q (g.met j)) (sym bit_here) bit)
      | inr e ↦ (subst (λ (q : ℕ). Tells nodes x q (g.met i)) (sym (bit_there i e)) (subst
          (λ (q : Bool). Tells nodes x (term_at s.met.items i) q) (sym (others i e).0) (k.mets i (subst (λ (q : ℕ). i < q) met_length l))))
    ];
    carries = λ i f l m. elim (same_or i) [
      | inl e ↦ subst (λ (q : ℕ). AreCarried nodes x (slice_get z.states.items q) (g.carried q)) (sym e)
          (record { names = n; is = state_here; denotes = den (ap g.met (sym e) ∙ m) })
      | inr e ↦ (subst (λ (q : Option (Option Names)). AreCarried nodes x q (g.carried i)) (sym (state_there i e))
          (subst (λ (q : Carried). AreCarried nodes x (slice_get s.states.items i) q) (sym (others i e).1) (k.carries i f (subst
          (λ (q : ℕ). i < q) met_length l) (sym (others i e).0 ∙ m))))
    ];
    failing = subst (λ (e : Term). Tells nodes x e.0 g.fails) (sym p.fails) (subst (λ (q : Bool). Tells nodes x s.fails.0 q) (sym gf) k.failing);
    turning = subst (λ (e : Term). Tells nodes x e.0 g.turns) (sym p.turns) (subst (λ (q : Bool). Tells nodes x s.turns.0 q) (sym gt) k.turning);
  }

module _ (old mid new : List TermNode) (s z : Sweep) (j hit : ℕ) (t : Term) (m n : Names) (state : Option Names) (w : AreWell old s)
    (at : slice_get s.states.items j ≡ Some state)
    (hm : AreTermsOf s.entry old m) (joined : IsJoined m old mid hit (term_at s.met.items j) m state n) (lh : hit
    < length old) (k : Makes mid new 1 2 1 t.0 (TellsByBoth (λ p q. p || q) mid new (term_at s.met.items j) hit t.0))
    (p : Placed s z j t n) where
  both_grew : Grew old new (bits_of m + 1) (0 + 0) (0 + 0) (1 + 0) (2 * terms_of m + 2)
  both_grew = grew_on old mid new (bits_of m) 0 0 1 (2 * terms_of m) 1 0 0 0 2 joined.grew k.grew

  pub arrive_steps : Steps old new s z (bits_of m + 1) 0 0 1 (2 * terms_of m + 2) (λ q. ⊥)
  arrive_steps = record {
    grew = both_grew;
    inputs = inputs_on old mid new (λ q. ⊥) joined.inputs k.inputs;
    well = placed_well new s z j t n p (well_keeps both_grew s k.typed w) k.width
        (terms_keep k.grew s.entry n (record { same = form_on s.entry m n hm.same joined.terms.same; names = joined.terms.names }));
    like = record { entry = p.entry; pc = p.pc; at = p.at; places = met_length old s z j t n p w; steps = p.steps; own = p.own };
  }

  pub arrive_hands : Hands old new s z hit (ComesTo old m j)
  arrive_hands x r from v b (c, is, later, den) tells h shows =
      subst (λ (q : Walk). ShowsAt new z from x (held_if b (hand q h) h)) (sym is) (by b tells den)
    where
      kept : ShowsAt new s from x h
      kept = shows_keep both_grew s from x h w shows

      was : Tells old x (term_at s.met.items j) (h.met j)
      was = shows.mets j p.within

      bit_is : (b : Bool) → Tells old x hit b → Tells new x t.0 (h.met j || b)
      bit_is b q = k.holds x r (h.met j) b (tells_keep joined.grew x (term_at s.met.items j) (h.met j) (w.bits j p.within).0 was)
          (tells_keep joined.grew x hit b lh q)

      by : (b : Bool) → Tells old x hit b → (b ≡ true → Denotes (form_of m) old x (names_of m) c) → ShowsAt new z from x (held_if b (hand (WalkIsAt j c) h) h)
      by true q d =
          placed_shows new s z j t n p (well_keeps both_grew s k.typed w) from x h (hand (WalkIsAt j c) h) kept
          (λ i ne. (ap (λ y. y || h.met i) (not_eq i j ne), ap (λ y. carried_if y c (h.carried i)) (not_eq i j ne))) refl refl
          (subst (λ (y : Bool). Tells new x t.0 y) (or_true (h.met j) ∙ sym (ap (λ y. y || h.met j) (same_eq j))) (bit_is true q))
          (λ e. subst (λ (y : Carried). Denotes (form_of n) new x (names_of n) y) (sym (ap (λ y. carried_if y c (h.carried j)) (same_eq j)))
          (denotes_keep k.grew x n c joined.terms.names (joined.first x r q c (d refl))))
      by false q d =
          placed_shows new s z j t n p (well_keeps both_grew s k.typed w) from x h h kept (λ i ne. (refl, refl)) refl refl
          (subst (λ (y : Bool). Tells new x t.0 y) (or_false (h.met j)) (bit_is false q))
          (λ e. denotes_keep k.grew x n (h.carried j) joined.terms.names (joined.second x r q (subst
          (λ (y : Bool). Tells old x (term_at s.met.items j) y) e was) (h.carried j) (subst
          (λ (y : Option (Option Names)). AreCarried old x y (h.carried j)) at (shows.carries j later p.within e))))

-- the bit of a place
pub met_bit : (old mid : List TermNode) (s : Sweep) (j : ℕ) (t d : Term) (g l st jn n : ℕ) → AreWell old s → j < length s.met.items →
    t ≡ get_or s.met.items j d → Grew old mid g l st jn n →
    (t.0 ≡ term_at s.met.items j) × HasWidth mid 1 t.0
met_bit old mid s j t d g l st jn n w lt e grew =
    let is : t.0 ≡ term_at s.met.items j = ap (λ q. q.0) (e ∙ other_default s.met.items j d (record { 0 = 0 }) lt) in
    (is, subst (λ (q : ℕ). HasWidth mid 1 q) (sym is) (grew_width old mid g l st jn n 1 (term_at s.met.items j) grew (w.bits j lt)))

-- the step by what was read
pub record Arrived (old mid new : List TermNode) (s : Sweep) (j hit : ℕ) (m n : Names) (here t : Term) (before : Option Names) : Type 0 where
  pub well : AreWell old s
  pub place : j < length s.met.items
  pub within : hit < length old
  pub names : AreTermsOf s.entry old m
  pub met : here ≡ get_or s.met.items j here
  pub state : before ≡ get_or s.states.items j before
  pub joined : IsJoined m old mid hit here.0 m before n
  pub made : Makes mid new 1 2 1 t.0 (TellsByBoth (λ p q. p || q) mid new here.0 hit t.0)

module _ (old mid new : List TermNode) (s z : Sweep) (j hit : ℕ) (names n : Names) (met t : Term) (state : Option Names)
    (a : Arrived old mid new s j hit names n met t state) (p : Placed s z j t n) where
  is_met : met.0 ≡ term_at s.met.items j
  is_met = (met_bit old old s j met met 0 0 0 0 0 a.well a.place a.met (grew_none old)).0

  is_state : slice_get s.states.items j ≡ Some state
  is_state = slice_get_read s.states.items (length s.states.items) j state refl (let x = a.place in let y = a.well.count in omega arith) a.state

  joined_there : IsJoined names old mid hit (term_at s.met.items j) names state n
  joined_there = subst (λ (q : ℕ). IsJoined names old mid hit q names state n) is_met a.joined

  made_there : Makes mid new 1 2 1 t.0 (TellsByBoth (λ p q. p || q) mid new (term_at s.met.items j) hit t.0)
  made_there = subst (λ (q : ℕ). Makes mid new 1 2 1 t.0 (TellsByBoth (λ p q. p || q) mid new q hit t.0)) is_met a.made

  pub arrived_steps : Steps old new s z (bits_of names + 1) 0 0 1 (2 * terms_of names + 2) (λ q. ⊥)
  arrived_steps = arrive_steps old mid new s z j hit t names n state a.well is_state a.names joined_there a.within made_there p

  pub arrived_hands : Hands old new s z hit (ComesTo old names j)
  arrived_hands = arrive_hands old mid new s z j hit t names n state a.well is_state a.names joined_there a.within made_there p
