-- The lines that are judged at a place of a walk are those that are judged at the address.
use Rattle.std.proofs.Common.{◌≡◌, inl, inr, ℕ, zero, suc, refl, ap, sym, ◌∙◌, subst, arith, List, [], ◌∷◌, Option, Some, None, Bool, true, false}
use Rattle.std.specs.Prelude.{Contains, ◌==◌, ◌&&◌, ◌||◌, not, if◌then◌else◌, filter}
use Rattle.word_spec.specs.Memory.{Endian}
use Rattle.word_spec.specs.State.{State}
use Rattle.machine_spec.specs.Endings.{AssertFails}
use Rattle.bilv_spec.specs.Notes.{Expr, Assert, value, is_true}
use Rattle.bilv_spec.specs.LiveFlags.{names_flag, asserts_flag}
use Rattle.bilv_spec.specs.Run.{Program, false_assert}
use Rattle.bilv_spec.proofs.Pigeons.{truth}
use Rattle.bilv_spec.proofs.PointSteps.{here, there, and_both}
use Rattle.bilv_spec.proofs.PointTests.{not_any}
use Rattle.walk_spec.proofs.WalkSteps.{IsAlike, false_line_same}
use Rattle.frame_spec.specs.Frames.{Frame, OfStep, InvariantFails, Content, Contract, content_at, event_of, line_event, is_head, is_invariant, invariants_of}
use Rattle.frame_spec.specs.FramePoints.{Point, is_entry}
use Rattle.frame_spec.specs.FrameWalk.{Check, check_event, false_check}
use Rattle.frame_spec.specs.FrameUnrolling.{IsRead, by_assert, IsCarriedOf, checks_by, checks_at, checks_of}

abbrev none_if : Bool → Option ℕ
none_if b = if b then None else Some 0

decided : (b c : Bool) → none_if b ≡ none_if c → b ≡ c
decided true true h = refl
decided false false h = refl
decided true false h = absurd (cc)
decided false true h = absurd (cc)

or_none : (b : Bool) → (b || false) ≡ true → b ≡ true
or_none true e = refl
or_none false e = e

-- a line is true in two states alike
line_same : (e : Endian) (x : Expr) (s t entry : State) → IsAlike (λ n. names_flag n x ≡ true) s t →
    is_true (value e x s entry) ≡ is_true (value e x t entry)
line_same e x s t entry a =
    decided (is_true (value e x s entry)) (is_true (value e x t entry))
    (false_line_same e (record { line = 0; says = x } ∷ []) s t entry
    (record { pc = a.pc; regs = a.regs; mem = a.mem; flags = λ n h. a.flags n (or_none (names_flag n x) h) }))

-- an assert line of the address that names the flag is one by which it is read there
flag_read : (p : Program) (n a : ℕ) (x : Assert) → Contains p.notes.asserts x → (x.at == a) ≡ true → names_flag n x.says ≡ true → asserts_flag p n a ≡ true
flag_read p n a x c t h = elim (truth (asserts_flag p n a)) [
  | inl y ↦ y
  | inr off ↦ absurd (not_any (λ z. (z.at == a) && names_flag n z.says) p.notes.asserts off x c (ap (λ z. z && names_flag n x.says) t ∙ h))
]

-- what is false of the walk's lines and of the run's
abbrev pub SameLine : Frame → Option Check → Option ℕ → Type 0
SameLine f None None = Unit {0}
SameLine f (Some x) (Some line) = check_event x ≡ event_of f (AssertFails line)
SameLine f x y = ⊥

by_kind : (b : Bool) (n : ℕ) → (if b then InvariantFails n else OfStep (AssertFails n)) ≡ line_event b n
by_kind true n = refl
by_kind false n = refl

module _ (f : Frame) (e : Endian) (entry now old : State) (test : Assert → Bool) where
  abbrev its : Assert → Check
  its x = record { line = x.line; invariant = is_invariant f x; says = x.says }

  abbrev here_false : Assert → Bool
  here_false x = (x.at == old.pc) && not (is_true (value e x.says old entry))

  tested : (x : Assert) (o : Option Check) (q : Option ℕ) → SameLine f o q → (a b at : Bool) → a ≡ b → at ≡ true →
      SameLine f (if a then o else Some (its x)) (if at && not b then Some x.line else q)
  tested x o q h true true true s t = h
  tested x o q h false false true s t = by_kind (is_invariant f x) x.line
  tested x o q h true false at s t = absurd (cc)
  tested x o q h false true at s t = absurd (cc)
  tested x o q h a b false s t = absurd (cc)

  judged_by : (x : Assert) (l : List Assert) (b : Bool) →
      (b ≡ true → ((x.at == old.pc) ≡ true) × (is_true (value e x.says now entry) ≡ is_true (value e x.says old entry))) →
      (b ≡ false → here_false x ≡ false) →
      SameLine f (false_check e (checks_by f (filter test l)) now entry) (false_assert e l old entry) →
      SameLine f (false_check e (checks_by f (if b then x ∷ filter test l else filter test l)) now entry)
      (if here_false x then Some x.line else false_assert e l old entry)
  judged_by x l true g h rest =
      let v = g refl in
      tested x (false_check e (checks_by f (filter test l)) now entry) (false_assert e l old entry) rest
      (is_true (value e x.says now entry)) (is_true (value e x.says old entry)) (x.at == old.pc) v.1 v.0
  judged_by x l false g h rest =
      subst (λ (z : Bool). SameLine f (false_check e (checks_by f (filter test l)) now entry) (if z then Some x.line else false_assert e l old entry))
      (sym (h refl)) rest

  -- the lines that pass the test are the address's, and those that do not are true
  judged : (l : List Assert) →
      ((x : Assert) → Contains l x → test x ≡ true →
      ((x.at == old.pc) ≡ true) × (is_true (value e x.says now entry) ≡ is_true (value e x.says old entry))) →
      ((x : Assert) → Contains l x → test x ≡ false → here_false x ≡ false) →
      SameLine f (false_check e (checks_by f (filter test l)) now entry) (false_assert e l old entry)
  judged [] g h = tt
  judged (x ∷ l) g h =
      judged_by x l (test x) (g x (here x l)) (h x (here x l)) (judged l (λ y c. g y (there x l y c)) (λ y c. h y (there x l y c)))

-- an invariant is true where all are
module _ (f : Frame) (e : Endian) (entry old : State) where
  abbrev fails : Assert → Bool
  fails x = (x.at == old.pc) && not (is_true (value e x.says old entry))

  none_first : (b : Bool) (line : ℕ) (o : Option ℕ) → (if b then Some line else o) ≡ None → (b ≡ false) × (o ≡ None)
  none_first true line o h = absurd (cc)
  none_first false line o h = (refl, h)

  holds_by : (a : Assert) (l : List Assert) (b : Bool) → is_invariant f a ≡ b →
      false_assert e (if b then a ∷ invariants_of f l else invariants_of f l) old entry ≡ None → (x : Assert) → Contains (a ∷ l) x →
      is_invariant f x ≡ true → (false_assert e (invariants_of f l) old entry ≡ None → Contains l x → fails x ≡ false) → fails x ≡ false
  holds_by a l true i h x (zero, m, q) t g =
      ap fails (sym q) ∙ (none_first (fails a) a.line (false_assert e (invariants_of f l) old entry) h).0
  holds_by a l false i h x (zero, m, q) t g = absurd (let c : false ≡ true = sym i ∙ ap (is_invariant f) q ∙ t in cc)
  holds_by a l true i h x (suc n, m, q) t g =
      g (none_first (fails a) a.line (false_assert e (invariants_of f l) old entry) h).1 (n, omega arith, q)
  holds_by a l false i h x (suc n, m, q) t g = g h (n, omega arith, q)

  pub holds : (l : List Assert) → false_assert e (invariants_of f l) old entry ≡ None → (x : Assert) → Contains l x → is_invariant f x ≡ true →
      fails x ≡ false
  holds [] h x (n, m, q) t = absurd (omega arith)
  holds (a ∷ l) h x c t = holds_by a l (is_invariant f a) refl h x c t (λ g i. holds l g x i t)

-- what is carried to a point judges its lines as the state does
module _ (f : Frame) (contracts : List Contract) (entry old : State) (c : Content)
    (carried : IsCarriedOf (λ g. IsRead f.program contracts g old.pc) old c) where
  abbrev e : Endian
  e = f.program.machine.endian

  abbrev asserts : List Assert
  asserts = f.program.notes.asserts

  abbrev now : State
  now = content_at c old.pc

  line_here : (x : Assert) → Contains asserts x → (x.at == old.pc) ≡ true → is_true (value e x.says now entry) ≡ is_true (value e x.says old entry)
  line_here x i t =
      line_same e x.says now old entry (record {
        pc = refl;
        regs = carried.regs;
        mem = carried.mem;
        flags = λ n h. carried.flags n (by_assert (flag_read f.program n old.pc x i t h));
      })

  and_false : (a : Bool) → (a && false) ≡ false
  and_false true = refl
  and_false false = refl

  off_here : (x : Assert) → (x.at == old.pc) ≡ false → ((x.at == old.pc) && not (is_true (value e x.says old entry))) ≡ false
  off_here x h = ap (λ z. z && not (is_true (value e x.says old entry))) h

  -- all lines of an address
  pub at_address : SameLine f (false_check e (checks_at f old.pc) now entry) (false_assert e asserts old entry)
  at_address = judged f e entry now old (λ x. x.at == old.pc) asserts (λ x i t. (t, line_here x i t)) (λ x i t. off_here x t)

  module _ (q : Point) (at : q.at ≡ old.pc)
      (assured : is_head f q.at ≡ true → is_entry q.anchor ≡ false → false_assert e (invariants_of f asserts) old entry ≡ None) where
    abbrev test : Assert → Bool
    test x = (x.at == q.at) && not (is_head f q.at && not (is_entry q.anchor) && is_invariant f x)

    is_here : (x : Assert) → (x.at == q.at) ≡ true → (x.at == old.pc) ≡ true
    is_here x t = ap (λ z. x.at == z) (sym at) ∙ t

    skipped : (a b i : Bool) → not (a && not b && i) ≡ false → (a ≡ true) × (b ≡ false) × (i ≡ true)
    skipped true false true h = (refl, refl, refl)
    skipped true false false h = absurd (cc)
    skipped true true i h = absurd (cc)
    skipped false b i h = absurd (cc)

    not_judged : (x : Assert) → Contains asserts x → (b : Bool) → (x.at == q.at) ≡ b →
        (b && not (is_head f q.at && not (is_entry q.anchor) && is_invariant f x)) ≡ false →
        ((x.at == old.pc) && not (is_true (value e x.says old entry))) ≡ false
    not_judged x i false t h = off_here x (ap (λ z. x.at == z) (sym at) ∙ t)
    not_judged x i true t h =
        let s = skipped (is_head f q.at) (is_entry q.anchor) (is_invariant f x) h in
        holds f e entry old asserts (assured s.0 s.1) x i s.2

    -- the lines at a point, where at the first one of a head the invariants are true
    pub at_point : SameLine f (false_check e (checks_of f q) now entry) (false_assert e asserts old entry)
    at_point =
        judged f e entry now old test asserts
        (λ x i t. (let h = is_here x (and_both (x.at == q.at) (not (is_head f q.at && not (is_entry q.anchor) && is_invariant f x)) t).0 in
        (h, line_here x i h)))
        (λ x i t. not_judged x i (x.at == q.at) refl t)
