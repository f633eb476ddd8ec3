-- What contract steps may change, by the deeds of points, and as numbers in sets.
use Rattle.std.proofs.Common.{◌≡◌, ◌⊎◌, inl, inr, refl, ap, sym, ◌∙◌, subst, arith, ℕ, zero, suc, ◌+◌, ◌-◌, ◌<◌, ◌≤◌, [], ◌∷◌, List, Option, Some, None, Bool, true, false, length}
use Rattle.std.specs.Prelude.{◌&&◌, ◌||◌, filter, map, nat_eq, nat_le, nat_lt, slice_index_or, if◌then◌else◌}
use Rattle.std.specs.Global.{Vec}
use Rattle.std.specs.List.{list_any}
use Rattle.std.proofs.lemmas.Bool.{cases_lt}
use Rattle.std.proofs.lemmas.Bool.Decides.{nat_tests}
use Rattle.word_spec.specs.RowFiles.{from_to}
use Rattle.bilv_spec.proofs.Pigeons.{truth}
use Rattle.frame_spec.specs.FrameWalk as walks
use Rattle.frame_spec.specs.FrameWalk.{Action, Executes, Arrives, StepsOver, Gift, UnrolledProgram, point_at}
use Rattle.frame_terms.specs.PassiveFrames.{IsGiftAt}
use Rattle.frame_terms.proofs.WrittenGifts.{kept_range}
use Rattle.bil_ast.specs.declared.statements.Stmt.{Stmt}
use Rattle.notes_value.specs.declared.notes.Contract.{Contract}
use Rattle.notes_value.specs.FrameViews.{contract_of, is_in}
use Rattle.question_form.specs.declared.unrolled.Deed.{Deed}
use Rattle.question_form.specs.declared.unrolled.Deed.TheVariants as deeds
use Rattle.question_form.specs.declared.unrolled.Point.{Point}
use Rattle.question_form.specs.declared.unrolled.Unrolled.{Unrolled}
use Rattle.question_form.specs.FrameViews.{action_of, frame_unrolled_of, gift_of, is_contract, list_of, no_contract, point_of, points_of, stepped_at, top_of}
use Rattle.question_form.specs.Views.{code_of}
use Rattle.unroller.specs.RootPoints.{no_point}
use Rattle.bit_blast.proofs.StepChoices.{any_default}
use Rattle.bit_blast.specs.declared.input_places.InputPlaces.{InputPlaces}
use Rattle.frame_start.specs.declared.changed.Changed.{Changed}
use Rattle.frame_start.specs.Changes.{AreChanges, changed_flags, changed_registers, is_given}
use Rattle.frame_start.proofs.ChosenSteps.{points_long}

-- ---- numbers in sets

any_if : (b : Bool) (n a : ℕ) (rest : List ℕ) → list_any (nat_eq n) (if b then a ∷ rest else rest) ≡ ((b && nat_eq n a) || list_any (nat_eq n) rest)
any_if true n a rest = refl
any_if false n a rest = refl

none_and : (b : Bool) → (b && false) ≡ false
none_and true = refl
none_and false = refl

or_true : (b : Bool) → (b && true) ≡ b
or_true true = refl
or_true false = refl

or_none : (b : Bool) → (b || false) ≡ b
or_none true = refl
or_none false = refl

module _ (p : ℕ → Bool) where
  absent : (a k n : ℕ) → (n < a) ⊎ (a + k ≤ n) → list_any (nat_eq n) (filter p (from_to a k)) ≡ false
  absent a zero n h = refl
  absent a (suc k) n h =
      any_if (p a) n a (filter p (from_to (a + 1) k))
      ∙ ap (λ z. (p a && z) || list_any (nat_eq n) (filter p (from_to (a + 1) k))) (differs h)
      ∙ ap (λ z. z || list_any (nat_eq n) (filter p (from_to (a + 1) k))) (none_and (p a))
      ∙ absent (a + 1) k n (further h)
    where
      differs : (n < a) ⊎ (a + suc k ≤ n) → nat_eq n a ≡ false
      differs (inl l) = grind (arith, nat_tests)
      differs (inr l) = grind (arith, nat_tests)

      further : (n < a) ⊎ (a + suc k ≤ n) → (n < a + 1) ⊎ (a + 1 + k ≤ n)
      further (inl l) = inl (omega arith)
      further (inr l) = inr (omega arith)

  member : (a k n : ℕ) → a ≤ n → n < a + k → list_any (nat_eq n) (filter p (from_to a k)) ≡ p n
  member a zero n l m = absurd (omega arith)
  member a (suc k) n l m = any_if (p a) n a (filter p (from_to (a + 1) k)) ∙ elim (truth (nat_eq n a)) [
    | inl t ↦ (let e : a ≡ n = grind (arith, nat_tests) in
        ap (λ z. (p a && z) || list_any (nat_eq n) (filter p (from_to (a + 1) k))) t
        ∙ ap (λ z. z || list_any (nat_eq n) (filter p (from_to (a + 1) k))) (or_true (p a))
        ∙ ap (λ z. p a || z) (absent (a + 1) k n (inl (omega arith)))
        ∙ or_none (p a) ∙ ap p e)
    | inr g ↦ (let f : (n ≡ a → ⊥) = grind (arith, nat_tests) in
        ap (λ z. (p a && z) || list_any (nat_eq n) (filter p (from_to (a + 1) k))) g
        ∙ ap (λ z. z || list_any (nat_eq n) (filter p (from_to (a + 1) k))) (none_and (p a))
        ∙ member (a + 1) k n (omega arith) (omega arith))
  ]

in_set : (s k n : ℕ) → n < k → list_any (nat_eq n) (filter (is_in s) (from_to 0 k)) ≡ is_in s n
in_set s k n l = member (is_in s) 0 k n (omega arith) (omega arith)

off_set : (s k n : ℕ) → k ≤ n → list_any (nat_eq n) (filter (is_in s) (from_to 0 k)) ≡ false
off_set s k n l = absent (is_in s) 0 k n (inr (omega arith))

pub registers_are : (x : Changed) → changed_registers x ≡ filter (is_in x.registers) (from_to 0 32)
unfolding changed_registers
registers_are x = refl

pub flags_are : (x : Changed) → changed_flags x ≡ filter (is_in x.flags) (from_to 0 4)
unfolding changed_flags
flags_are x = refl

pub register_in : (x : Changed) (n : ℕ) → n < 32 → list_any (nat_eq n) (changed_registers x) ≡ is_in x.registers n
register_in x n l = ap (list_any (nat_eq n)) (registers_are x) ∙ in_set x.registers 32 n l

pub register_off : (x : Changed) (n : ℕ) → 32 ≤ n → list_any (nat_eq n) (changed_registers x) ≡ false
register_off x n l = ap (list_any (nat_eq n)) (registers_are x) ∙ off_set x.registers 32 n l

pub flag_in : (x : Changed) (n : ℕ) → n < 4 → list_any (nat_eq n) (changed_flags x) ≡ is_in x.flags n
flag_in x n l = ap (list_any (nat_eq n)) (flags_are x) ∙ in_set x.flags 4 n l

pub flag_off : (x : Changed) (n : ℕ) → 4 ≤ n → list_any (nat_eq n) (changed_flags x) ≡ false
flag_off x n l = ap (list_any (nat_eq n)) (flags_are x) ∙ off_set x.flags 4 n l

-- ---- registers of the frame

pub given_of : (p : InputPlaces) (registers : List ℕ) (n : ℕ) → p.first_register ≤ n → n < p.first_register + p.registers →
    list_any (nat_eq n) registers ≡ true → is_given p registers n ≡ true
given_of p registers n l m e =
    let a : nat_le p.first_register n ≡ true = grind (arith, nat_tests) in
    let b : nat_lt (n - p.first_register) p.registers ≡ true = grind (arith, nat_tests) in rw (a, b) e

pub record IsGivenBy (p : InputPlaces) (registers : List ℕ) (n : ℕ) : Type 0 where
  pub low : p.first_register ≤ n
  pub high : n < p.first_register + p.registers
  pub is_in : list_any (nat_eq n) registers ≡ true

three : (a b c : Bool) → (a && (b && c)) ≡ true → (a ≡ true) × (b ≡ true) × (c ≡ true)
three true true true h = (refl, refl, refl)
three true true false h = absurd (let e : false ≡ true = h in cc)
three true false c h = absurd (let e : false ≡ true = h in cc)
three false b c h = absurd (let e : false ≡ true = h in cc)

pub given_by : (p : InputPlaces) (registers : List ℕ) (n : ℕ) → is_given p registers n ≡ true → IsGivenBy p registers n
given_by p registers n h =
    let q = three (nat_le p.first_register n) (nat_lt (n - p.first_register) p.registers) (list_any (nat_eq n) registers) h in
    let a = q.0 in
    let b = q.1 in
    let l : p.first_register ≤ n = grind (arith, nat_tests) in
    let m : n - p.first_register < p.registers = grind (arith, nat_tests) in
    record { low = l; high = omega arith; is_in = q.2 }

pub filter_same : (f g : ℕ → Bool) (a k : ℕ) → ((n : ℕ) → a ≤ n → n < a + k → f n ≡ g n) → filter f (from_to a k) ≡ filter g (from_to a k)
filter_same f g a zero h = refl
filter_same f g a (suc k) h =
    ap (λ b. if b then a ∷ filter f (from_to (a + 1) k) else filter f (from_to (a + 1) k)) (h a (omega arith) (omega arith))
    ∙ ap (λ (z : List ℕ). if g a then a ∷ z else z) (filter_same f g (a + 1) k (λ n l m. h n (omega arith) (omega arith)))

-- they are below 32
pub given_low : (p : InputPlaces) (x : Changed) (n : ℕ) → is_given p (changed_registers x) n ≡ true → n < 32
given_low p x n t = elim (truth (nat_lt n 32)) [
  | inl l ↦ grind (arith, nat_tests)
  | inr g ↦ (let far : 32 ≤ n = grind (arith, nat_tests) in
      absurd (let e : true ≡ false = sym (given_by p (changed_registers x) n t).is_in ∙ register_off x n far in cc))
]

-- the registers of a set that the frame has, in its order
pub given_registers : (p : InputPlaces) (x : Changed) → filter (is_given p (changed_registers x)) (from_to 0 32)
    ≡ filter (λ r. list_any (nat_eq r) (changed_registers x)) (from_to p.first_register p.registers)
given_registers p x =
    sym (kept_range (is_given p (changed_registers x)) 0 32 (32 + p.first_register + p.registers)
    (λ n t. (omega arith, (let l = given_low p x n t in omega arith))) (λ n l m. omega arith))
    ∙ kept_range (is_given p (changed_registers x)) p.first_register p.registers (32 + p.first_register + p.registers)
    (λ n t. (let q = given_by p (changed_registers x) n t in (q.low, q.high))) (λ n l m. omega arith)
    ∙ filter_same (is_given p (changed_registers x)) (λ r. list_any (nat_eq r) (changed_registers x)) p.first_register p.registers (λ n l m.
    (let a : nat_le p.first_register n ≡ true = grind (arith, nat_tests) in
    let b : nat_lt (n - p.first_register) p.registers ≡ true = grind (arith, nat_tests) in
    ap (λ z. z && (nat_lt (n - p.first_register) p.registers && list_any (nat_eq n) (changed_registers x))) a
    ∙ ap (λ z. z && list_any (nat_eq n) (changed_registers x)) b))

-- ---- contracts by their numbers

pub stepped_in : (xs : List Contract) (i : ℕ) (d : Contract) → i < length xs → slice_index_or (map contract_of xs) i no_contract ≡ contract_of (slice_index_or xs i d)
stepped_in [] i d l = absurd (omega arith)
stepped_in (x ∷ xs) zero d l = refl
stepped_in (x ∷ xs) (suc i) d l = stepped_in xs i d (omega arith)

pub stepped_out : (xs : List Contract) (i : ℕ) → length xs ≤ i → slice_index_or (map contract_of xs) i no_contract ≡ no_contract
stepped_out [] i l = refl
stepped_out (x ∷ xs) zero l = absurd (omega arith)
stepped_out (x ∷ xs) (suc i) l = stepped_out xs i (omega arith)

-- ---- deeds

pub deed_is : (points : List Point) (i : ℕ) (q : Point) (deed : Deed) → i < length points → q ≡ slice_index_or points i q → q.deed ≡ deed →
    (slice_index_or points i no_point).deed ≡ deed
deed_is points i q deed l own e = ap (λ (p : Point). p.deed) (any_default points i no_point q l) ∙ sym (ap (λ (p : Point). p.deed) own) ∙ e

pub steps_next : (points : List Point) (i : ℕ) (q : Point) → i < length points → q ≡ slice_index_or points i q → is_contract q.deed ≡ false →
    ((j : ℕ) → j < i → is_contract (slice_index_or points j no_point).deed ≡ false) → (j : ℕ) → j < i + 1 →
    is_contract (slice_index_or points j no_point).deed ≡ false
steps_next points i q l own f h j m = elim (cases_lt j i) [
  | inl k ↦ h j k
  | inr k ↦ (let e : i ≡ j = omega arith in
      subst (λ (n : ℕ). is_contract (slice_index_or points n no_point).deed ≡ false) e (ap is_contract (deed_is points i q q.deed l own refl) ∙ f))
]

module _ (un : Unrolled) where
  pub place_inside : (i : ℕ) (g : Gift) → IsGiftAt (frame_unrolled_of un) i g → i < length un.points.items
  place_inside i g at = let l = at.place in let m = points_long un un.points.items in omega arith

  record IsDone (q : Point) (done : Action) : Type 0 where
    list : Option (Vec Stmt)
    stack : List ℕ
    is : done ≡ action_of un q.deed list stack

  does_at : (points : List Point) (i : ℕ) → i < length points → IsDone (slice_index_or points i no_point) (slice_index_or (points_of un points) i walks.no_point).does
  does_at [] i l = absurd (omega arith)
  does_at (q ∷ rest) zero l = record { list = (code_of un q).list; stack = (point_of un q rest).point.stack; is = refl }
  does_at (q ∷ rest) (suc i) l = does_at rest i (omega arith)

  no_list : (o : Option (Vec Stmt)) (g : Gift) → list_of o ≡ StepsOver g → ⊥
  no_list None g e = absurd (cc)
  no_list (Some v) g e = absurd (cc)

  no_step : (deed : Deed) (list : Option (Vec Stmt)) (stack : List ℕ) (g : Gift) → action_of un deed list stack ≡ StepsOver g → is_contract deed ≡ false → ⊥
  no_step deeds.Row list stack g e f = no_list list g e
  no_step deeds.Arrival list stack g e f = absurd (cc)
  no_step (deeds.Contract n) list stack g e f = absurd (let c : true ≡ false = f in cc)

  pub no_gift_at : (i : ℕ) → i < length un.points.items → is_contract (slice_index_or un.points.items i no_point).deed ≡ false → (g : Gift) →
      IsGiftAt (frame_unrolled_of un) i g → ⊥
  no_gift_at i l f g at =
      let d = does_at un.points.items i l in no_step (slice_index_or un.points.items i no_point).deed d.list d.stack g (sym d.is ∙ at.does) f

  pub changes_are : (i : ℕ) → i < length un.points.items → (n : ℕ) → (slice_index_or un.points.items i no_point).deed ≡ deeds.Contract n → (x : Changed) →
      (stepped_at un n).registers ≡ changed_registers x → (stepped_at un n).flags ≡ changed_flags x → AreChanges (frame_unrolled_of un) i (Some x)
  changes_are i l n e x registers flags =
      let d = does_at un.points.items i l in (
        gift_of (stepped_at un n) (top_of d.stack),
        record {
          place = (let m = points_long un un.points.items in omega arith);
          does = d.is ∙ ap (λ z. action_of un z d.list d.stack) e;
        },
        registers,
        flags,
      )

  pub is_step : (i : ℕ) (g : Gift) → IsGiftAt (frame_unrolled_of un) i g → is_contract (slice_index_or un.points.items i no_point).deed ≡ true
  is_step i g at = elim (truth (is_contract (slice_index_or un.points.items i no_point).deed)) [
    | inl t ↦ t
    | inr f ↦ absurd (no_gift_at i (let l = at.place in let m = points_long un un.points.items in omega arith) f g at)
  ]

  gift_made : (deed : Deed) (list : Option (Vec Stmt)) (stack : List ℕ) → is_contract deed ≡ true → (g : Gift) × (action_of un deed list stack ≡ StepsOver g)
  gift_made deeds.Row list stack f = absurd (let c : false ≡ true = f in cc)
  gift_made deeds.Arrival list stack f = absurd (let c : false ≡ true = f in cc)
  gift_made (deeds.Contract n) list stack f = (gift_of (stepped_at un n) (top_of stack), refl)

  pub gift_there : (i : ℕ) → i < length un.points.items → is_contract (slice_index_or un.points.items i no_point).deed ≡ true →
      (g : Gift) × IsGiftAt (frame_unrolled_of un) i g
  gift_there i l t =
      let d = does_at un.points.items i l in
      let m = gift_made (slice_index_or un.points.items i no_point).deed d.list d.stack t in
      (m.0, record { place = (let k = points_long un un.points.items in omega arith); does = d.is ∙ m.1 })

-- one point makes one contract step
same_gift : {x y : Gift} → StepsOver x ≡ StepsOver y → x ≡ y
same_gift e = (cc)

pub one_gift : (u : UnrolledProgram) (i : ℕ) (g h : Gift) → IsGiftAt u i g → IsGiftAt u i h → g ≡ h
one_gift u i g h a b = same_gift (sym a.does ∙ b.does)
