-- Choices by steps, and the walk that follows them.
use Rattle.std.proofs.Common.{◌≡◌, ℕ, zero, suc, ◌+◌, ◌-◌, ◌<◌, ◌≤◌, Bool, true, false, List, [], ◌∷◌, ◌++◌, length, get_or, refl, ap, sym, ◌∙◌, subst, arith, inl, inr}
use Rattle.std.specs.Prelude.{◌==◌, if◌then◌else◌, All}
use Rattle.std.proofs.lemmas.Bool.{cases_lt}
use Rattle.std.proofs.lemmas.Bool.Decides.{nat_tests}
use Rattle.std.proofs.lemmas.List.Elements.{All-push}
use Rattle.std.proofs.lemmas.List.Quantifiers.{all_pairs_push}
use Rattle.word_spec.specs.Memory.{byte_in}
use Rattle.bilv_spec.specs.Questions.{Reading}
use Rattle.machine_spec.specs.StateText.{AreRising}
use Rattle.walk_spec.specs.Unrolled.{carried_of, UnrolledProgram, point_at, Walk, WalkIsAt, WalkExits, WalkFails, WalkTurns, walk_from, walk_on, walk, ExitsLeadLater}
use Rattle.walk_spec.specs.Sweep.{Held, met_below}
use Rattle.walk_spec.proofs.SweepWalk.{sweep_is_walk}
use Rattle.bit_blast.specs.Steps.{count_met, with_choice, AreChoices}

-- ---- the walk hangs on the choices at the program's points alone

module _ (u : UnrolledProgram) (some : 0 < length u.points) (later : ExitsLeadLater u) (r s : Reading) (states : r.state ≡ s.state)
    (choices : (i : ℕ) → i < length u.points → r.choice (point_at u i).point ≡ s.choice (point_at u i).point) where
  one_step : (n : ℕ) (w : Walk) → walk u r n ≡ w → walk_on u r w ≡ walk_on u s w
  one_step n (WalkIsAt i c) e =
      let l = ((sweep_is_walk u some later r).2 n i c).0 e in
      ap (λ z. walk_from u z (point_at u i) (r.choice (point_at u i).point) c) states ∙ ap (λ z. walk_from u s.state (point_at u i) z c) (choices i l.0)
  one_step n WalkExits e = refl
  one_step n (WalkFails x) e = refl
  one_step n WalkTurns e = refl

  pub walk_same : (n : ℕ) → walk u r n ≡ walk u s n
  unfolding walk
  walk_same zero = ap (λ z. WalkIsAt 0 (carried_of z)) states
  walk_same (suc n) = one_step n (walk u r n) refl ∙ ap (walk_on u s) (walk_same n)

-- ---- counts

pub counts_same : (h : Held) (met : ℕ → Bool) (n : ℕ) → ((i : ℕ) → i < n → met i ≡ h.met i) → count_met met n ≡ met_below h n
counts_same h met zero f = refl
counts_same h met (suc n) f =
    ap (λ z. if z then count_met met n + 1 else count_met met n) (f n (omega arith)) ∙ ap
    (λ z. if h.met n then z + 1 else z) (counts_same h met n (λ i l. f i (omega arith)))

count_up : (met : ℕ → Bool) (n : ℕ) → count_met met n ≤ count_met met (suc n)
count_up met n = by (met n)
  where
    by : (b : Bool) → count_met met n ≤ (if b then count_met met n + 1 else count_met met n)
    by true = omega arith
    by false = omega arith

count_more : (met : ℕ → Bool) (i k : ℕ) → count_met met i ≤ count_met met (k + i)
count_more met i zero = let e = ap (count_met met) (let z : 0 + i ≡ i = omega arith in z) in omega arith
count_more met i (suc k) =
    let e = ap (count_met met) (let z : suc k + i ≡ suc (k + i) = omega arith in z) in
    let a = count_more met i k in let b = count_up met (k + i) in omega arith

-- a met place comes before those behind it
pub count_less : (met : ℕ → Bool) (i n : ℕ) → i < n → met i ≡ true → count_met met i < count_met met n
count_less met i n l h =
    let e = ap (count_met met) (let z : (n - suc i) + suc i ≡ n = omega arith in z) in
    let a = count_more met (suc i) (n - suc i) in
    let b : count_met met (suc i) ≡ count_met met i + 1 = ap (λ z. if z then count_met met i + 1 else count_met met i) h in
    omega arith

-- ---- lists

byte_none : (xs : List (ℕ × ℕ)) (k : ℕ) → All (λ x. x.0 < k) xs → byte_in xs k ≡ 0
byte_none [] k h = refl
byte_none (x ∷ xs) k h =
    let l = h 0 x (omega arith) in
    ap (λ z. if z then x.1 else byte_in xs k) (let e : (k == x.0) ≡ false = grind (arith, nat_tests) in e) ∙ byte_none xs k (λ i d m. h (suc i) d (omega arith))

byte_last : (xs : List (ℕ × ℕ)) (k b : ℕ) → All (λ x. x.0 < k) xs → byte_in (xs ++ (k, b) ∷ []) k ≡ b
byte_last [] k b h = ap (λ z. if z then b else 0) (let e : (k == k) ≡ true = grind (arith, nat_tests) in e)
byte_last (x ∷ xs) k b h =
    let l = h 0 x (omega arith) in
    ap (λ z. if z then x.1 else byte_in (xs ++ (k, b) ∷ []) k) (let e : (k == x.0) ≡ false = grind (arith, nat_tests) in e) ∙ byte_last xs k b
    (λ i d m. h (suc i) d (omega arith))

byte_before : (xs : List (ℕ × ℕ)) (k b a : ℕ) → a < k → byte_in (xs ++ (k, b) ∷ []) a ≡ byte_in xs a
byte_before [] k b a l = ap (λ z. if z then b else 0) (let e : (a == k) ≡ false = grind (arith, nat_tests) in e)
byte_before (x ∷ xs) k b a l = ap (λ z. if a == x.0 then x.1 else z) (byte_before xs k b a l)

-- ---- one more place

pub choices_none : (met : ℕ → Bool) (choice : ℕ → ℕ) → AreChoices met choice 0 0 []
choices_none met choice = record { counted = refl; within = λ i d l. absurd (omega arith); rise = pairs; gives = λ i l. absurd (omega arith) }
  where
    pairs : AreRising []
    pairs = λ i j d l m. absurd (omega arith)

unmet : (met : ℕ → Bool) (choice : ℕ → ℕ) (n steps : ℕ) (xs : List (ℕ × ℕ)) → AreChoices met choice n steps xs → met n ≡ false →
    AreChoices met choice (suc n) steps xs
unmet met choice n steps xs h f = record {
  counted = h.counted ∙ sym (ap (λ z. if z then count_met met n + 1 else count_met met n) f);
  within = h.within;
  rise = h.rise;
  gives = λ i l m. elim (cases_lt i n) [
    | inl k ↦ h.gives i k m
    | inr k ↦ absurd (let e : n ≡ i = omega arith in let z = sym (ap met e ∙ m) ∙ f in let w : true
        ≡ false = z in cc)
  ];
}

met_zero : (met : ℕ → Bool) (choice : ℕ → ℕ) (n steps : ℕ) (xs : List (ℕ × ℕ)) → AreChoices met choice n steps xs → met n ≡ true → choice n ≡ 0 →
    AreChoices met choice (suc n) (steps + 1) xs
met_zero met choice n steps xs h f z =
    let up : count_met met (suc n) ≡ count_met met n + 1 = ap (λ y. if y then count_met met n + 1 else count_met met n) f in
    record {
      counted = omega (arith, h.counted);
      within = λ i d l. let q = h.within i d l in let a = q.0 in (omega arith, q.1, q.2);
      rise = h.rise;
      gives = λ i l m. elim (cases_lt i n) [
        | inl k ↦ h.gives i k m
        | inr k ↦ (
            let e : n ≡ i = omega arith in
            let s : steps ≡ count_met met i = h.counted ∙ ap (count_met met) e in
            ap (byte_in xs) (sym s) ∙ byte_none xs steps (λ j d o. (h.within j d o).0) ∙ sym z ∙ ap choice e)
      ];
    }

met_some : (met : ℕ → Bool) (choice : ℕ → ℕ) (n steps b : ℕ) (xs : List (ℕ × ℕ)) → AreChoices met choice n steps xs → met n ≡ true → choice n ≡ b → 1 ≤ b →
    b ≤ 3 →
    AreChoices met choice (suc n) (steps + 1) (xs ++ (steps, b) ∷ [])
met_some met choice n steps b xs h f z low high =
    let up : count_met met (suc n) ≡ count_met met n + 1 = ap (λ y. if y then count_met met n + 1 else count_met met n) f in
    let below : All (λ (x : ℕ × ℕ). x.0 < steps) xs = λ j d o. (h.within j d o).0 in
    record {
      counted = omega (arith, h.counted);
      within = All-push (λ (x : ℕ × ℕ). (x.0 < steps + 1) × (1 ≤ x.1) ×
          (x.1 ≤ 3)) xs (steps, b) (λ i d l. let q = h.within i d l in let a = q.0 in (omega arith, q.1, q.2)) (omega arith, low, high);
      rise = all_pairs_push (λ (x y : ℕ × ℕ). x.0 < y.0) xs (steps, b) h.rise below;
      gives = λ i l m. elim (cases_lt i n) [
        | inl k ↦ byte_before xs steps b (count_met met i) (omega (arith, h.counted, count_less met i n k m)) ∙ h.gives i k m
        | inr k ↦ (
            let e : n ≡ i = omega arith in
            let s : steps ≡ count_met met i = h.counted ∙ ap (count_met met) e in
            ap (byte_in (xs ++ (steps, b) ∷ [])) (sym s) ∙ byte_last xs steps b below ∙ sym z ∙ ap choice e)
      ];
    }

-- ---- the place at an index

pub next_met : (met : ℕ → Bool) (choice : ℕ → ℕ) (n steps b : ℕ) (xs : List (ℕ × ℕ)) → AreChoices met choice n steps xs → met n ≡ true → choice n ≡ b → b ≤ 3 →
    AreChoices met choice (n + 1) (steps + 1) (with_choice xs steps b)
next_met met choice n steps zero xs h f z k =
    subst (λ (m : ℕ). AreChoices met choice m (steps + 1) xs) (let e : suc n ≡ n + 1 = omega arith in e) (met_zero met choice n steps xs h f z)
next_met met choice n steps (suc b) xs h f z k =
    subst (λ (m : ℕ). AreChoices met choice m (steps + 1) (xs ++ (steps, suc b) ∷ [])) (let e : suc n
    ≡ n + 1 = omega arith in e) (met_some met choice n steps (suc b) xs h f z (omega arith) k)

pub next_unmet : (met : ℕ → Bool) (choice : ℕ → ℕ) (n steps : ℕ) (xs : List (ℕ × ℕ)) → AreChoices met choice n steps xs → met n ≡ false →
    AreChoices met choice (n + 1) steps xs
next_unmet met choice n steps xs h f = subst (λ (m : ℕ). AreChoices met choice m steps xs) (let e : suc n
    ≡ n + 1 = omega arith in e) (unmet met choice n steps xs h f)

pub any_default : {A : Type 0} (xs : List A) (i : ℕ) (d e : A) → i < length xs → get_or xs i d ≡ get_or xs i e
any_default [] i d e l = absurd (omega arith)
any_default (x ∷ xs) zero d e l = refl
any_default (x ∷ xs) (suc i) d e l = any_default xs i d e (omega arith)
