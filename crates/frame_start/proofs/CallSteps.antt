-- The contract steps of the points that are met, in the order of their steps.
use Rattle.std.proofs.Common.{◌≡◌, inl, inr, refl, ap, sym, ◌∙◌, subst, arith, ℕ, zero, suc, ◌+◌, ◌<◌, ◌≤◌, [], ◌∷◌, ◌++◌, List, Bool, true, false, length, get_or}
use Rattle.std.specs.Prelude.{◌&&◌, All, AllPairs, Contains, if◌then◌else◌}
use Rattle.std.proofs.lemmas.Bool.{cases_lt}
use Rattle.std.proofs.lemmas.List.Elements.{Contains-get_or}
use Rattle.std.proofs.lemmas.List.Quantifiers.{all_pairs_push}
use Rattle.bilv_spec.proofs.Pigeons.{truth}
use Rattle.bilv_spec.proofs.PointSteps.{in_left, in_right, here, there}
use Rattle.bilv_spec.proofs.PointsInGraph.{none_in, split_in}
use Rattle.frame_spec.specs.FrameReports.{WrittenCall}
use Rattle.frame_spec.specs.FrameWalk.{UnrolledProgram}
use Rattle.frame_terms.specs.FrameStarts.{IsCallOf, WrittenParts, call_of}
use Rattle.bit_blast.specs.Steps.{count_met}
use Rattle.frame_start.specs.Met.{call_steps}
use Rattle.frame_start.specs.Segments.{calls_by}

-- a step of a contract point that is met
pub record IsStep (met gift : ℕ → Bool) (n : ℕ) (z : ℕ × ℕ) : Type 0 where
  pub place : z.1 < n
  pub step : z.0 < count_met met n
  pub gives : gift z.1 ≡ true

both : (a b : Bool) → (a && b) ≡ true → (a ≡ true) × (b ≡ true)
both true b h = (refl, h)
both false b h = absurd (let e : false ≡ true = h in cc)

module _ (met gift : ℕ → Bool) where
  count_more : (n : ℕ) → met n ≡ true → count_met met (suc n) ≡ count_met met n + 1
  count_more n t = ap (λ z. if z then count_met met n + 1 else count_met met n) t

  count_grows : (n : ℕ) → count_met met n ≤ count_met met (suc n)
  count_grows n = by (met n)
    where
      by : (b : Bool) → count_met met n ≤ (if b then count_met met n + 1 else count_met met n)
      by true = omega arith
      by false = omega arith

  listed : (n : ℕ) → (met n && gift n) ≡ true → call_steps met gift (suc n) ≡ call_steps met gift n ++ (count_met met n, n) ∷ []
  listed n t = ap (λ z. if z then call_steps met gift n ++ (count_met met n, n) ∷ [] else call_steps met gift n) t

  unlisted : (n : ℕ) → (met n && gift n) ≡ false → call_steps met gift (suc n) ≡ call_steps met gift n
  unlisted n t = ap (λ z. if z then call_steps met gift n ++ (count_met met n, n) ∷ [] else call_steps met gift n) t

  later : (n : ℕ) (z : ℕ × ℕ) → IsStep met gift n z → IsStep met gift (suc n) z
  later n z s = let a = s.place in let b = s.step in let g = count_grows n in record { place = omega arith; step = omega arith; gives = s.gives }

  pub steps_are : (n : ℕ) (z : ℕ × ℕ) → Contains (call_steps met gift n) z → IsStep met gift n z
  steps_are zero z h = none_in z h
  steps_are (suc n) z h = elim (truth (met n && gift n)) [
    | inl t ↦ elim (split_in (call_steps met gift n) ((count_met met n, n) ∷ []) z (subst (λ (l : List (ℕ × ℕ)). Contains l z) (listed n t) h)) [
      | inl a ↦ later n z (steps_are n z a)
      | inr a ↦ last t a
    ]
    | inr f ↦ later n z (steps_are n z (subst (λ (l : List (ℕ × ℕ)). Contains l z) (unlisted n f) h))
  ]
    where
      last : (met n && gift n) ≡ true → Contains ((count_met met n, n) ∷ []) z → IsStep met gift (suc n) z
      last t (zero, l, e) = subst (IsStep met gift (suc n)) e
          (let q = both (met n) (gift n) t in
          let m = count_more n q.0 in record { place = omega arith; step = omega arith; gives = q.1 })
      last t (suc i, l, e) = absurd (omega arith)

  -- one place more lists what was listed, and itself
  listed_before : (n i : ℕ) → Contains (call_steps met gift n) (count_met met i, i) → Contains (call_steps met gift (suc n)) (count_met met i, i)
  listed_before n i h = elim (truth (met n && gift n)) [
    | inl t ↦ subst (λ (xs : List (ℕ × ℕ)). Contains xs (count_met met i, i)) (sym (listed n t))
        (in_left (call_steps met gift n) ((count_met met n, n) ∷ []) (count_met met i, i) h)
    | inr f ↦ subst (λ (xs : List (ℕ × ℕ)). Contains xs (count_met met i, i)) (sym (unlisted n f)) h
  ]

  listed_last : (n : ℕ) → met n ≡ true → gift n ≡ true → Contains (call_steps met gift (suc n)) (count_met met n, n)
  listed_last n a b =
      subst (λ (xs : List (ℕ × ℕ)). Contains xs (count_met met n, n)) (sym (listed n (rw (a, b) refl)))
      (in_right (call_steps met gift n) ((count_met met n, n) ∷ []) (count_met met n, n) (here (count_met met n, n) []))

  pub step_listed : (n i : ℕ) → i < n → met i ≡ true → gift i ≡ true → Contains (call_steps met gift n) (count_met met i, i)
  step_listed zero i l a b = absurd (omega arith)
  step_listed (suc n) i l a b = elim (cases_lt i n) [
    | inl m ↦ listed_before n i (step_listed n i m a b)
    | inr m ↦ (let e : n ≡ i = omega arith in
        subst (λ (k : ℕ). Contains (call_steps met gift (suc n)) (count_met met k, k)) e
        (listed_last n (subst (λ (k : ℕ). met k ≡ true) (sym e) a) (subst (λ (k : ℕ). gift k ≡ true) (sym e) b)))
  ]

  pub steps_rise : (n : ℕ) → AllPairs (λ (x y : ℕ × ℕ). x.0 < y.0) (call_steps met gift n)
  steps_rise zero = λ i j d l m. absurd (omega arith)
  steps_rise (suc n) = elim (truth (met n && gift n)) [
    | inl t ↦ subst (AllPairs (λ (x y : ℕ × ℕ). x.0 < y.0)) (sym (listed n t))
        (all_pairs_push (λ (x y : ℕ × ℕ). x.0 < y.0) (call_steps met gift n) (count_met met n, n) (steps_rise n)
        (λ k d l. (steps_are n (get_or (call_steps met gift n) k d) (Contains-get_or (call_steps met gift n) k d l)).step))
    | inr f ↦ subst (AllPairs (λ (x y : ℕ × ℕ). x.0 < y.0)) (sym (unlisted n f)) (steps_rise n)
  ]

  one_more : (n : ℕ) → suc n ≡ n + 1
  one_more n = omega arith

  -- one point more
  pub next_called : (n s : ℕ) (b : Bool) (xs ys : List (ℕ × ℕ)) → xs ≡ call_steps met gift n → s ≡ count_met met n → met n ≡ true → b ≡ gift n →
      ys ≡ (if b then xs ++ (s, n) ∷ [] else xs) → ys ≡ call_steps met gift (n + 1)
  next_called n s b xs ys h e t g k =
      k ∙ ap (λ z. if z then xs ++ (s, n) ∷ [] else xs) g
      ∙ ap (λ (z : ℕ). if gift n then xs ++ (z, n) ∷ [] else xs) e
      ∙ ap (λ (z : List (ℕ × ℕ)). if gift n then z ++ (count_met met n, n) ∷ [] else z) h
      ∙ sym (ap (λ z. if z && gift n then call_steps met gift n ++ (count_met met n, n) ∷ [] else call_steps met gift n) t)
      ∙ ap (call_steps met gift) (one_more n)

  pub next_uncalled : (n : ℕ) (xs : List (ℕ × ℕ)) → xs ≡ call_steps met gift n → met n ≡ false → xs ≡ call_steps met gift (n + 1)
  next_uncalled n xs h f =
      h ∙ sym (ap (λ z. if z && gift n then call_steps met gift n ++ (count_met met n, n) ∷ [] else call_steps met gift n) f)
      ∙ ap (call_steps met gift) (one_more n)

  pub count_called : (n s : ℕ) → s ≡ count_met met n → met n ≡ true → s + 1 ≡ count_met met (n + 1)
  count_called n s e t = ap (λ z. z + 1) e ∙ sym (count_more n t) ∙ ap (count_met met) (one_more n)

  pub count_uncalled : (n s : ℕ) → s ≡ count_met met n → met n ≡ false → s ≡ count_met met (n + 1)
  count_uncalled n s e f = e ∙ sym (ap (λ z. if z then count_met met n + 1 else count_met met n) f) ∙ ap (count_met met) (one_more n)

-- as contract steps
module _ (u : UnrolledProgram) (w : WrittenParts) where
  pub all_calls : (xs : List (ℕ × ℕ)) → ((z : ℕ × ℕ) → Contains xs z → IsCallOf u w (call_of u w z.0 z.1)) → All (IsCallOf u w) (calls_by u w xs)
  all_calls [] h i d l = absurd (omega arith)
  all_calls (z ∷ xs) h zero d l = h z (here z xs)
  all_calls (z ∷ xs) h (suc i) d l = all_calls xs (λ y c. h y (there z xs y c)) i d (omega arith)

  step_at : (xs : List (ℕ × ℕ)) (i : ℕ) (d : WrittenCall) (z : ℕ × ℕ) → i < length (calls_by u w xs) →
      (get_or (calls_by u w xs) i d).step ≡ (get_or xs i z).0
  step_at [] i d z l = absurd (omega arith)
  step_at (x ∷ xs) zero d z l = refl
  step_at (x ∷ xs) (suc i) d z l = step_at xs i d z (omega arith)

  as_long : (xs : List (ℕ × ℕ)) → length (calls_by u w xs) ≡ length xs
  as_long [] = refl
  as_long (x ∷ xs) = let e = as_long xs in omega arith

  pub calls_rise : (xs : List (ℕ × ℕ)) → AllPairs (λ (x y : ℕ × ℕ). x.0 < y.0) xs → AllPairs (λ (a b : WrittenCall). a.step < b.step) (calls_by u w xs)
  calls_rise xs rise i j d l m =
      let a = step_at xs i d (0, 0) (omega arith) in
      let b = step_at xs j d (0, 0) m in
      let k = as_long xs in
      let r = rise i j (0, 0) l (omega arith) in
      omega arith
