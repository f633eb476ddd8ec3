-- Two rising lists become one.
use Rattle.std.proofs.Common.{◌≡◌, refl, sym, subst, ◌∙◌, ℕ, zero, suc, ◌+◌, ◌<◌, ◌≤◌, ◌⊎◌, inl, inr, Bool, true, false, List, [], ◌∷◌, ◌++◌, arith}
use Rattle.std.specs.Prelude.{length, Contains, slice_index, nat_lt}
use Rattle.std.proofs.lemmas.Bool.Decides.{nat_tests}
use Rattle.std.proofs.lemmas.List.{length-append}
use Rattle.std.proofs.lemmas.List.Elements.{Contains-append_left, Contains-get_or, Contains-push, Contains-push_cases, at_from_Contains}
use Rattle.asked_bytes.specs.AskedBytes.{AreRising, IsMerging, IsMerged}

-- a number that is at most another is below it or equal
split_by : (m n : ℕ) (b : Bool) → nat_lt m n ≡ b → m ≤ n → (m < n) ⊎ (m ≡ n)
split_by m n true e le = inl (grind (arith, nat_tests))
split_by m n false e le = inr (grind (arith, nat_tests))

split : (m n : ℕ) → m ≤ n → (m < n) ⊎ (m ≡ n)
split m n le = split_by m n (nat_lt m n) refl le

snoc_at : (xs : List ℕ) (y : ℕ) → slice_index (xs ++ y ∷ []) (length xs) ≡ y
snoc_at [] y = refl
snoc_at (x ∷ xs) y = snoc_at xs y

snoc_before : (xs : List ℕ) (y i : ℕ) → i < length xs → slice_index (xs ++ y ∷ []) i ≡ slice_index xs i
snoc_before [] y i lt = absurd (omega arith)
snoc_before (x ∷ xs) y zero lt = refl
snoc_before (x ∷ xs) y (suc i) lt = snoc_before xs y i (omega arith)

-- an element behind rising ones that are below it
pub snoc_rises : (xs : List ℕ) (y : ℕ) → AreRising xs → ((a : ℕ) → Contains xs a → a < y) → AreRising (xs ++ y ∷ [])
snoc_rises xs y rise below i j lt end = elim (split j (length xs) (let e = length-append xs (y ∷ []) in omega (arith, e, end))) [
  | inl inside ↦ subst (λ (n : ℕ). n < slice_index (xs ++ y ∷ []) j) (sym (snoc_before xs y i (omega (arith, lt, inside))))
      (subst (λ (n : ℕ). slice_index xs i < n) (sym (snoc_before xs y j inside)) (rise i j lt inside))
  | inr last ↦ subst (λ (n : ℕ). n < slice_index (xs ++ y ∷ []) j) (sym (snoc_before xs y i (omega (arith, lt, last))))
      (subst (λ (n : ℕ). slice_index xs i < slice_index (xs ++ y ∷ []) n) (sym last)
      (subst (λ (n : ℕ). slice_index xs i < n) (sym (snoc_at xs y)) (below (slice_index xs i) (has_at xs i (omega (arith, lt, last))))))
]
  where
    has_at : (xs : List ℕ) (i : ℕ) → i < length xs → Contains xs (slice_index xs i)
    has_at xs i lt = Contains-get_or xs i 0 lt

module _ (xs ys : List ℕ) (rise_x : AreRising xs) (rise_y : AreRising ys) (apart : (a : ℕ) → Contains ys a → ¬ Contains xs a) where
  pub merging_none : IsMerging xs ys 0 0 []
  merging_none = record {
    rise = λ i j lt end. absurd (omega arith);
    only = λ a c. absurd (none a c);
    kept = λ n l. absurd (omega arith);
    kept_second = λ n l. absurd (omega arith);
    count = refl;
    below = λ a c. absurd (none a c);
    under =
        λ a c. absurd (none a c);
  }
    where
      none : (a : ℕ) → Contains {X = ℕ} [] a → ⊥
      none a c = let q = at_from_Contains [] a c in omega (arith, q.1)

  next_rises : (zs : List ℕ) → AreRising zs → (i : ℕ) → i + 1 < length zs → slice_index zs i < slice_index zs (i + 1)
  next_rises zs rise i lt = rise i (i + 1) (omega arith) lt

  -- the next of the first list is taken
  pub merging_first : (i j : ℕ) (joined : List ℕ) → IsMerging xs ys i j joined → i < length xs → (j < length ys → slice_index xs i < slice_index ys j) →
      IsMerging xs ys (i + 1) j (joined ++ slice_index xs i ∷ [])
  merging_first i j joined h within less = record {
    rise = snoc_rises joined (slice_index xs i) h.rise (λ a c. h.below a c within);
    only = λ a c. elim (Contains-push_cases joined (slice_index xs i) a c) [
      | inl old ↦ h.only a old
      | inr e ↦ inl (subst
          (λ (n : ℕ). Contains xs n) e (Contains-get_or xs i 0 within))
    ];
    kept = λ n l. elim (split n i (omega (arith, l))) [
      | inl old ↦ Contains-append_left joined (slice_index xs i ∷ []) (slice_index xs n) (h.kept n old)
      | inr e ↦ subst (λ (z : ℕ). Contains (joined ++ slice_index xs i ∷ []) (slice_index xs z)) (sym e) (Contains-push joined (slice_index xs i))
    ];
    kept_second = λ n l. Contains-append_left joined (slice_index xs i ∷ []) (slice_index ys n) (h.kept_second n l);
    count = length-append joined (slice_index xs i ∷ []) ∙ (let e = h.count in omega arith);
    below = λ a c more. elim (Contains-push_cases joined (slice_index xs i) a c) [
      | inl old ↦ let p = h.below a old within in let q = next_rises xs rise_x i more in omega (arith, p, q)
      | inr e ↦ subst (λ (n : ℕ). n < slice_index xs (i + 1)) e (next_rises xs rise_x i more)
    ];
    under = λ a c more. elim (Contains-push_cases joined (slice_index xs i) a c) [
      | inl old ↦ h.under a old more
      | inr e ↦ subst (λ (n : ℕ). n < slice_index ys j) e (less more)
    ];
  }

  different : (i j : ℕ) → i < length xs → j < length ys → slice_index ys j ≡ slice_index xs i → ⊥
  different i j p q e = apart (slice_index ys j) (Contains-get_or ys j 0 q) (subst (λ (n : ℕ). Contains xs n) (sym e) (Contains-get_or xs i 0 p))

  -- the next of the second list is taken
  pub merging_second : (i j : ℕ) (joined : List ℕ) → IsMerging xs ys i j joined → j < length ys → (i < length xs → slice_index ys j ≤ slice_index xs i) →
      IsMerging xs ys i (j + 1) (joined ++ slice_index ys j ∷ [])
  merging_second i j joined h within most = record {
    rise = snoc_rises joined (slice_index ys j) h.rise (λ a c. h.under a c within);
    only = λ a c. elim (Contains-push_cases joined (slice_index ys j) a c) [
      | inl old ↦ h.only a old
      | inr e ↦ inr (subst
          (λ (n : ℕ). Contains ys n) e (Contains-get_or ys j 0 within))
    ];
    kept = λ n l. Contains-append_left joined (slice_index ys j ∷ []) (slice_index xs n) (h.kept n l);
    kept_second = λ n l. elim (split n j (omega (arith, l))) [
      | inl old ↦ Contains-append_left joined (slice_index ys j ∷ []) (slice_index ys n) (h.kept_second n old)
      | inr e ↦ subst (λ (z : ℕ). Contains (joined ++ slice_index ys j ∷ []) (slice_index ys z)) (sym e) (Contains-push joined (slice_index ys j))
    ];
    count = length-append joined (slice_index ys j ∷ []) ∙ (let e = h.count in omega arith);
    below = λ a c more. elim (Contains-push_cases joined (slice_index ys j) a c) [
      | inl old ↦ h.below a old more
      | inr e ↦ subst (λ (n : ℕ). n < slice_index xs i) e (strict (slice_index ys j) (slice_index xs i) (most more) (different i j more within))
    ];
    under = λ a c more. elim (Contains-push_cases joined (slice_index ys j) a c) [
      | inl old ↦ let p = h.under a old within in let q = next_rises ys rise_y j more in omega (arith, p, q)
      | inr e ↦ subst (λ (n : ℕ). n < slice_index ys (j + 1)) e (next_rises ys rise_y j more)
    ];
  }
    where
      strict : (m n : ℕ) → m ≤ n → (m ≡ n → ⊥) → m < n
      strict m n le ne = elim (split m n le) [ inl lt ↦ lt | inr e ↦ absurd (ne e) ]

  pub merged : (i j : ℕ) (joined : List ℕ) → IsMerging xs ys i j joined → i ≡ length xs → j ≡ length ys → IsMerged xs ys joined
  merged i j joined h p q = record {
    rise = h.rise;
    only = h.only;
    keep = λ a has. (let at = at_from_Contains xs a has in
        subst (λ (z : ℕ). Contains joined z) (at.2 0) (h.kept at.0 (omega (arith, at.1, p))));
    keep_second = λ a has. (let at = at_from_Contains ys a has in
        subst (λ (z : ℕ). Contains joined z) (at.2 0) (h.kept_second at.0 (omega (arith, at.1, q))));
    count = h.count ∙ (omega (arith, p, q));
  }

-- the loop that puts two lists together: both places are within their lists
pub record IsMergingWithin (xs ys : List ℕ) (i j : ℕ) (joined : List ℕ) : Type 0 where
  pub merging : IsMerging xs ys i j joined
  pub first : i ≤ length xs
  pub second : j ≤ length ys

module _ (xs ys : List ℕ) (rise_x : AreRising xs) (rise_y : AreRising ys) (apart : (a : ℕ) → Contains ys a → ¬ Contains xs a) where
  pub begins : (joined : List ℕ) → joined ≡ [] → IsMergingWithin xs ys 0 0 joined
  begins joined e = subst (λ (z : List ℕ). IsMergingWithin xs ys 0 0 z) (sym e)
      (record { merging = merging_none xs ys rise_x rise_y apart; first = omega arith; second = omega arith })

  pub takes_first : (i j : ℕ) (old new : List ℕ) → IsMergingWithin xs ys i j old → new ≡ old ++ slice_index xs i ∷ [] →
      (i < length xs) × (j < length ys → slice_index xs i < slice_index ys j) → IsMergingWithin xs ys (i + 1) j new
  takes_first i j old new h e next = record {
    merging = subst (λ (z : List ℕ). IsMerging xs ys (i + 1) j z) (sym e) (merging_first xs ys rise_x rise_y apart i j old h.merging next.0 next.1);
    first = omega (arith, next.0);
    second = h.second;
  }

  pub takes_second : (i j : ℕ) (old new : List ℕ) → IsMergingWithin xs ys i j old → new ≡ old ++ slice_index ys j ∷ [] →
      (j < length ys) × (i < length xs → slice_index ys j ≤ slice_index xs i) → IsMergingWithin xs ys i (j + 1) new
  takes_second i j old new h e next = record {
    merging = subst (λ (z : List ℕ). IsMerging xs ys i (j + 1) z) (sym e) (merging_second xs ys rise_x rise_y apart i j old h.merging next.0 next.1);
    first = h.first;
    second = omega (arith, next.0);
  }

  pub ends : (i j : ℕ) (joined : List ℕ) → IsMergingWithin xs ys i j joined → (i < length xs → ⊥) → (j < length ys → ⊥) → IsMerged xs ys joined
  ends i j joined h p q =
      merged xs ys rise_x rise_y apart i j joined h.merging (at_end i (length xs) h.first p) (at_end j (length ys) h.second q)
    where
      at_end : (m n : ℕ) → m ≤ n → (m < n → ⊥) → m ≡ n
      at_end m n le not = elim (split m n le) [ inl lt ↦ absurd (not lt) | inr e ↦ e ]
