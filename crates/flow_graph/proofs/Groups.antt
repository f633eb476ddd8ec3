-- What some line of an address has, by the places of its lines.
use Rattle.std.proofs.Common.{◌≡◌, inl, inr, ℕ, zero, suc, ◌+◌, ◌-◌, ◌<◌, ◌≤◌, refl, ap, sym, ◌∙◌, arith, List, [], ◌∷◌, ◌++◌, length, get_or, map, Bool, true, false, eq-eqb}
use Rattle.std.specs.Prelude.{◌==◌, ◌||◌, ◌&&◌, if◌then◌else◌}
use Rattle.std.specs.List.{list_any}
use Rattle.std.proofs.lemmas.Bool.{cases_eq, eqb-true}
use Rattle.std.proofs.lemmas.List.{length-map, get_or_default}
use Rattle.std.proofs.Math.ListN.{get_or-map}
use Rattle.std.proofs.lemmas.List.Folds.{list_any-append}
use Rattle.bilv_spec.specs.Run.{targets_at}
use Rattle.notes_value.specs.NoteViews.{targets_of}
use Rattle.notes_value.specs.declared.notes.Targets.{Targets}
use Rattle.notes_index.specs.Indexed.{ArePlacesOf, targets_places}
use Rattle.flow_graph.specs.Programs.{IsSameSet}
use Rattle.flow_graph.proofs.Members.{same_truth, or_cases, or_left, or_right}

-- the test passes one of n numbers from the lowest on
abbrev pub any_within : (ℕ → Bool) → ℕ → ℕ → Bool
any_within test low zero = false
any_within test low (suc n) = any_within test low n || test (low + n)

-- the line at the place that an index has passes the test
abbrev pub hits : {X : Type 0} → (X → Bool) → List X → List (ℕ × ℕ) → ℕ → Bool
hits h xs index j = get_or (map h xs) (get_or index j (0, 0)).1 false

pub within_more : (test : ℕ → Bool) (low i : ℕ) → low ≤ i → any_within test low (i + 1 - low) ≡ (any_within test low (i - low) || test i)
within_more test low i le =
    let e : i + 1 - low ≡ suc (i - low) = omega arith in
    let f : low + (i - low) ≡ i = omega arith in
    ap (any_within test low) e ∙ ap (λ n. any_within test low (i - low) || test n) f

within_place : (test : ℕ → Bool) (low n : ℕ) → any_within test low n ≡ true → (j : ℕ) × (low ≤ j) × (j < low + n) × (test j ≡ true)
within_place test low zero h = absurd (cc)
within_place test low (suc n) h = elim (or_cases (any_within test low n) (test (low + n)) h) [
  | inl p ↦ (let q = within_place test low n p in (q.0, q.1, (let w = q.2 in omega arith), q.3))
  | inr p ↦ (low + n, omega arith, omega arith, p)
]

in_within : (test : ℕ → Bool) (low n j : ℕ) → low ≤ j → j < low + n → test j ≡ true → any_within test low n ≡ true
in_within test low zero j le lt h = absurd (omega arith)
in_within test low (suc n) j le lt h = elim (cases_eq j (low + n)) [
  | inl e ↦ or_right (any_within test low n) (test (low + n)) (ap test (sym e) ∙ h)
  | inr ne ↦ or_left (any_within test low n) (test (low + n)) (in_within test low n j le (omega arith) h)
]

-- what stands in the group of an address is the place of a line
pub fits_at : {X : Type 0} (f : X → ℕ) (xs : List X) (index : List (ℕ × ℕ)) (at low high j : ℕ) → ArePlacesOf (map f xs) index at low high → low ≤ j → j < high
    → (get_or index j (0, 0)).1 < length xs
fits_at f xs index at low high j group from upto = let only = group.only j (0, 0) from upto in rw (length-map xs f) at only.0

-- the line at a place passes the test
pub hit_at : {X : Type 0} (h : X → Bool) (xs : List X) (index : List (ℕ × ℕ)) (j : ℕ) (e : X) → (get_or index j (0, 0)).1 < length xs
    → hits h xs index j ≡ h (get_or xs (get_or index j (0, 0)).1 e)
hit_at h xs index j e w =
    let fits : (get_or index j (0, 0)).1 < length (map h xs) = rw (length-map xs h) w in
    get_or_default (map h xs) (get_or index j (0, 0)).1 false (h e) fits ∙ get_or-map h xs (get_or index j (0, 0)).1 e

module _ {X : Type 0} (f : X → ℕ) (h : X → Bool) (at : ℕ) where
  both_at : (xs : List X) (k : ℕ) → k < length xs → get_or (map f xs) k 0 ≡ at → get_or (map h xs) k false ≡ true → list_any (λ x. (f x == at) && h x) xs ≡ true
  both_at [] k w e p = absurd (omega arith)
  both_at (x ∷ xs) zero w e p = or_left ((f x == at) && h x) (list_any (λ y. (f y == at) && h y) xs) (ap (λ b. b && h x) (eq-eqb (f x) at e) ∙ p)
  both_at (x ∷ xs) (suc k) w e p = or_right ((f x == at) && h x) (list_any (λ y. (f y == at) && h y) xs) (both_at xs k (omega arith) e p)

  at_both : (b c : Bool) → (b && c) ≡ true → (b ≡ true) × (c ≡ true)
  at_both true c p = (refl, p)
  at_both false c p = absurd (cc)

  from_any : (xs : List X) → list_any (λ x. (f x == at) && h x) xs ≡ true → (k : ℕ) × (k < length xs) × (get_or (map f xs) k 0 ≡ at) ×
      (get_or (map h xs) k false ≡ true)
  from_any [] p = absurd (cc)
  from_any (x ∷ xs) p = elim (or_cases ((f x == at) && h x) (list_any (λ y. (f y == at) && h y) xs) p) [
    | inl q ↦ (let both = at_both (f x == at) (h x) q in (zero, omega arith, eqb-true (f x) at both.0, both.1))
    | inr q ↦ (let r = from_any xs q in (suc r.0, (let w = r.1 in omega arith), r.2, r.3))
  ]

  -- some place of the group has a line that passes the test just where some line of the address passes it
  pub grouped : (xs : List X) (index : List (ℕ × ℕ)) (low high i : ℕ) → ArePlacesOf (map f xs) index at low high → low ≤ high → i ≡ high
      → any_within (hits h xs index) low (i - low) ≡ list_any (λ x. (f x == at) && h x) xs
  grouped xs index low high i group le end =
      same_truth (any_within (hits h xs index) low (i - low)) (list_any (λ x. (f x == at) && h x) xs)
      (λ p.
      let q = within_place (hits h xs index) low (i - low) p in
      let from = q.1 in
      let upto = q.2 in
      let only = group.only q.0 (0, 0) q.1 (omega arith) in
      both_at xs (get_or index q.0 (0, 0)).1 (rw (length-map xs f) at only.0) only.1 q.3)
      (λ p.
      let k = from_any xs p in
      let found = group.all k.0 (rw (length-map xs f) k.1) k.2 in
      let from = found.1 in
      let upto = found.2 in
      in_within (hits h xs index) low (i - low) found.0 found.1 (omega arith) (ap (λ n. get_or (map h xs) n false) (found.3 (0, 0)) ∙ k.3))

-- the targets that the notes list for an address, by a test
pub targets_any : (test : ℕ → Bool) (at : ℕ) (targets : List Targets)
    → list_any (λ t. (t.at == at) && list_any test t.to.items) targets ≡ list_any test (targets_at (map targets_of targets) at)
targets_any test at [] = refl
targets_any test at (t ∷ rest) =
    ap (λ b. ((t.at == at) && list_any test t.to.items) || b) (targets_any test at rest)
    ∙ choice (t.at == at)
    ∙ sym (list_any-append test (if t.at == at then t.to.items else []) (targets_at (map targets_of rest) at))
  where
    choice : (b : Bool) → ((b && list_any test t.to.items) ||
        list_any test (targets_at (map targets_of rest) at)) ≡ (list_any test (if b then t.to.items else []) ||
        list_any test (targets_at (map targets_of rest) at))
    choice true = refl
    choice false = refl

-- the targets found so far
pub record Listed (targets : List Targets) (index : List (ℕ × ℕ)) (low i : ℕ) (found : List ℕ) : Type 0 where
  pub any : (test : ℕ → Bool) → list_any test found ≡ any_within (hits (λ t. list_any test t.to.items) targets index) low (i - low)

pub listed_more : (targets : List Targets) (index : List (ℕ × ℕ)) (at low high i : ℕ) (found new : List ℕ) (t : Targets) →
    ArePlacesOf (targets_places targets) index at low high → low ≤ i → i < high
    → new ≡ found ++ (get_or targets (get_or index i (0, 0)).1 t).to.items → Listed targets index low i found → Listed targets index low (i + 1) new
listed_more targets index at low high i found new t group le lt grown so_far = record {
  any = λ test.
      let fits = fits_at (λ (x : Targets). x.at) targets index at low high i group le lt in
      let line = get_or targets (get_or index i (0, 0)).1 t in
      ap (list_any test) grown ∙ list_any-append test found line.to.items ∙ ap (λ b. b || list_any test line.to.items) (so_far.any test)
      ∙ ap (λ b. any_within (hits (λ x. list_any test x.to.items) targets index) low (i - low) || b)
      (sym (hit_at (λ x. list_any test x.to.items) targets index i t fits))
      ∙ sym (within_more (hits (λ x. list_any test x.to.items) targets index) low i le);
}

-- when all places of the group are through, they are those that the notes list
pub listed_all : (targets : List Targets) (index : List (ℕ × ℕ)) (at low high i : ℕ) (found : List ℕ) → ArePlacesOf (targets_places targets) index at low high →
    low ≤ high → i ≡ high
    → Listed targets index low i found → IsSameSet found (targets_at (map targets_of targets) at)
listed_all targets index at low high i found group le end so_far = record {
  any = λ test.
      so_far.any test
      ∙ grouped (λ (x : Targets). x.at) (λ (x : Targets). list_any test x.to.items) at targets index low high i group le end
      ∙ targets_any test at targets;
}
