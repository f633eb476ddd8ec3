-- The assert lines of an address, by their group among the lines by address.
use Rattle.std.proofs.Common.{◌≡◌, refl, ap, sym, ◌∙◌, arith, ℕ, zero, suc, ◌+◌, ◌-◌, ◌<◌, ◌≤◌, Bool, true, false, List, [], ◌∷◌, length, get_or, take, drop, map}
use Rattle.std.specs.Prelude.{◌==◌, filter, slice_range, if◌then◌else◌}
use Rattle.std.proofs.lemmas.Bool.Decides.{nat_tests}
use Rattle.bilv_spec.specs.Notes.{Assert}
use Rattle.notes_index.specs.Indexed.{numbered_from}
use Rattle.question_form.specs.Views.{no_assert}
use Rattle.unroller.specs.Places.{IsGroup}

not_same : (a at : ℕ) → (a ≡ at → ⊥) → (a == at) ≡ false
not_same a at h = grind (arith, nat_tests)

same_same : (a at : ℕ) → a ≡ at → (a == at) ≡ true
same_same a at h = grind (arith, nat_tests)

take_none : {X : Type 0} (xs : List X) → take 0 xs ≡ []
take_none [] = refl
take_none (x ∷ xs) = refl

passed : (at : ℕ) (x : ℕ × ℕ) (xs : List (ℕ × ℕ)) → (x.0 == at) ≡ false → filter (λ y. y.0 == at) (x ∷ xs) ≡ filter (λ y. y.0 == at) xs
passed at x xs e = ap (λ (b : Bool). if b then x ∷ filter (λ y. y.0 == at) xs else filter (λ y. y.0 == at) xs) e

kept : (at : ℕ) (x : ℕ × ℕ) (xs : List (ℕ × ℕ)) → (x.0 == at) ≡ true → filter (λ y. y.0 == at) (x ∷ xs) ≡ x ∷ filter (λ y. y.0 == at) xs
kept at x xs e = ap (λ (b : Bool). if b then x ∷ filter (λ y. y.0 == at) xs else filter (λ y. y.0 == at) xs) e

group_filter : (at : ℕ) (xs : List (ℕ × ℕ)) (low high : ℕ) → low ≤ high → high ≤ length xs → ((j : ℕ) (d : ℕ × ℕ) → low ≤ j → j < high → (get_or xs j d).0 ≡ at)
    → ((j : ℕ) (d : ℕ × ℕ) → j < low → (get_or xs j d).0 < at) → ((j : ℕ) (d : ℕ × ℕ) → high ≤ j → j < length xs → at < (get_or xs j d).0)
    → take (high - low) (drop low xs) ≡ filter (λ x. x.0 == at) xs
group_filter at [] zero zero le w here before behind = refl
group_filter at [] zero (suc high) le w here before behind = absurd (omega arith)
group_filter at [] (suc low) high le w here before behind = absurd (omega arith)
group_filter at (x ∷ xs) zero zero le w here before behind =
    let b = behind 0 x (omega arith) (omega arith) in
    let rest = group_filter at xs 0 0 (omega arith) (omega arith) (λ j d l m. absurd (omega arith)) (λ j d l. absurd (omega arith))
    (λ j d l m. behind (suc j) d (omega arith) (omega arith)) in
    sym (take_none xs) ∙ rest ∙ sym (passed at x xs (not_same x.0 at (λ e. absurd (omega arith))))
group_filter at (x ∷ xs) zero (suc high) le w here before behind =
    let h = here 0 x (omega arith) (omega arith) in
    let rest = group_filter at xs 0 high (omega arith) (omega arith) (λ j d l m. here (suc j) d (omega arith) (omega arith)) (λ j d l. absurd (omega arith))
    (λ j d l m. behind (suc j) d (omega arith) (omega arith)) in
    let z : suc high - 0 ≡ suc (high - 0) = omega arith in
    ap (λ (n : ℕ). take n (x ∷ xs)) z ∙ ap (λ (l : List (ℕ × ℕ)). x ∷ l) rest ∙ sym (kept at x xs (same_same x.0 at h))
group_filter at (x ∷ xs) (suc low) zero le w here before behind = absurd (omega arith)
group_filter at (x ∷ xs) (suc low) (suc high) le w here before behind =
    let b = before 0 x (omega arith) in
    let rest = group_filter at xs low high (omega arith) (omega arith) (λ j d l m. here (suc j) d (omega arith) (omega arith))
    (λ j d l. before (suc j) d (omega arith)) (λ j d l m. behind (suc j) d (omega arith) (omega arith)) in
    let z : suc high - suc low ≡ high - low = omega arith in
    ap (λ (n : ℕ). take n (drop low xs)) z ∙ rest ∙ sym (passed at x xs (not_same x.0 at (λ e. absurd (omega arith))))

numbered_by : {X : Type 0} (b : Bool) (from : ℕ × ℕ → X) (made : Assert → X) (x : ℕ × ℕ) (a : Assert) (xs : List (ℕ × ℕ)) (rest : List Assert) →
    from x ≡ made a → map from xs ≡ map made rest → map from (if b then x ∷ xs else xs) ≡ map made (if b then a ∷ rest else rest)
numbered_by true from made x a xs rest e h = ap (λ z. z ∷ map from xs) e ∙ ap (λ l. made a ∷ l) h
numbered_by false from made x a xs rest e h = h

numbered_are : {X : Type 0} (made : Assert → X) (at : ℕ) (all rest : List Assert) (k : ℕ) →
    ((j : ℕ) (d : Assert) → j < length rest → get_or all (k + j) d ≡ get_or rest j d)
    → map (λ x. made (get_or all x.1 no_assert)) (filter (λ x. x.0 == at) (numbered_from k (map (λ a. a.at) rest))) ≡ map made (filter (λ a. a.at == at) rest)
numbered_are made at all [] k h = refl
numbered_are made at all (a ∷ rest) k h =
    let z : k + 0 ≡ k = omega arith in
    let first : made (get_or all k no_assert) ≡ made a =
    ap made (ap (λ (m : ℕ). get_or all m no_assert) (sym z) ∙ h 0 no_assert (omega arith)) in
    let more = numbered_are made at all rest (k + 1) (λ j d w. let e : k + 1 + j
    ≡ k + suc j = omega arith in ap (λ (m : ℕ). get_or all m d) e ∙ h (suc j) d (omega arith)) in
    numbered_by (a.at == at) (λ (x : ℕ × ℕ). made (get_or all x.1 no_assert)) made (a.at, k) a
    (filter (λ x. x.0 == at) (numbered_from (k + 1) (map (λ a. a.at) rest))) (filter (λ a. a.at == at) rest) first more

-- what is made of the lines of an address, by their group
pub group_are : {X : Type 0} (made : Assert → X) (at : ℕ) (all : List Assert) (index : List (ℕ × ℕ)) (bounds : ℕ × ℕ) → IsGroup index at bounds →
    filter (λ x. x.0 == at) index ≡ filter (λ x. x.0 == at) (numbered_from 0 (map (λ a. a.at) all))
    → map (λ x. made (get_or all x.1 no_assert)) (slice_range index bounds.0 bounds.1) ≡ map made (filter (λ a. a.at == at) all)
group_are made at all index bounds group order =
    ap (map (λ (x : ℕ × ℕ). made (get_or all x.1 no_assert))) (group_filter at index bounds.0 bounds.1 group.ordered group.within (λ j d l m. group.here j
    d l m)
    (λ j d l. group.before j d (omega arith) l) (λ j d l m. group.behind j d l m) ∙ order)
    ∙ numbered_are made at all all 0 (λ j d w. let z : 0 + j ≡ j = omega arith in ap (λ (m : ℕ). get_or all m d) z)
