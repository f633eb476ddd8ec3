-- Places by their addresses.
use Rattle.std.proofs.Common.{◌≡◌, ℕ, suc, ◌+◌, ◌≤◌, ◌<◌, List, [], ◌∷◌, length, get_or, refl, sym, ap, ◌∙◌, subst, arith, inl, inr, Bool}
use Rattle.std.specs.Prelude.{not, ◌&&◌, ◌==◌, filter, if◌then◌else◌}
use Rattle.std.specs.Ordering.{nat_cmp, is_lt}
use Rattle.std.proofs.lemmas.Bool.Decides.{nat_tests}
use Rattle.std.specs.List.{AllWithin}
use Rattle.std.specs.List.Sorted.{IsPermutation, IsNonDecreasingBy, IsStableByKey}
use Rattle.std.proofs.lemmas.Bool.{cases_lt}
use Rattle.std.proofs.lemmas.List.{get_or_default}
use Rattle.std.proofs.lemmas.List.Sorted.{All-permutation, Contains-permutation, length_permutation}
use Rattle.notes_index.specs.Indexed.{IsNumbered, IsIndex, ArePlacesOf, numbered_from}

same_filter : (f g : ℕ × ℕ → Bool) → ((x : ℕ × ℕ) → f x ≡ g x) → (xs : List (ℕ × ℕ)) → filter f xs ≡ filter g xs
same_filter f g h [] = refl
same_filter f g h (x ∷ xs) =
    ap (λ (b : Bool). if b then x ∷ filter f xs else filter f xs) (h x) ∙ ap (λ (l : List (ℕ × ℕ)). if g x then x ∷ l else l) (same_filter f g h xs)

tied : (a b : ℕ) → (not (is_lt (nat_cmp a b)) && not (is_lt (nat_cmp b a))) ≡ (b == a)
tied a b = grind (arith, nat_tests)

numbered_is : (places : List ℕ) (j : ℕ) (xs : List (ℕ × ℕ)) → length xs ≡ length places →
    ((k : ℕ) (d : ℕ × ℕ) → k < length places → get_or xs k d ≡ (get_or places k 0, j + k))
    → xs ≡ numbered_from j places
numbered_is [] j [] size each = refl
numbered_is [] j (x ∷ xs) size each = absurd (omega arith)
numbered_is (a ∷ places) j [] size each = absurd (omega arith)
numbered_is (a ∷ places) j (x ∷ xs) size each =
    let z : j + 0 ≡ j = omega arith in
    let first : x ≡ (a, j) = each 0 x (omega arith) ∙ ap (λ (k : ℕ). (a, k)) z in
    let rest = numbered_is places (j + 1) xs (omega arith) (λ k d w. let e : j + suc k
    ≡ j + 1 + k = omega arith in each (suc k) d (omega arith) ∙ ap (λ (i : ℕ). (get_or places k 0, i)) e) in
    ap (λ (y : ℕ × ℕ). y ∷ xs) first ∙ ap (λ (l : List (ℕ × ℕ)). (a, j) ∷ l) rest

-- what a stable sort by address leaves of the places of an address
in_order : (places : List ℕ) (numbered index : List (ℕ × ℕ)) → numbered ≡ numbered_from 0 places → IsStableByKey (λ x. x.0) nat_cmp numbered index
    → (at : ℕ) → filter (λ x. x.0 == at) index ≡ filter (λ x. x.0 == at) (numbered_from 0 places)
in_order places numbered index e stable at =
    let by : ℕ × ℕ → Bool = λ y. not (is_lt (nat_cmp at y.0)) && not (is_lt (nat_cmp y.0 at)) in
    sym (same_filter by (λ (x : ℕ × ℕ). x.0 == at) (λ x. tied at x.0) index) ∙ stable (at, 0) ∙ same_filter by (λ (x : ℕ × ℕ). x.0 == at)
    (λ x. tied at x.0) numbered
    ∙ ap (filter (λ (x : ℕ × ℕ). x.0 == at)) e

-- sorted places are an index
pub index_is : (places : List ℕ) (numbered index : List (ℕ × ℕ)) (n : ℕ) → n ≡ length places → IsNumbered places numbered n → IsPermutation numbered index
    → IsNonDecreasingBy (λ x. x.0) index → IsStableByKey (λ x. x.0) nat_cmp numbered index → IsIndex places index
index_is places numbered index n full is moved rising stable = record {
  count = length_permutation numbered index moved ∙ is.count ∙ full;
  rising = rising;
  all = λ k w.
      let less : k < n = omega arith in
      let count = is.count in
      Contains-permutation numbered index (get_or places k 0, k) moved (k, omega arith, is.each k (get_or places k 0, k) less);
  only =
      All-permutation (λ x. (x.1 < length places) × (x.0 ≡ get_or places x.1 0)) numbered index moved
      (λ k d w.
      let count = is.count in
      let less : k < n = omega arith in
      let here : k < length places = omega arith in
      subst (λ (x : ℕ × ℕ). (x.1 < length places) × (x.0 ≡ get_or places x.1 0)) (sym (is.each k d less)) (here, refl));
  order =
      in_order places numbered index
      (numbered_is places 0 numbered (is.count ∙ full) (λ k d w. let less : k < n = omega arith in let z : 0 + k
      ≡ k = omega arith in is.each k d less ∙ ap (λ (i : ℕ). (get_or places k 0, i)) (sym z)))
      stable;
}

-- the bounds are in order
pub group_ordered : (index : List (ℕ × ℕ)) (at low high : ℕ) → low ≤ length index → high ≤ length index
    → AllWithin (λ x. x.0 < at) index 0 low → AllWithin (λ x. at < x.0) index high (length index) → low ≤ high
group_ordered index at low high fits most below above = elim (cases_lt high low) as (λ _. low ≤ high) [
  | inl less ↦
      let one = below high (0, 0) (omega arith) less in
      let other = above high (0, 0) (omega arith) (omega arith) in
      absurd (omega arith)
  | inr le ↦ le
]

-- what stands between two bounds
pub group_is : (index : List (ℕ × ℕ)) (at low high : ℕ) → low ≤ length index → high ≤ length index
    → AllWithin (λ x. x.0 < at) index 0 low → AllWithin (λ x. at ≤ x.0) index low (length index)
    → AllWithin (λ x. x.0 ≤ at) index 0 high → AllWithin (λ x. at < x.0) index high (length index)
    → (places : List ℕ) → IsIndex places index → ArePlacesOf places index at low high
group_is index at low high fits most below from upto above places is = record {
  only = λ j d l h.
      let one = from j d l (omega arith) in
      let other = upto j d (omega arith) h in
      let here = is.only j d (omega arith) in
      let same : (get_or index j d).0 ≡ at = omega arith in
      (here.0, sym here.1 ∙ same);
  all = λ k w here.
      let has = is.all k w in
      let j = has.0 in
      let d : ℕ × ℕ = (get_or places k 0, k) in
      let within : j < length index = has.1 in
      let address : (get_or index j d).0 ≡ at = ap (λ (x : ℕ × ℕ). x.0) has.2 ∙ here in (
        j,
        elim (cases_lt j low) as (λ _. low ≤ j) [ inl l ↦ (let b = below j d (omega arith) l in absurd (omega arith)) | inr r ↦ r ],
        elim (cases_lt j high) as (λ _. j < high) [ inl l ↦ l | inr r ↦ (let b = above j d r within in absurd (omega arith)) ],
        λ x. ap (λ (y : ℕ × ℕ). y.1) (get_or_default index j x d within ∙ has.2),
      );
}
