-- Pairs in order, without equal neighbours, rise by their first number where this gives the second.
use Rattle.std.proofs.Common.{◌≡◌, inl, inr, ℕ, zero, suc, ◌+◌, ◌<◌, ◌≤◌, Bool, true, false, List, [], ◌∷◌, length, get_or, refl, ap, sym, ◌∙◌, subst, arith}
use Rattle.std.specs.Prelude.{All, Contains, eqb, if◌then◌else◌}
use Rattle.std.specs.List.{dedup, dedup_from}
use Rattle.std.specs.List.Sorted.{IsPermutation, IsSorted}
use Rattle.std.specs.Ordering.{nat_cmp, ordering_then, is_lt}
use Rattle.std.specs.declared.cmp.Ordering.{Ordering}
use Rattle.std.specs.declared.cmp.Ordering.TheVariants.{Less, Equal, Greater}
use Rattle.std.proofs.lemmas.Bool.{and_from, cases_lt}
use Rattle.std.proofs.lemmas.Bool.Decides.{nat_tests}
use Rattle.std.proofs.lemmas.List.Sorted.{Contains-permutation, IsPermutation-sym}
use Rattle.machine_spec.specs.StateText.{AreRising}
use Rattle.bit_blast.proofs.Kept.{equal_pairs, exact}

-- the order of pairs
abbrev pub pair_order : ℕ × ℕ → ℕ × ℕ → Ordering
pair_order x y = ordering_then (nat_cmp x.0 y.0) (nat_cmp x.1 y.1)

-- the first numbers do not fall
abbrev AreUp : List (ℕ × ℕ) → Type 0
AreUp xs = (i : ℕ) (d : ℕ × ℕ) → suc i < length xs → (get_or xs i d).0 ≤ (get_or xs (suc i) d).0

-- the first number of a pair gives the second
abbrev AreOf : (ℕ → ℕ) → List (ℕ × ℕ) → Type 0
AreOf m xs = (x : ℕ × ℕ) → Contains xs x → m x.0 ≡ x.1

first_less : (x y : Ordering) → is_lt (ordering_then x y) ≡ false → is_lt x ≡ false
first_less Less y h = absurd (cc)
first_less Equal y h = refl
first_less Greater y h = refl

not_below : (a b : ℕ) → is_lt (nat_cmp a b) ≡ false → b ≤ a
not_below a b h = grind (arith, nat_tests)

are_up : (xs : List (ℕ × ℕ)) → IsSorted pair_order xs → AreUp xs
are_up xs h i d l =
    let x = get_or xs i d in
    let y = get_or xs (i + 1) d in
    let next : i + 1 ≡ suc i = omega arith in
    subst (λ (n : ℕ). x.0 ≤ (get_or xs n d).0) next (not_below y.0 x.0
    (first_less (nat_cmp y.0 x.0) (nat_cmp y.1 x.1) (h i d (omega arith) (omega (arith, l)))))

cons_rises : (x : ℕ × ℕ) (xs : List (ℕ × ℕ)) → AreRising xs → All (λ (y : ℕ × ℕ). x.0 < y.0) xs → AreRising (x ∷ xs)
cons_rises x xs h a zero zero d l m = absurd (omega (arith, l))
cons_rises x xs h a zero (suc j) d l m = a j d (omega (arith, m))
cons_rises x xs h a (suc i) zero d l m = absurd (omega (arith, l))
cons_rises x xs h a (suc i) (suc j) d l m = h i j d (omega (arith, l)) (omega (arith, m))

from_first : (x : ℕ × ℕ) (xs : List (ℕ × ℕ)) → All (λ (y : ℕ × ℕ). x.0 ≤ y.0) xs → All (λ (y : ℕ × ℕ). x.0 ≤ y.0) (x ∷ xs)
from_first x xs a zero d l = omega arith
from_first x xs a (suc i) d l = a i d (omega (arith, l))

-- a neighbour with another pair has a greater first number
apart : (m : ℕ → ℕ) (k x : ℕ × ℕ) → k.0 ≤ x.0 → m k.0 ≡ k.1 → m x.0 ≡ x.1 → equal_pairs x k ≡ false → k.0 < x.0
apart m k x up e f h = elim (cases_lt k.0 x.0) [
  | inl l ↦ l
  | inr n ↦ (
      let same : x.0 ≡ k.0 = omega (arith, up, n) in
      let also : x.1 ≡ k.1 = sym f ∙ ap m same ∙ e in
      let p : eqb x.0 k.0 ≡ true = grind (arith, nat_tests) in
      let q : eqb x.1 k.1 ≡ true = grind (arith, nat_tests) in
      let t = sym h ∙ and_from (eqb x.0 k.0) (eqb x.1 k.1) p q in
      absurd (cc))
]

rise_from : (m : ℕ → ℕ) (k : ℕ × ℕ) (xs : List (ℕ × ℕ)) → AreUp (k ∷ xs) → AreOf m (k ∷ xs) →
    AreRising (dedup_from equal_pairs k xs) × All (λ (y : ℕ × ℕ). k.0 ≤ y.0) (dedup_from equal_pairs k xs)
rise_from m k [] up one = ((λ i j d l w. absurd (omega (arith, l, w))), from_first k [] (λ i d l. absurd (omega (arith, l))))
rise_from m k (x ∷ xs) up one =
    by (rise_from m x xs (λ i d l. up (suc i) d (omega (arith, l))) (λ z h. one z (suc h.0, (let w = h.1 in omega arith), h.2))) (equal_pairs x k) refl
  where
    by : AreRising (dedup_from equal_pairs x xs) × All (λ (y : ℕ × ℕ). x.0 ≤ y.0) (dedup_from equal_pairs x xs) → (b : Bool) → equal_pairs x k ≡ b →
        AreRising (if b then dedup_from equal_pairs k xs else k ∷ dedup_from equal_pairs x xs)
        × All (λ (y : ℕ × ℕ). k.0 ≤ y.0) (if b then dedup_from equal_pairs k xs else k ∷ dedup_from equal_pairs x xs)
    by r true e = subst (λ (z : ℕ × ℕ). AreRising (dedup_from equal_pairs z xs) × All (λ (y : ℕ × ℕ). z.0 ≤ y.0) (dedup_from equal_pairs z xs)) (exact x k e) r
    by r false e =
        let near = apart m k x (up 0 k (omega arith)) (one k (0, omega arith, refl)) (one x (1, omega arith, refl)) e in (
          cons_rises k (dedup_from equal_pairs x xs) r.0 (λ i d l. let far = r.1 i d l in omega (arith, near, far)),
          from_first k (dedup_from equal_pairs x xs) (λ i d l. let far = r.1 i d l in omega (arith, near, far)),
        )

rise_all : (m : ℕ → ℕ) (xs : List (ℕ × ℕ)) → AreUp xs → AreOf m xs → AreRising (dedup equal_pairs xs)
rise_all m [] up one = λ i j d l w. absurd (omega (arith, w))
rise_all m (x ∷ xs) up one = (rise_from m x xs up one).0

pub pairs_rise : (m : ℕ → ℕ) (xs ys zs : List (ℕ × ℕ)) → ((x : ℕ × ℕ) → Contains xs x → m x.0 ≡ x.1) → IsPermutation xs ys → IsSorted pair_order ys →
    zs ≡ dedup equal_pairs ys → AreRising zs
pairs_rise m xs ys zs one moved up is =
    subst AreRising (sym is) (rise_all m ys (are_up ys up) (λ x h. one x (Contains-permutation ys xs x (IsPermutation-sym xs ys moved) h)))
