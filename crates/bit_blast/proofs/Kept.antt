-- What the removal of equal neighbours keeps, pair by pair.
use Rattle.std.proofs.Common.{◌≡◌, ℕ, zero, suc, Bool, true, false, List, [], ◌∷◌, refl, ap, sym, ◌∙◌, subst, arith}
use Rattle.std.specs.Prelude.{◌↔◌, ◌&&◌, Contains, eqb, if◌then◌else◌}
use Rattle.std.specs.List.{dedup, dedup_from}
use Rattle.std.specs.List.Sorted.{IsPermutation}
use Rattle.std.proofs.lemmas.Bool.{and_parts}
use Rattle.std.proofs.lemmas.Bool.Decides.{nat_tests}
use Rattle.std.proofs.lemmas.List.Kept.{Contains-from_dedup}
use Rattle.std.proofs.lemmas.List.Sorted.{Contains-permutation, IsPermutation-sym}

-- two pairs of numbers are equal
abbrev pub equal_pairs : ℕ × ℕ → ℕ × ℕ → Bool
equal_pairs x y = eqb x.0 y.0 && eqb x.1 y.1

pub exact : (x y : ℕ × ℕ) → equal_pairs x y ≡ true → x ≡ y
exact (a, b) (c, d) h =
    let p = and_parts (eqb a c) (eqb b d) h in
    let e : a ≡ c = (let q = p.0 in grind (arith, nat_tests)) in
    let f : b ≡ d = (let q = p.1 in grind (arith, nat_tests)) in
    ap (λ (z : ℕ). (z, b)) e ∙ ap (λ (z : ℕ). (c, z)) f

pairs_from : (k : ℕ × ℕ) (xs : List (ℕ × ℕ)) (z : ℕ × ℕ) → Contains (k ∷ xs) z → Contains (dedup_from equal_pairs k xs) z
pairs_from k [] z h = h
pairs_from k (x ∷ xs) z h = by (pairs_from k xs z) (pairs_from x xs z) (equal_pairs x k) refl h
  where
    by : (Contains (k ∷ xs) z → Contains (dedup_from equal_pairs k xs) z) → (Contains (x ∷ xs) z → Contains (dedup_from equal_pairs x xs) z) → (b : Bool) →
        equal_pairs x k ≡ b →
        Contains (k ∷ x ∷ xs) z → Contains (if b then dedup_from equal_pairs k xs else k ∷ dedup_from equal_pairs x xs) z
    by same other true e (zero, l, g) = same (0, omega arith, g)
    by same other true e (suc zero, l, g) = same (0, omega arith, sym (exact x k e) ∙ g)
    by same other true e (suc (suc i), l, g) = same (suc i, omega (arith, l), g)
    by same other false e (zero, l, g) = (0, omega arith, g)
    by same other false e (suc i, l, g) = let q = other (i, omega (arith, l), g) in (suc q.0, omega (arith, q.1), q.2)

pairs_stay : (xs : List (ℕ × ℕ)) (z : ℕ × ℕ) → Contains xs z → Contains (dedup equal_pairs xs) z
pairs_stay [] z h = h
pairs_stay (x ∷ xs) z h = pairs_from x xs z h

-- what a sort and the removal of equal neighbours leave
pub ordered_pairs : (xs ys zs : List (ℕ × ℕ)) → IsPermutation xs ys → zs ≡ dedup equal_pairs ys → (x : ℕ × ℕ) → Contains xs x ↔ Contains zs x
ordered_pairs xs ys zs moved is x = (
  (λ h. subst (λ (l : List (ℕ × ℕ)). Contains l x) (sym is) (pairs_stay ys x (Contains-permutation xs ys x moved h))),
  (λ h. Contains-permutation ys xs x (IsPermutation-sym xs ys moved) (Contains-from_dedup equal_pairs ys x (subst (λ (l : List (ℕ × ℕ)). Contains l x) is h))),
)
