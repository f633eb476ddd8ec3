-- The test of clauses over variables.
use Rattle.std.proofs.Common.{◌≡◌, ℕ, zero, suc, ◌≤◌, true, ◌&&◌, List, [], ◌∷◌, refl, arith, ap, subst, inl, inr}
use Rattle.std.specs.Prelude.{nat_le}
use Rattle.std.specs.List.{list_all}
use Rattle.std.proofs.lemmas.Bool.{and_parts, and_from, or_cases}
use Rattle.std.proofs.lemmas.Bool.Decides.{nat_tests}
use Rattle.clause_spec.specs.Clauses.{Literal, Clause, same, has, IsOnVariables, AreOnVariables}
use Rattle.clause_spec.proofs.Looks.{same-self, same-true, or_left, or_right}
use Rattle.cnf_form.specs.Ranges.{is_on_variables}

one-sound : (n : ℕ) (c : Clause) → is_on_variables n c ≡ true → IsOnVariables n c
one-sound n [] h l k = absurd (cc)
one-sound n (x ∷ xs) h l k =
    let g = and_parts (nat_le 1 x.variable && nat_le x.variable n) (is_on_variables n xs) h in
    let f = and_parts (nat_le 1 x.variable) (nat_le x.variable n) g.0 in
    elim (or_cases (same x l) (has xs l) k) [
      | inl e ↦ let q : x.variable ≡ l.variable = ap (λ (y : Literal). y.variable) (same-true x l e)
          in (grind (arith, nat_tests, f.0, q), grind (arith, nat_tests, f.1, q))
      | inr e ↦ one-sound n xs g.1 l e
    ]

one-complete : (n : ℕ) (c : Clause) → IsOnVariables n c → is_on_variables n c ≡ true
one-complete n [] h = refl
one-complete n (x ∷ xs) h =
    let r = h x (or_left (same x x) (has xs x) (same-self x)) in
    and_from (nat_le 1 x.variable && nat_le x.variable n) (is_on_variables n xs) (both x.variable r.0 r.1)
    (one-complete n xs (λ l k. h l (or_right (same x l) (has xs l) k))) where
      both : (v : ℕ) → 1 ≤ v → v ≤ n → (nat_le 1 v && nat_le v n) ≡ true
      both v a b = grind (arith, nat_tests, a, b)

pub on-sound : (n : ℕ) (cs : List Clause) → list_all (is_on_variables n) cs ≡ true → AreOnVariables n cs
on-sound n [] h c k = absurd (omega (arith, k.1))
on-sound n (x ∷ xs) h c (zero, k, e) = subst (IsOnVariables n) e (one-sound n x (and_parts (is_on_variables n x) (list_all (is_on_variables n) xs) h).0)
on-sound n (x ∷ xs) h c (suc i, k, e) = on-sound n xs (and_parts (is_on_variables n x) (list_all (is_on_variables n) xs) h).1 c (i, omega arith, e)

pub on-complete : (n : ℕ) (cs : List Clause) → AreOnVariables n cs → list_all (is_on_variables n) cs ≡ true
on-complete n [] h = refl
on-complete n (x ∷ xs) h =
    and_from (is_on_variables n x) (list_all (is_on_variables n) xs) (one-complete n x (h x (0, omega arith, refl)))
    (on-complete n xs (λ c k. h c (suc k.0, (let a = k.1 in omega arith), k.2)))
