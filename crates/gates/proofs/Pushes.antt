-- One more clause.
use Rattle.std.proofs.Common.{◌≡◌, ℕ, zero, suc, ◌<◌, ◌≤◌, Bool, true, false, ◌&&◌, ◌||◌, List, [], ◌∷◌, ◌++◌, length, map, refl, ◌∙◌, ap, subst, arith, get_or}
use Rattle.std.specs.Prelude.{nat_le}
use Rattle.std.proofs.lemmas.Bool.{and_parts, and_from}
use Rattle.std.proofs.lemmas.Bool.Decides.{nat_tests}
use Rattle.std.proofs.lemmas.List.Folds.{list_all-append}
use Rattle.clause_spec.specs.Clauses.{Clause, clause_value, literal_value, Satisfies}
use Rattle.cnf_form.specs.Ranges.{is_on_variables}
use Rattle.gates.specs.declared.bit.Bit.{Bit}
use Rattle.gates.specs.Circuits.{literal_of, bit_value, any_of, Within, variable_of}
use Rattle.gates.specs.Pushes.{satisfied, AreOver}

-- the clause of the bits is true where one of them is
pub any_value : (v : ℕ → Bool) (bs : List Bit) → clause_value v (map literal_of bs) ≡ any_of v bs
unfolding bit_value
any_value v [] = refl
any_value v (b ∷ bs) = ap (λ t. literal_value v (literal_of b) || t) (any_value v bs)

and_true : (b : Bool) → (b && true) ≡ b
and_true true = refl
and_true false = refl

pub satisfied_push : (v : ℕ → Bool) (cs : List Clause) (bs : List Bit) → satisfied v (cs ++ map literal_of bs ∷ []) ≡ (satisfied v cs && any_of v bs)
satisfied_push v cs bs =
    list_all-append (clause_value v) cs (map literal_of bs ∷ [])
    ∙ ap (λ t. satisfied v cs && t) (and_true (clause_value v (map literal_of bs)) ∙ any_value v bs)

one_over : (m x : ℕ) → x < m → (nat_le 1 (suc x) && nat_le (suc x) m) ≡ true
one_over m x h = let f : suc x ≤ m = omega arith in let g : 1 ≤ suc x = omega arith in grind (arith, nat_tests, f, g)

pub bits_over : (m : ℕ) (bs : List Bit) → ((k : ℕ) (d : Bit) → k < length bs → variable_of (get_or bs k d) < m) → is_on_variables m (map literal_of bs) ≡ true
bits_over m [] h = refl
bits_over m (b ∷ bs) h = and_from _ _ (one_over m (variable_of b) (h 0 b (omega arith))) (bits_over m bs (λ k d l. h (suc k) d (omega arith)))

pub over_push : (m : ℕ) (cs : List Clause) (bs : List Bit) → Within m bs → AreOver m cs → AreOver m (cs ++ map literal_of bs ∷ [])
over_push m cs bs w o =
    record { each = list_all-append (is_on_variables m) cs (map literal_of bs ∷ []) ∙ and_from _ _ o.each (and_from _ _ (bits_over m bs w.each) refl) }

-- ---- the tests and what they say

pub satisfies-from : (v : ℕ → Bool) (cs : List Clause) → satisfied v cs ≡ true → Satisfies v cs
satisfies-from v [] h c k = absurd (omega (arith, k.1))
satisfies-from v (x ∷ xs) h c (zero, k, e) = subst (λ d. clause_value v d ≡ true) e (and_parts (clause_value v x) (satisfied v xs) h).0
satisfies-from v (x ∷ xs) h c (suc i, k, e) = satisfies-from v xs (and_parts (clause_value v x) (satisfied v xs) h).1 c (i, omega arith, e)

pub satisfies-to : (v : ℕ → Bool) (cs : List Clause) → Satisfies v cs → satisfied v cs ≡ true
satisfies-to v [] h = refl
satisfies-to v (x ∷ xs) h =
    and_from (clause_value v x) (satisfied v xs) (h x (0, omega arith, refl)) (satisfies-to v xs (λ c k. h c (suc k.0, (let a = k.1 in omega arith), k.2)))
