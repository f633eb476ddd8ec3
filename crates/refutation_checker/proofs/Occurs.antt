-- Places among names, and the variables that occur.
use Rattle.std.proofs.Common.{◌≡◌, ◌≢◌, ℕ, zero, suc, ◌<◌, ◌≤◌, ◌+◌, true, false, List, [], ◌∷◌, ◌++◌, Some, refl, arith, sym, ap, subst, ◌∙◌, eq-eqb, length, inl, inr, get_or}
use Rattle.std.specs.Prelude.{◌==◌}
use Rattle.std.specs.List.{Contains}
use Rattle.std.proofs.lemmas.Bool.{cases_Bool, cases_eq, cases_order, or_cases, eqb-true, ne_eqb}
use Rattle.std.proofs.lemmas.List.Elements.{Contains-append_left, Contains-append_right}
use Rattle.clause_spec.specs.Clauses.{Literal, Clause, same, has, AreOnVariables}
use Rattle.clause_spec.specs.Refutation.{Hint, LogLine, Add, at_start}
use Rattle.clause_spec.proofs.Looks.{same-true}
use Rattle.clause_spec.proofs.RefutationSound.{get-contains}
use Rattle.refutation_checker.specs.Entries.{IsRising}
use Rattle.refutation_checker.specs.Known.{HaveSlots}
use Rattle.refutation_checker.specs.Occurrences.{variables_of, variables_in, variables_by, variables_added}
use Rattle.refutation_checker.specs.Slots.{place_of, IsWithin}
use Rattle.refutation_checker.proofs.Places.{head-below, rising-tail}
use Rattle.refutation_checker.proofs.SlotLaws.{none_above-within}

-- a name's place
pub place-at : (names : List ℕ) (k v : ℕ) → IsRising names → k < length names → get_or names k 0 ≡ v → place_of names v ≡ k
place-at [] k v r lt found = absurd (omega arith)
place-at (n ∷ ns) zero v r lt found = rw (eq-eqb v n (sym found)) refl
place-at (n ∷ ns) (suc k) v r lt found =
    let b = head-below n ns k r (omega arith) in
    let q : (v == n) ≡ false = ne_eqb v n (λ e. omega (arith, e, b, found)) in
    rw q (ap suc (place-at ns k v (rising-tail n ns r) (omega arith) found))

-- the place of what is no name
pub place-behind : (names : List ℕ) (v : ℕ) → ((k : ℕ) → k < length names → get_or names k 0 ≢ v) → place_of names v ≡ length names + v
place-behind [] v none = omega arith
place-behind (n ∷ ns) v none =
    let q : (v == n) ≡ false = ne_eqb v n (λ e. none 0 (omega arith) (sym e)) in
    rw q (let h = place-behind ns v (λ k lt. none (suc k) (omega arith)) in omega (arith, h))

pub not_descending : (xs : List ℕ) → IsRising xs → (i j : ℕ) → i ≤ j → j < length xs → get_or xs i 0 ≤ get_or xs j 0
not_descending xs r i j le lt = elim (cases_eq i j) [
  | inl e ↦ rw e (omega arith)
  | inr e ↦ let h = r i j (omega (arith, e)) lt in omega (arith, h)
]

-- a search that stopped between what is below and what is above
pub not_among : (xs : List ℕ) (x i : ℕ) → ((k : ℕ) → k < i → get_or xs k 0 < x) → ((k : ℕ) → i ≤ k → k < length xs → x < get_or xs k 0) → (k : ℕ) →
    k < length xs → get_or xs k 0 ≢ x
not_among xs x i below above k lt e = elim (cases_order k i) [
  | inl q ↦ let h = above k (omega (arith, q)) lt in omega (arith, h, e)
  | inr o ↦ elim o [
    | inl q ↦ let h = below k q in omega (arith, h, e)
    | inr q ↦ let h = above k (omega (arith, q)) lt in omega (arith, h, e)
  ]
]

pub place-within : (names : List ℕ) (v : ℕ) → Contains names v → place_of names v < length names
place-within [] v (k, lt, is) = absurd (omega arith)
place-within (n ∷ ns) v (zero, lt, is) = rw (eq-eqb v n (sym is)) (omega arith)
place-within (n ∷ ns) v (suc k, lt, is) = elim (cases_Bool (v == n)) [
  | inl a ↦ rw a (omega arith)
  | inr a ↦ rw a (let h = place-within ns v (k, omega arith, is) in omega (arith, h))
]

-- no two variables have one place
pub place-same : (names : List ℕ) (u v : ℕ) → place_of names u ≡ place_of names v → u ≡ v
place-same [] u v h = h
place-same (n ∷ ns) u v h = elim (cases_Bool (u == n)) [
  | inl a ↦ elim (cases_Bool (v == n)) [
    | inl b ↦ eqb-true u n a ∙ sym (eqb-true v n b)
    | inr b ↦ absurd (let g = rw (a, b) at h in omega (arith, g))
  ]
  | inr a ↦ elim (cases_Bool (v == n)) [
    | inl b ↦ absurd (let g = rw (a, b) at h in omega (arith, g))
    | inr b ↦ place-same ns u v (let g = rw (a, b) at h in omega (arith, g))
  ]
]

in-clause : (c : Clause) (l : Literal) → has c l ≡ true → Contains (variables_of c) l.variable
in-clause [] l h = absurd (cc)
in-clause (x ∷ xs) l h = elim (or_cases (same x l) (has xs l) h) [
  | inl s ↦ (0, omega arith, ap (λ (y : Literal). y.variable) (same-true x l s))
  | inr s ↦ let (k, lt, is) = in-clause xs l s in (suc k, omega arith, is)
]

in-clauses : (cs : List Clause) (c : Clause) (l : Literal) → Contains cs c → has c l ≡ true → Contains (variables_in cs) l.variable
in-clauses [] c l (k, lt, is) h = absurd (omega arith)
in-clauses (x ∷ xs) c l (zero, lt, is) h = Contains-append_left (variables_of x) (variables_in xs) l.variable (in-clause x l (ap
    (λ (d : Clause). has d l) is ∙ h))
in-clauses (x ∷ xs) c l (suc k, lt, is) h = Contains-append_right (variables_of x) (variables_in xs) l.variable (in-clauses xs c l (k, omega arith, is) h)

in-log : (ls : List LogLine) (k id : ℕ) (c : Clause) (hs : List Hint) → k < length ls → get_or ls k (Add id c hs) ≡ Add id c hs → (l : Literal) →
    has c l ≡ true → Contains (variables_added ls) l.variable
in-log [] k id c hs lt is l h = absurd (omega arith)
in-log (x ∷ xs) zero id c hs lt is l h =
    Contains-append_left (variables_by x) (variables_added xs) l.variable (subst
    (λ (y : LogLine). Contains (variables_by y) l.variable) (sym is) (in-clause c l h))
in-log (x ∷ xs) (suc k) id c hs lt is l h = Contains-append_right (variables_by x) (variables_added xs) l.variable (in-log xs k id c hs (omega arith) is l h)

-- the slots suffice for clauses over the first n variables, and for a log over them
module _ (n size : ℕ) (names : List ℕ) (cs : List Clause) (log : List LogLine)
    (enough : (x : ℕ) → x ≤ n → Contains (variables_in cs ++ variables_added log) x → place_of names x < size) where
  pub start-within : AreOnVariables n cs → (i : ℕ) (c : Clause) → at_start cs i ≡ Some c → IsWithin names size c
  start-within on zero c h l g = absurd (cc)
  start-within on (suc i) c h l g =
      let k = get-contains cs i c h in
      let w = on c k l g in
      enough l.variable w.1 (Contains-append_left (variables_in cs) (variables_added log) l.variable (in-clauses cs c l k g))

  pub start-ready : HaveSlots n names size log
  start-ready k lt id c hs is low l g =
      enough l.variable (none_above-within n c low l g) (Contains-append_right (variables_in cs) (variables_added log) l.variable
      (in-log log k id c hs lt is l g))
