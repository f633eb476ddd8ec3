-- An empowering clause has no part that is there already.
use Rattle.std.proofs.Common.{◌≡◌, Bool, true, false, not, ◌&&◌, ◌||◌, List, [], ◌∷◌, refl, ap, ◌∙◌, inl, inr}
use Rattle.std.specs.Prelude.{Contains}
use Rattle.std.proofs.lemmas.Bool.{cases_Bool, and_from, both_ways}
use Rattle.clause_spec.specs.Clauses.{Literal, Clause, same, opposite, has}
use Rattle.clause_spec.specs.UnitPropagation.{others_false, negations_but}
use Rattle.clause_spec.specs.Empowering.{IsEmpowering}
use Rattle.clause_spec.specs.CertificateLaws.{IsPartOf}
use Rattle.clause_spec.proofs.Looks.{same-true, same-self, or_left, or_right}

twice : (b : Bool) → not (not b) ≡ b
twice true = refl
twice false = refl

pub opposite_twice : (l : Literal) → opposite (opposite l) ≡ l
opposite_twice l = ap (λ b. record { variable = l.variable; positive = b }) (twice l.positive)

-- two literals in the other order
pub differ_swap : (l m : Literal) → same m l ≡ false → same l m ≡ false
differ_swap l m h = elim (cases_Bool (same l m)) [
  | inl e ↦ absurd (both_ways (same m l) h (ap (λ k. same m k) (same-true l m e) ∙ same-self m))
  | inr e ↦ e
]

-- the negation of each other literal of the clause is given
given_opposite : (c : Clause) (l m : Literal) → has c m ≡ true → same l m ≡ false → negations_but c l (opposite m) ≡ true
given_opposite c l m h n =
    ap (λ k. has c k && not (same l k)) (opposite_twice m) ∙ and_from (has c m) (not (same l m)) h (ap not n)

others_from : (holds : Literal → Bool) (l : Literal) (d : Clause) → ((m : Literal) → has d m ≡ true → (same m l || holds (opposite m)) ≡ true) →
    others_false holds l d ≡ true
others_from holds l [] f = refl
others_from holds l (m ∷ ms) f =
    and_from (same m l || holds (opposite m)) (others_false holds l ms) (f m (or_left (same m m) (has ms m) (same-self m)))
    (others_from holds l ms (λ k h. f k (or_right (same m k) (has ms k) h)))

pub empowering_is_new : (cs : List Clause) (c d : Clause) → IsEmpowering cs c → Contains cs d → ¬ IsPartOf d c
empowering_is_new cs c d e k part = elim (cases_Bool (has d e.literal)) [
  | inl h ↦ e.not_given (λ holds i closed. closed d k e.literal h (others_from holds e.literal d (λ m g. elim (cases_Bool (same m e.literal)) [
    | inl s ↦ or_left (same m e.literal) (holds (opposite m)) s
    | inr s ↦ or_right (same m e.literal) (holds (opposite m))
        (i (opposite m) (given_opposite c e.literal m (part m g) (differ_swap e.literal m s)))
  ])))
  | inr h ↦ e.no_conflict e.literal e.among (
    d,
    k,
    λ m g holds i closed. i (opposite m) (given_opposite c e.literal m (part m g)
        (elim (cases_Bool (same e.literal m)) [
          | inl s ↦ absurd (both_ways (has d e.literal) h (ap (has d) (same-true e.literal m s) ∙ g))
          | inr s ↦ s
        ])),
  )
]
