-- What is asked on demand is known, and has the literals.
use Rattle.std.proofs.Common.{◌≡◌, ◌⊎◌, inl, inr, refl, ap, sym, subst, arith, ℕ, zero, suc, ◌<◌, [], ◌∷◌, List, Bool, true, false}
use Rattle.std.specs.Prelude.{Contains, ◌==◌, ◌&&◌, ◌||◌, is_some, nat_eq}
use Rattle.std.specs.List.{list_any}
use Rattle.std.proofs.lemmas.Bool.Decides.{nat_tests}
use Rattle.word_spec.specs.Words.{add}
use Rattle.bilv_spec.specs.Run.{Program}
use Rattle.bilv_spec.specs.Verdict.{fixed}
use Rattle.bilv_spec.specs.Points.{is_known_at}
use Rattle.bilv_spec.proofs.Pigeons.{truth}
use Rattle.bilv_spec.proofs.PointSteps.{same_number}
use Rattle.bilv_spec.proofs.PointTests.{any_is, not_any}
use Rattle.bilv_spec.proofs.FileWords.{all_kept_at}
use Rattle.walk_spec.specs.Unrolled.{UnrolledProgram}
use Rattle.walk_spec.specs.Unrolling.{IsUnrolling}
use Rattle.term_spec.specs.WalkQuestions.{is_asked}
use Rattle.term_spec.specs.TermLaws.{AsksKnown, AsksLiterals, AskedIsRight}

either : (a b : Bool) → (a || b) ≡ true → (a ≡ true) ⊎ (b ≡ true)
either true b h = inl refl
either false b h = inr h

or_true : (a b : Bool) → b ≡ true → (a || b) ≡ true
or_true true b h = refl
or_true false b h = h

equal_test : (a : ℕ) → (a == a) ≡ true
equal_test a = grind (arith, nat_tests)

eq_is : (a b : ℕ) → nat_eq a b ≡ true → a ≡ b
eq_is a b h = grind (arith, nat_tests)

any_by : {X : Type 0} (f : X → Bool) (xs : List X) (x : X) → Contains xs x → f x ≡ true → list_any f xs ≡ true
any_by f xs x c h = elim (truth (list_any f xs)) [ inl t ↦ t | inr n ↦ absurd (not_any f xs n x c h) ]

below_four : (i : ℕ) → Contains (0 ∷ 1 ∷ 2 ∷ 3 ∷ []) i → i < 4
below_four i (zero, l, e) = subst (λ (z : ℕ). z < 4) e (omega arith)
below_four i (suc zero, l, e) = subst (λ (z : ℕ). z < 4) e (omega arith)
below_four i (suc (suc zero), l, e) = subst (λ (z : ℕ). z < 4) e (omega arith)
below_four i (suc (suc (suc zero)), l, e) = subst (λ (z : ℕ). z < 4) e (omega arith)
below_four i (suc (suc (suc (suc n))), l, e) = absurd (omega arith)

of_four : (i : ℕ) → i < 4 → Contains (0 ∷ 1 ∷ 2 ∷ 3 ∷ []) i
of_four zero l = (0, omega arith, refl)
of_four (suc zero) l = (1, omega arith, refl)
of_four (suc (suc zero)) l = (2, omega arith, refl)
of_four (suc (suc (suc zero))) l = (3, omega arith, refl)
of_four (suc (suc (suc (suc i)))) l = absurd (omega arith)

module _ (p : Program) (k : ℕ) (u : UnrolledProgram) (un : IsUnrolling p k u) (added : List ℕ) (are : (a : ℕ) → Contains added a → is_known_at p a ≡ true) where
  of_literal : (a : ℕ) → list_any (λ l. list_any (λ i. a == add 32 l i) (0 ∷ 1 ∷ 2 ∷ 3 ∷ [])) u.literals ≡ true → is_known_at p a ≡ true
  of_literal a h =
      let q = any_is (λ l. list_any (λ i. a == add 32 l i) (0 ∷ 1 ∷ 2 ∷ 3 ∷ [])) u.literals h in
      let i = any_is (λ i. a == add 32 q.0 i) (0 ∷ 1 ∷ 2 ∷ 3 ∷ []) q.2 in
      let at : a ≡ add 32 q.0 i.0 = same_number a (add 32 q.0 i.0) i.2 in
      let is = (un.literals q.0).0 q.1 in
      subst (λ (z : ℕ). is_known_at p z ≡ true) (sym at)
      (ap (λ z. z || (is_some (p.loaded (add 32 q.0 i.0)) && fixed p.notes.fixed (add 32 q.0 i.0))) (all_kept_at p q.0 i.0 is.is_kept (below_four i.0 i.1)))

  known : AsksKnown p (is_asked added u.literals)
  known a h = elim (either (list_any (nat_eq a) added) (list_any (λ l. list_any (λ i. a == add 32 l i) (0 ∷ 1 ∷ 2 ∷ 3 ∷ [])) u.literals) h) [
    | inl t ↦ (let q = any_is (nat_eq a) added t in are a (subst (λ (z : ℕ). Contains added z) (sym (eq_is a q.0 q.2)) q.1))
    | inr t ↦ of_literal a t
  ]

  literals : AsksLiterals p k (is_asked added u.literals)
  literals a i is l =
      or_true (list_any (nat_eq (add 32 a i)) added) (list_any (λ x. list_any (λ j. add 32 a i == add 32 x j) (0 ∷ 1 ∷ 2 ∷ 3 ∷ [])) u.literals)
      (any_by (λ x. list_any (λ j. add 32 a i == add 32 x j) (0 ∷ 1 ∷ 2 ∷ 3 ∷ [])) u.literals a ((un.literals a).1 is)
      (any_by (λ j. add 32 a i == add 32 a j) (0 ∷ 1 ∷ 2 ∷ 3 ∷ []) i (of_four i l) (equal_test (add 32 a i))))

pub asked_is_right : AskedIsRight
asked_is_right p k u un added are = (known p k u un added are, literals p k u un added are)
