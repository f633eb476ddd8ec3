-- A whole log, line by line.
use Rattle.std.proofs.Common.{◌≡◌, ℕ, ◌<◌, ◌+◌, ◌-◌, List, ◌∷◌, Option, Some, None, arith, sym, ap, ◌∙◌, length, drop, drop-cons, add-one, get_or}
use Rattle.clause_spec.specs.Clauses.{Clause}
use Rattle.clause_spec.specs.Refutation.{LogLine, Bad, Cause, Known, known_at_start, known_after, judge, after_judge, first_refusal, refusal}
use Rattle.refutation_checker.specs.Known.{known_behind}
use Rattle.refutation_checker.proofs.Taken.{known_through-more}

-- at a line of a log, where k is known before it
module _ (n : ℕ) (cs : List Clause) (ls : List LogLine) (i : ℕ) (lt : i < length ls) (k : Known) (is : k ≡ known_behind cs ls i) (o : Option Cause)
    (judged : o ≡ judge n (known_behind cs ls (i + 1 - 1)) (get_or ls (i + 1 - 1) Bad)) (inv : refusal n cs ls ≡ first_refusal n k (i + 1) (drop i ls)) where
  here : o ≡ judge n k (get_or ls i Bad)
  here = let q : i + 1 - 1 ≡ i = omega arith in judged ∙ ap (λ j. judge n (known_behind cs ls j) (get_or ls j Bad)) q ∙ ap
      (λ (g : Known). judge n g (get_or ls i Bad)) (sym is)

  step : refusal n cs ls ≡ after_judge o (i + 1) (first_refusal n (known_after k (get_or ls i Bad)) (i + 1 + 1) (drop (i + 1) ls))
  step =
      inv ∙ ap (first_refusal n k (i + 1)) (drop-cons ls i Bad lt ∙ ap (λ (xs : List LogLine). get_or ls i Bad ∷ xs) (ap (λ j. drop j ls) (sym (add-one i))))
      ∙ ap (λ (p : Option Cause). after_judge p (i + 1) (first_refusal n (known_after k (get_or ls i Bad)) (i + 1 + 1) (drop (i + 1) ls))) (sym here)

  pub refused-here : (e : Cause) → o ≡ Some e → Some (i + 1, e) ≡ refusal n cs ls
  refused-here e h = sym (step ∙ ap (λ (p : Option Cause). after_judge p (i + 1)
      (first_refusal n (known_after k (get_or ls i Bad)) (i + 1 + 1) (drop (i + 1) ls))) h)

  pub passed-here : o ≡ None → (new : Known) → new ≡ known_behind cs ls (i + 1) → refusal n cs ls ≡ first_refusal n new (i + 1 + 1) (drop (i + 1) ls)
  passed-here h new e =
      step ∙ ap (λ (p : Option Cause). after_judge p (i + 1) (first_refusal n (known_after k (get_or ls i Bad)) (i + 1 + 1) (drop (i + 1) ls))) h
      ∙ ap (λ (g : Known). first_refusal n g (i + 1 + 1) (drop (i + 1) ls))
      (sym (e ∙ known_through-more ls (known_at_start cs) i Bad lt ∙ ap (λ (g : Known). known_after g (get_or ls i Bad)) (sym is)))
