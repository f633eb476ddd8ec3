-- Decisions: one more, and what propagation adds.
use Rattle.std.proofs.Common.{◌≡◌, ℕ, ◌≤◌, Bool, false, List, [], ◌∷◌, ◌++◌, refl, sym, ap, ◌∙◌, inl, inr}
use Rattle.std.proofs.lemmas.Bool.{cases_Bool, both_ways, or_cases}
use Rattle.clause_spec.specs.Clauses.{Literal, Clause, same, opposite, has}
use Rattle.clause_spec.specs.UnitPropagation.{Includes, negations}
use Rattle.clause_spec.specs.Refutation.{added}
use Rattle.clause_spec.proofs.Looks.{same-true, same-self, or_left, or_right}
use Rattle.clause_spec.proofs.NewClauses.{opposite_twice}
use Rattle.sat_core.specs.ClosedSets.{IsQuiet, IsGiven}
use Rattle.sat_core.specs.Descents.{IsTaken}
use Rattle.sat_core.proofs.Literals.{has-last, last-front, last-self, plain-last, same-last}

module _ (cs : List Clause) (n : ℕ) (full : Clause) (h k : Literal → Bool) (t : IsTaken cs n full h) where
  pub taken-grows : Includes h k → ((g : Literal → Bool) → IsGiven cs g h → IsGiven cs g k) → IsTaken cs n full k
  taken-grows i g = record { over = t.over; plain = t.plain; decided = t.decided; included = λ l p. i l (t.included l p); given = g (negations full) t.given }

  -- one more decision: d is decided true
  pub decide : IsQuiet cs h → (d : Literal) → 1 ≤ d.variable → d.variable ≤ n → h d ≡ false → h (opposite d) ≡ false → ((m : Literal) → k m ≡ added d h m) →
      IsTaken cs n (full ++ opposite d ∷ []) k
  decide quiet d low high free not_false now = record {
    over = λ m p. elim (has-last full (opposite d) m p) [ inl e ↦ t.over m e | inr e ↦ rw (← e) (low, high) ];
    plain = plain-last full (opposite d) t.plain (elim (cases_Bool (has full (opposite (opposite d)))) [
      | inl e ↦ absurd (both_ways (h (opposite d)) not_false (t.included (opposite d) e))
      | inr e ↦ e
    ]);
    decided = λ e x q. let r = same-last full e (opposite d) x q in
        (h, quiet, (λ m p. t.included m (ap (λ (z : Clause). has z (opposite m)) r.0 ∙ p)), ap h (sym r.1) ∙ not_false);
    included = λ m p. elim (has-last full (opposite d) (opposite m) p) [
      | inl e ↦ now m ∙ or_right (same d m) (h m) (t.included m e)
      | inr e ↦ let s : d ≡ m = sym (opposite_twice d) ∙ ap opposite e ∙ opposite_twice m
          in now m ∙ or_left (same d m) (h m) (ap (same d) (sym s) ∙ same-self d)
    ];
    given = λ s i c m p. elim (or_cases (same d m) (h m) (sym (now m) ∙ p)) [
      | inl e ↦ i m (ap (λ (z : Literal). has (full ++ opposite d ∷ []) (opposite z)) (sym (same-true d m e)) ∙ last-self full (opposite d))
      | inr e ↦ t.given s (λ j q. i j (last-front full (opposite d) (opposite j) q)) c m e
    ];
  }

no-last : (e : Clause) (l : Literal) → [] ≡ e ++ l ∷ [] → ⊥
no-last [] l q = cc
no-last (x ∷ xs) l q = cc

-- no decisions
pub taken-start : (cs : List Clause) (n : ℕ) (h : Literal → Bool) → ((m : Literal) → h m ≡ false) → IsTaken cs n [] h
taken-start cs n h none = record {
  over = λ m p. absurd (cc);
  plain = refl;
  decided = λ e l q. absurd (no-last e l q);
  included = λ m p. absurd (cc);
  given = λ s i c m p. absurd (both_ways (h m) (none m) p);
}
