-- Leaving out literals of a clause that follows.
use Rattle.std.proofs.Common.{◌≡◌, Bool, true, false, not, ◌&&◌, List, refl, sym, ap, ◌∙◌, inl, inr}
use Rattle.std.proofs.lemmas.Bool.{cases_Bool, and_parts, and_from, both_ways}
use Rattle.clause_spec.specs.Clauses.{Literal, Clause, same, opposite, has}
use Rattle.clause_spec.specs.UnitPropagation.{Includes, Conflicts, negations, negations_but, FollowsByUnits}
use Rattle.clause_spec.specs.Refutation.{at_start}
use Rattle.clause_spec.proofs.Looks.{same-true, same-self}
use Rattle.clause_spec.proofs.AcceptedLines.{accepted_follows}
use Rattle.cnf_form.specs.declared.form.Hint.{Hint}
use Rattle.cnf_form.specs.Views.{hint_of}
use Rattle.std.specs.Prelude.{map}
use Rattle.sat_core.specs.Kept.{others, AreHintsOf, IsKept, IsNeeded}
use Rattle.sat_core.proofs.Backwards.{start-present}
use Rattle.sat_core.proofs.Literals.{has-others, others-part, others-plain}
use Rattle.sat_core.proofs.Quiet.{conflicts-more}

pub hints-follow : (cs : List Clause) (c : Clause) (hints : List Hint) → AreHintsOf cs c hints → FollowsByUnits cs c
hints-follow cs c hints h = accepted_follows cs (at_start cs) c (map hint_of hints) (start-present cs) h.judged

but-part : (c e : Clause) (l : Literal) → ((m : Literal) → has c m ≡ true → has e m ≡ true) → Includes (negations_but c l) (negations_but e l)
but-part c e l p m h =
    let q = and_parts (has c (opposite m)) (not (same l (opposite m))) h in
    and_from (has e (opposite m)) (not (same l (opposite m))) (p (opposite m) q.0) q.1

and_no : (b : Bool) → (b && false) ≡ false
and_no true = refl
and_no false = refl

module _ (cs : List Clause) (kept : Clause) where
  -- a literal is left out
  pub kept-drop : (full : Clause) (hints : List Hint) (y : Literal) (found : List Hint) → IsKept cs full kept hints → AreHintsOf cs (others kept y) found →
      IsKept cs full (others kept y) found
  kept-drop full hints y found h a = record {
    hinted = a;
    part = λ m p. h.part m (others-part kept y m p);
    plain = others-plain kept y h.plain;
    needed = λ x p n. elim (cases_Bool (same y x)) [
      | inl e ↦ absurd (n (conflicts-more cs (negations (others kept y)) (negations_but full x)
          (λ m q. but-part kept full x h.part m (ap (λ (z : Literal). negations_but kept z m) (sym (same-true y x e)) ∙ sym
          (has-others kept y (opposite m)) ∙ q))
          (hints-follow cs (others kept y) found a)))
      | inr e ↦ has-others kept y x ∙ and_from (has kept x) (not (same y x)) (h.needed x p n) (rw e refl)
    ];
  }

  pub needed-drop : (y l : Literal) → IsNeeded cs kept l → IsNeeded cs (others kept y) l
  needed-drop y l n p f = n (others-part kept y l p) (conflicts-more cs (negations_but (others kept y) l) (negations_but kept l)
      (but-part (others kept y) kept l (others-part kept y)) f)

  pub needed-dropped : (y : Literal) → IsNeeded cs (others kept y) y
  needed-dropped y p f = both_ways (has (others kept y) y) (has-others kept y y ∙ rw (same-self y) (and_no (has kept y))) p

  pub needed-stays : (y : Literal) → (Conflicts cs (negations (others kept y)) → ⊥) → IsNeeded cs kept y
  needed-stays y n p f = n (conflicts-more cs (negations_but kept y) (negations (others kept y)) (λ m q. has-others kept y (opposite m) ∙ q) f)
