-- Why a learned clause is empowering.
use Rattle.std.proofs.Common.{◌≡◌, Bool, true, false, not, List, [], ◌∷◌, ◌++◌, sym, ap, ◌∙◌, inl, inr, ◌⊎◌}
use Rattle.std.proofs.lemmas.Bool.{cases_Bool, and_parts, both_ways, not-true}
use Rattle.clause_spec.specs.Clauses.{Literal, Clause, same, opposite, has}
use Rattle.clause_spec.specs.UnitPropagation.{Includes, Conflicts, negations, negations_but}
use Rattle.clause_spec.specs.Refutation.{is_tautology}
use Rattle.clause_spec.specs.Empowering.{IsEmpowering}
use Rattle.clause_spec.proofs.Looks.{same-true, same-self}
use Rattle.clause_spec.proofs.NewClauses.{opposite_twice}
use Rattle.cnf_form.specs.declared.form.Hint.{Hint}
use Rattle.sat_core.specs.ClosedSets.{IsQuiet}
use Rattle.sat_core.specs.Kept.{IsKept, IsNeeded}
use Rattle.sat_core.specs.Descents.{IsDecided}
use Rattle.sat_core.proofs.Literals.{has-last, last-self, cases-last, none-has, plain-apart}
use Rattle.sat_core.proofs.Quiet.{quiet-no_conflict, quiet-not_given}

-- Propagation has nothing to do in a set in which all literals of the clause but l are false, and l is not true. Where without each of the others nothing
-- follows, the clause is empowering.
pub empowering-at : (cs : List Clause) (kept : Clause) (l : Literal) (holds : Literal → Bool) → IsQuiet cs holds → is_tautology kept ≡ false →
    has kept l ≡ true →
    holds l ≡ false → ((m : Literal) → has kept m ≡ true → same l m ≡ false → holds (opposite m) ≡ true) →
    ((m : Literal) → has kept m ≡ true → same l m ≡ false → Conflicts cs (negations_but kept m) → ⊥) → IsEmpowering cs kept
empowering-at cs kept l holds q p hl o f n =
    let part : Includes (negations_but kept l) holds = λ m p.
    (let r = and_parts (has kept (opposite m)) (not (same l (opposite m))) p in
    ap holds (sym (opposite_twice m)) ∙ f (opposite m) r.0 (not-true (same l (opposite m)) r.1)) in
    record {
      plain = plain-apart kept p;
      no_conflict = λ x hx c. elim (cases_Bool (same l x)) [
        | inl e ↦ quiet-no_conflict cs (negations_but kept l) holds q part (rw (← same-true l x e) at c)
        | inr e ↦ n x hx e c
      ];
      literal = l;
      among = hl;
      not_given = quiet-not_given cs (negations_but kept l) holds q part l o;
    }

module _ (cs : List Clause) (full kept : Clause) (hints : List Hint) (k : IsKept cs full kept hints) (n : (l : Literal) → IsNeeded cs kept l) where
  at-last : (e : Clause) (l : Literal) → full ≡ e ++ l ∷ [] → (holds : Literal → Bool) → IsQuiet cs holds → Includes (negations e) holds → holds l ≡ false →
      IsEmpowering cs kept
  at-last e l q holds quiet inc free =
      let last : (m : Literal) → has full m ≡ true → same l m ≡ false → has e m ≡ true = λ m h d.
      (elim (has-last e l m (ap (λ (z : Clause). has z m) (sym q) ∙ h)) [
        | inl a ↦ a
        | inr b ↦ absurd (both_ways (same l m) d (ap (same l) (sym b) ∙ same-self l))
      ]) in
      let but : Includes (negations_but full l) holds = λ m p.
      (let r = and_parts (has full (opposite m)) (not (same l (opposite m))) p in inc m (last (opposite m) r.0 (not-true (same l (opposite m)) r.1))) in
      let among : has full l ≡ true = ap (λ (z : Clause). has z l) q ∙ last-self e l in
      empowering-at cs kept l holds quiet k.plain (k.needed l among (quiet-no_conflict cs (negations_but full l) holds quiet but)) free
      (λ m h d. inc (opposite m) (ap (has e) (opposite_twice m) ∙ last m (k.part m h) d))
      (λ m h d. n m h)

  -- the last decision is in the clause, and propagation from the others had not made it
  pub learned-useful : IsDecided cs full → (kept ≡ []) ⊎ IsEmpowering cs kept
  learned-useful d = elim (cases-last full) [
    | inl e ↦ inl (none-has kept (λ m p. let g = rw e at (k.part m p) in cc))
    | inr r ↦ let f = d r.0 r.1 r.2 in inr (at-last r.0 r.1 r.2 f.0 f.1 f.2 f.3)
  ]
