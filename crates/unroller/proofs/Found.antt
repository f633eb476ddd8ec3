-- Literals that are found one by one.
use Rattle.std.proofs.Common.{◌≡◌, inl, inr, ap, sym, ◌∙◌, subst, arith, ℕ, ◌+◌, ◌<◌, Option, Some, None, List, [], ◌∷◌, ◌++◌, get_or}
use Rattle.std.specs.Prelude.{Contains}
use Rattle.std.proofs.lemmas.Bool.{cases_lt}
use Rattle.bilv_spec.specs.Run.{Program, some_of}
use Rattle.bilv_spec.proofs.PointSteps.{in_left, in_right}
use Rattle.bilv_spec.proofs.PointsInGraph.{none_in, split_in}
use Rattle.unroller.specs.Rows.{literal_at, AreLiterals}

pub literals_none : (p : Program) (addresses found : List ℕ) → found ≡ [] → AreLiterals p addresses 0 found
literals_none p addresses found e a = (
  (λ h. none_in a (subst (λ (l : List ℕ). Contains l a) e h)),
  (λ h. absurd (let w = h.1 in omega arith)),
)

in_some : (o : Option ℕ) (a : ℕ) → Contains (some_of o) a → o ≡ Some a
in_some None a h = none_in a h
in_some (Some x) a (i, w, e) = let z : i ≡ 0 = omega arith in ap (λ (y : ℕ). Some y) (sym (ap (λ (j : ℕ). get_or (x ∷ []) j a) z) ∙ e)

some_in : (o : Option ℕ) (a : ℕ) → o ≡ Some a → Contains (some_of o) a
some_in None a h = absurd (cc)
some_in (Some x) a h = let e : x ≡ a = cc in (0, omega arith, e)

pub literals_more : (p : Program) (addresses : List ℕ) (i : ℕ) (found more : List ℕ) (o : Option ℕ) → AreLiterals p addresses i found →
    more ≡ found ++ some_of o → o ≡ literal_at p (get_or addresses i 0) → AreLiterals p addresses (i + 1) more
literals_more p addresses i found more o are is here a = (
  (λ h.
      elim (split_in found (some_of o) a (subst (λ (l : List ℕ). Contains l a) is h)) as
      (λ _. (j : ℕ) × (j < i + 1) × (literal_at p (get_or addresses j 0) ≡ Some a)) [
        | inl old ↦ (let q = (are a).0 old in let w = q.1 in (q.0, omega arith, q.2))
        | inr new ↦ (i, omega arith, sym here ∙ in_some o a new)
      ]),
  (λ h.
      subst (λ (l : List ℕ). Contains l a) (sym is)
      (elim (cases_lt h.0 i) as (λ _. Contains (found ++ some_of o) a) [
        | inl low ↦ in_left found (some_of o) a ((are a).1 (h.0, low, h.2))
        | inr high ↦ (let w = h.1 in let same : h.0 ≡ i = omega arith in
            in_right found (some_of o) a (some_in o a (here ∙ ap (λ (j : ℕ). literal_at p (get_or addresses j 0)) (sym same) ∙ h.2)))
      ])),
)
