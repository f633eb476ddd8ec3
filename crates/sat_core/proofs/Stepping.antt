-- Trails: a step more, and a step less.
use Rattle.std.proofs.Common.{◌≡◌, ◌≢◌, ℕ, zero, suc, ◌+◌, ◌<◌, Bool, true, false, not, List, [], ◌∷◌, ◌++◌, Option, Some, None, refl, arith, sym, ap, ◌∙◌, subst, length, get_or, slice_set, replicate, eq-eqb, inl, inr, get_or-set_other, get_or-set_same, length-append, append-nil, append_assoc}
use Rattle.std.specs.Prelude.{◌==◌, reverse}
use Rattle.std.proofs.lemmas.Bool.{cases_Bool, eqb-true, both_ways, ne_eqb}
use Rattle.std.proofs.lemmas.List.{length-set, reverse-append}
use Rattle.clause_spec.specs.Clauses.{Literal, Clause}
use Rattle.clause_spec.specs.Refutation.{added}
use Rattle.clause_spec.proofs.Looks.{same-self}
use Rattle.sat_core.specs.declared.trail.Step.{Step}
use Rattle.sat_core.specs.Tables.{value_is, true_in, open_count}
use Rattle.sat_core.specs.Steps.{told, IsStep, AreSteps}
use Rattle.sat_core.specs.Trails.{nothing, AreFresh, IsTrail, IsRun}
use Rattle.sat_core.proofs.Backwards.{last-first}
use Rattle.sat_core.proofs.Literals.{fun_ext}

open_count-cleared : (t : List (Option Bool)) (v : ℕ) → v < length t → get_or t v None ≢ None → open_count (slice_set t v None) ≡ open_count t + 1
open_count-cleared [] v lt h = absurd (omega arith)
open_count-cleared (None ∷ os) zero lt h = absurd (h refl)
open_count-cleared (Some x ∷ os) zero lt h = omega arith
open_count-cleared (None ∷ os) (suc v) lt h = omega (arith, open_count-cleared os v (omega arith) h)
open_count-cleared (Some x ∷ os) (suc v) lt h = open_count-cleared os v (omega arith) h

has-value : (o : Option Bool) (p : Bool) → value_is o p ≡ true → o ≢ None
has-value None p h e = cc
has-value (Some b) p h e = cc

same_variable : (p q : Bool) (v : ℕ) → (h : Literal → Bool) → h (record { variable = v; positive = p }) ≡ false →
    h (record { variable = v; positive = not p }) ≡ false → h (record { variable = v; positive = q }) ≡ false
same_variable true true v h a b = a
same_variable true false v h a b = b
same_variable false true v h a b = b
same_variable false false v h a b = a

-- one step less
pub trail-less : (table : List (Option Bool)) (steps fewer : List Step) (s : Step) (room : ℕ) → IsTrail table steps room → steps ≡ fewer ++ s ∷ [] →
    IsTrail (slice_set table s.lit.variable None) fewer room
trail-less table steps fewer s room t is =
    let e = last-first steps fewer s is in
    let fresh : AreFresh (length table) (s ∷ reverse fewer) = subst (AreFresh (length table)) e t.fresh in
    let lt : s.lit.variable < length table = fresh.0.0 in
    let set : true_in table s.lit ≡ true = t.told_by s.lit ∙ ap (λ (z : List Step). told nothing z s.lit) e ∙ rw (same-self s.lit) refl in
    let some = has-value (get_or table s.lit.variable None) s.lit.positive set in
    record {
      told_by = λ m. elim (cases_Bool (m.variable == s.lit.variable)) [
        | inl q ↦
            let z : m.variable ≡ s.lit.variable = eqb-true m.variable s.lit.variable q in
            let a : get_or (slice_set table s.lit.variable None) m.variable None ≡ None =
            ap (λ i. get_or (slice_set table s.lit.variable None) i None) z ∙ get_or-set_same table s.lit.variable None None lt in
            let b = same_variable s.lit.positive m.positive s.lit.variable (told nothing (reverse fewer)) fresh.0.1 fresh.0.2 in
            let d : told nothing (reverse fewer) m ≡ false = ap (λ i. told nothing (reverse fewer) (record { variable = i; positive = m.positive })) z ∙ b in
            ap (λ o. value_is o m.positive) a ∙ sym d
        | inr q ↦
            let ne : m.variable ≢ s.lit.variable = λ z. both_ways (m.variable == s.lit.variable) q (eq-eqb m.variable s.lit.variable z) in
            let d : (s.lit.variable == m.variable) ≡ false = ne_eqb s.lit.variable m.variable (λ z. ne (sym z)) in
            let a : told nothing (s ∷ reverse fewer) m ≡ told nothing (reverse fewer) m = rw d refl in
            ap (λ o. value_is o m.positive) (get_or-set_other table s.lit.variable m.variable None None ne) ∙ t.told_by m ∙ ap
            (λ (z : List Step). told nothing z m) e ∙ a
      ];
      fresh = rw (length-set table s.lit.variable None) fresh.1;
      count = (let r = t.count in omega (
        arith,
        open_count-cleared table s.lit.variable lt some,
        ap length is,
        length-append fewer (s
            ∷ []),
        length-set table s.lit.variable None,
      ));
      room = rw (length-set table s.lit.variable None) t.room;
    }

open_count-none : (t : List (Option Bool)) → ((v : ℕ) → get_or t v None ≡ None) → open_count t ≡ length t
open_count-none [] f = refl
open_count-none (None ∷ os) f = omega (arith, open_count-none os (λ v. f (suc v)))
open_count-none (Some x ∷ os) f = absurd (let e : Some x ≡ None = f zero in cc)

is-none : (o : Option Bool) → value_is o true ≡ false → value_is o false ≡ false → o ≡ None
is-none None a b = refl
is-none (Some true) a b = cc
is-none (Some false) a b = cc

-- no steps
pub trail-start : (table : List (Option Bool)) (steps : List Step) (size room : ℕ) → length table ≡ size → room ≡ size → steps ≡ [] →
    ((m : Literal) → true_in table m ≡ false) → IsTrail table steps room
trail-start table steps size room e r n none = rw n record {
  told_by = none;
  fresh = tt;
  count = omega (
    arith,
    open_count-none table (λ v. is-none (get_or table v None) (none (record { variable = v; positive = true }))
        (none (record { variable = v; positive = false }))),
  );
  room = omega (arith, e, r);
}

no_value_at : (n v : ℕ) (p : Bool) → value_is (get_or (replicate n None) v None) p ≡ false
no_value_at zero v p = refl
no_value_at (suc n) zero p = refl
no_value_at (suc n) (suc v) p = no_value_at n v p

pub none-true : (n : ℕ) (m : Literal) → true_in (replicate n None) m ≡ false
none-true n m = no_value_at n m.variable m.positive

-- runs of steps that clauses make
module _ (cs : List Clause) (before : List Step) where
  pub run-nothing : IsRun cs before before
  run-nothing = ([], sym (append-nil before), tt)

  told-append : (given : Literal → Bool) (steps more : List Step) → told (told given steps) more ≡ told given (more ++ steps)
  told-append given steps [] = refl
  told-append given steps (s ∷ more) = ap (added s.lit) (told-append given steps more)

  pub told-after : (after more : List Step) → after ≡ before ++ more → told (told nothing (reverse before)) (reverse more) ≡ told nothing (reverse after)
  told-after after more e = told-append nothing (reverse before) (reverse more) ∙ ap (told nothing) (sym (ap reverse e ∙ reverse-append before more))

  pub run-step : (after more : List Step) (s : Step) (holds : Literal → Bool) → IsRun cs before after →
      ((m : Literal) → holds m ≡ told nothing (reverse after) m) →
      IsStep cs holds s.clause s.lit → more ≡ after ++ s ∷ [] → IsRun cs before more
  run-step after more s holds r tells k e =
      let w : told (told nothing (reverse before)) (reverse r.0)
      ≡ holds = told-after after r.0 r.1 ∙ sym (fun_ext holds (told nothing (reverse after)) tells) in (
        r.0 ++ s ∷ [],
        e ∙ ap (λ z. z ++ s ∷ []) r.1 ∙ append_assoc before r.0 (s ∷ []),
        subst (AreSteps cs (told nothing (reverse before))) (sym (last-first (r.0 ++ s ∷ []) r.0 s refl))
            (subst (λ (h : Literal → Bool). IsStep cs h s.clause s.lit) (sym w) k, r.2),
      )

steps-append : (cs : List Clause) (given : Literal → Bool) (steps more : List Step) → AreSteps cs given steps → AreSteps cs (told given steps) more →
    AreSteps cs given (more ++ steps)
steps-append cs given steps [] a b = a
steps-append cs given steps (s ∷ more) a b =
    (subst (λ (h : Literal → Bool). IsStep cs h s.clause s.lit) (told-append cs steps given steps more) b.0, steps-append cs given steps more a b.1)

pub run-run : (cs : List Clause) (first second third : List Step) → IsRun cs first second → IsRun cs second third → IsRun cs first third
run-run cs first second third r t = (
  r.0 ++ t.0,
  t.1 ∙ ap (λ z. z ++ t.0) r.1 ∙ append_assoc first r.0 t.0,
  subst (AreSteps cs (told nothing (reverse first))) (sym (reverse-append r.0 t.0))
      (steps-append cs (told nothing (reverse first)) (reverse r.0) (reverse t.0) r.2
      (subst (λ (h : Literal → Bool). AreSteps cs h (reverse t.0)) (sym (told-after cs first second r.0 r.1)) t.2)),
)

-- one more step behind others
pub steps-more : (first middle last : List Step) (s : Step) → ((more : List Step) × (middle ≡ first ++ more)) → last ≡ middle ++ s ∷ [] →
    (more : List Step) × (last ≡ first ++ more)
steps-more first middle last s m e = (m.0 ++ s ∷ [], e ∙ ap (λ (z : List Step). z ++ s ∷ []) m.1 ∙ append_assoc first m.0 (s ∷ []))
