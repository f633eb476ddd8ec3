-- Hints from a conflict backwards: those of the steps that it needs are enough.
use Rattle.std.proofs.Common.{◌≡◌, ℕ, zero, suc, ◌+◌, ◌≤◌, ◌<◌, Bool, true, false, ◌||◌, List, [], ◌∷◌, ◌++◌, map, Some, None, refl, arith, sym, ap, ◌∙◌, length, get_or, slice_set, add-one, subst, inl, inr}
use Rattle.std.specs.Prelude.{slice_get, Contains, reverse, nat_lt, nat_le, ◌&&◌}
use Rattle.std.specs.List.{list_all}
use Rattle.std.proofs.lemmas.List.{reverse-append}
use Rattle.std.proofs.lemmas.Option.{slice_get_within, get_or_from_slice_get}
use Rattle.std.proofs.lemmas.Bool.Decides.{nat_tests}
use Rattle.std.proofs.lemmas.Bool.{cases_Bool, both_ways}
use Rattle.clause_spec.specs.Clauses.{Literal, Clause, same, opposite, has, AreOnVariables}
use Rattle.clause_spec.specs.Refutation.{Hint, ById, Conflict, UnitOf, look_of, judge_hints, at_start, added}
use Rattle.clause_spec.proofs.Looks.{same-true, look-unit}
use Rattle.clause_spec.proofs.RefutationSound.{get-contains}
use Rattle.cnf_form.specs.declared.form.Hint as code
use Rattle.cnf_form.specs.declared.form.Hint.TheVariants as variants
use Rattle.cnf_form.specs.Views.{hint_of}
use Rattle.sat_core.specs.declared.trail.Step.{Step}
use Rattle.sat_core.specs.Steps.{IsStep, told, AreSteps, IsWay}
use Rattle.sat_core.specs.Kept.{names}
use Rattle.sat_core.proofs.Literals.{fun_ext}
use Rattle.sat_core.proofs.Quiet.{look-agrees}

-- marks
pub set-stays : (t : List Bool) (w v : ℕ) → get_or t v false ≡ true → get_or (slice_set t w true) v false ≡ true
set-stays [] w v h = h
set-stays (x ∷ xs) zero zero h = refl
set-stays (x ∷ xs) zero (suc v) h = h
set-stays (x ∷ xs) (suc w) zero h = h
set-stays (x ∷ xs) (suc w) (suc v) h = set-stays xs w v h

pub set-self : (t : List Bool) (w : ℕ) → w < length t → get_or (slice_set t w true) w false ≡ true
set-self [] w h = absurd (omega arith)
set-self (x ∷ xs) zero h = refl
set-self (x ∷ xs) (suc w) h = set-self xs w (omega arith)

-- each literal's variable is marked
abbrev pub AreMarked : List Bool → Clause → Type 0
AreMarked marks c = (l : Literal) → has c l ≡ true → get_or marks l.variable false ≡ true

-- the hints lead to a conflict from all that agree with the test where there is a mark
abbrev pub IsLed : List Clause → List Bool → (Literal → Bool) → List Hint → Type 0
IsLed cs marks holds hints =
    (g : Literal → Bool) → ((m : Literal) → get_or marks m.variable false ≡ true → g m ≡ holds m) → judge_hints (at_start cs) g hints ≡ None

pub start-present : (cs : List Clause) (i : ℕ) (c : Clause) → at_start cs i ≡ Some c → Contains cs c
start-present cs zero c h = absurd (cc)
start-present cs (suc i) c h = get-contains cs i c h

start-at : (cs : List Clause) (k : ℕ) (c : Clause) → slice_get cs k ≡ Some c → at_start cs (k + 1) ≡ Some c
start-at cs k c h = rw add-one h

module _ (cs : List Clause) (marks : List Bool) (holds : Literal → Bool) where
  -- the conflict itself
  led-first : (k : ℕ) (c : Clause) → slice_get cs k ≡ Some c → AreMarked marks c → look_of holds c ≡ Conflict → IsLed cs marks holds (ById (k + 1) ∷ [])
  led-first k c is all u = λ g a. rw (start-at cs k c is, look-agrees g holds c (λ m p. (a m (all m p), a (opposite m) (all m p))) ∙ u) refl

  -- a step whose literal is not needed
  led-skip : (l : Literal) (hints : List Hint) → get_or marks l.variable false ≡ false → IsLed cs marks (added l holds) hints → IsLed cs marks holds hints
  led-skip l hints free f = λ g a. f g (λ m p. elim (cases_Bool (same l m)) [
    | inl e ↦ absurd (both_ways (get_or marks m.variable false) (ap (λ (z : Literal). get_or marks z.variable false) (sym (same-true l m e)) ∙ free) p)
    | inr e ↦ rw e (a m p)
  ])

  -- a step that is needed
  led-more : (fewer : List Bool) (k : ℕ) (c : Clause) (l : Literal) (hints : List Hint) → slice_get cs k ≡ Some c → AreMarked marks c →
      ((v : ℕ) → get_or fewer v false ≡ true → get_or marks v false ≡ true) → look_of holds c ≡ UnitOf l →
      IsLed cs fewer (added l holds) hints → IsLed cs marks holds (ById (k + 1) ∷ hints)
  led-more fewer k c l hints is all stays u f = λ g a.
      rw (start-at cs k c is, look-agrees g holds c (λ m p. (a m (all m p), a (opposite m) (all m p))) ∙ u)
      (f (added l g) (λ m p. ap (λ b. same l m || b) (a m (stays m.variable p))))

-- a step's clause is one of the clauses, and its literal is over their variables
pub step-within : (n : ℕ) (cs : List Clause) (holds : Literal → Bool) (k : ℕ) (l : Literal) → AreOnVariables n cs → IsStep cs holds k l →
    (k < length cs) × (1 ≤ l.variable) × (l.variable ≤ n)
step-within n cs holds k l over (c, is, u) =
    let w = over c (get-contains cs k c is) l (look-unit holds c l u).0 in (slice_get_within cs k c is, w.0, w.1)

pub no-items : {X : Type 0} (xs : List X) → length xs ≡ 0 → xs ≡ []
no-items [] h = refl
no-items (x ∷ xs) h = absurd (omega arith)

-- the last of a list stands first in the reverse
pub last-first : {X : Type 0} (items fewer : List X) (x : X) → items ≡ fewer ++ x ∷ [] → reverse items ≡ x ∷ reverse fewer
last-first items fewer x e = ap reverse e ∙ reverse-append fewer (x ∷ [])

module _ (cs : List Clause) (given : Literal → Bool) (items more : List Step) (s : Step) (is : more ≡ items ++ s ∷ []) (holds : Literal → Bool)
    (tells : (m : Literal) → holds m ≡ told given (reverse items) m) where
  -- one more step
  pub step-more : IsStep cs holds s.clause s.lit → AreSteps cs given (reverse items) → AreSteps cs given (reverse more)
  step-more (c, at, u) before =
      subst (AreSteps cs given) (sym (last-first more items s is))
      ((c, at, ap (λ (h : Literal → Bool). look_of h c) (sym (fun_ext holds (told given (reverse items)) tells)) ∙ u), before)

  pub told-more : (now : Literal → Bool) → ((m : Literal) → now m ≡ added s.lit holds m) → (m : Literal) → now m ≡ told given (reverse more) m
  told-more now e m =
      e m ∙ ap (λ b. same s.lit m || b) (tells m) ∙ ap (λ (z : List Step). told given z m) (sym (last-first more items s is))

-- the steps that are left, and the hints so far
abbrev pub IsBack : List Clause → List Step → ℕ → List Step → List Bool → List code.Hint → Type 0
IsBack cs all k steps marks hints =
    (given : Literal → Bool) → IsWay cs given (reverse all) k →
    AreSteps cs given (reverse steps) × IsLed cs marks (told given (reverse steps)) (map hint_of (reverse hints))

-- the clause that is read at a place
pub clause-read : (cs : List Clause) (k : ℕ) (c r : Clause) → slice_get cs k ≡ Some c → r ≡ get_or cs k r → r ≡ c
clause-read cs k c r is e = e ∙ get_or_from_slice_get cs k c r is

module _ (cs : List Clause) (all : List Step) (end : ℕ) (items fewer : List Step) (s : Step) (is : items ≡ fewer ++ s ∷ []) (before : List Bool)
    (hints : List code.Hint) (back : IsBack cs all end items before hints) where
  at-last : (given : Literal → Bool) → IsWay cs given (reverse all) end →
      AreSteps cs given (s ∷ reverse fewer) × IsLed cs before (told given (s ∷ reverse fewer)) (map hint_of (reverse hints))
  at-last given w =
      subst (λ (z : List Step). AreSteps cs given z × IsLed cs before (told given z) (map hint_of (reverse hints))) (last-first items fewer s is) (back given w)

  pub step-now : (given : Literal → Bool) → IsWay cs given (reverse all) end → IsStep cs (told given (reverse fewer)) s.clause s.lit
  step-now given w = (at-last given w).0.0

  pub back-skip : get_or before s.lit.variable false ≡ false → IsBack cs all end fewer before hints
  back-skip free = λ given w. let a = at-last given w in (a.0.1, led-skip cs before (told given (reverse fewer)) s.lit (map hint_of (reverse hints)) free a.1)

  pub back-more : (marks : List Bool) (r : Clause) → AreMarked marks r → r ≡ get_or cs s.clause r →
      ((v : ℕ) → get_or before v false ≡ true → get_or marks v false ≡ true) → (more : List code.Hint) →
      more ≡ hints ++ variants.ById (s.clause + 1) ∷ [] → IsBack cs all end fewer marks more
  back-more marks r marked read stays more f = λ given w.
      let a = at-last given w in
      let t = a.0.0 in (
        a.0.1,
        subst (λ (z : List code.Hint). IsLed cs marks (told given (reverse fewer)) (map hint_of z))
            (sym (last-first more hints (variants.ById (s.clause + 1)) f))
            (led-more cs marks (told given (reverse fewer)) before s.clause t.0 s.lit (map hint_of (reverse hints)) t.1
            (subst (AreMarked marks) (clause-read cs s.clause t.0 r t.1 read) marked) stays t.2 a.1),
      )

-- the first hint, at the conflict itself
pub back-first : (cs : List Clause) (all : List Step) (end : ℕ) (marks : List Bool) (r : Clause) → AreMarked marks r → r ≡ get_or cs end r →
    (hints more : List code.Hint) → hints ≡ [] → more ≡ hints ++ variants.ById (end + 1) ∷ [] → IsBack cs all end all marks more
back-first cs all end marks r marked read hints more e f = λ given w.
    let q = clause-read cs end w.1.0 r w.1.1 read in (
      w.0,
      subst (λ (z : List code.Hint). IsLed cs marks (told given (reverse all)) (map hint_of (reverse z))) (sym (f ∙ ap
          (λ z. z ++ variants.ById (end + 1) ∷ []) e))
          (led-first cs marks (told given (reverse all)) end w.1.0 w.1.1 (subst (AreMarked marks) q marked) w.1.2),
    )

pub named-more : (n k : ℕ) (hints more : List code.Hint) → more ≡ hints ++ variants.ById (k + 1) ∷ [] → k < n → list_all (names n) (reverse hints) ≡ true →
    list_all (names n) (reverse more) ≡ true
named-more n k hints more e lt h =
    let a : (nat_lt 0 (k + 1) && nat_le (k + 1) n) ≡ true = grind (arith, nat_tests, lt) in
    ap (list_all (names n)) (last-first more hints (variants.ById (k + 1)) e) ∙ rw a h
