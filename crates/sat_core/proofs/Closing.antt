-- Watches of all true literals are visited: then propagation has nothing to do.
use Rattle.std.proofs.Common.{◌≡◌, ℕ, ◌+◌, ◌*◌, ◌/◌, ◌<◌, Bool, true, false, List, [], ◌∷◌, ◌++◌, Option, Some, refl, arith, sym, ap, ◌∙◌, subst, length, length-append, get_or, take, drop, inl, inr}
use Rattle.std.specs.Prelude.{slice_get, reverse}
use Rattle.std.proofs.lemmas.Bool.{cases_Bool}
use Rattle.std.proofs.lemmas.List.{take_more, take-append-drop, take-append-le, reverse-append}
use Rattle.std.proofs.lemmas.Option.{slice_get-get_or}
use Rattle.std.proofs.Math.Seq.{take-append_seam, drop-append_seam}
use Rattle.clause_spec.specs.Clauses.{Literal, Clause, opposite, same, has}
use Rattle.clause_spec.specs.UnitPropagation.{Includes}
use Rattle.clause_spec.specs.Refutation.{added, look_of, Other}
use Rattle.clause_spec.proofs.Looks.{or_left, or_right, same-self}
use Rattle.sat_core.specs.declared.trail.Step.{Step}
use Rattle.sat_core.specs.ClosedSets.{IsQuiet, IsGiven}
use Rattle.sat_core.specs.Tables.{open_count}
use Rattle.sat_core.specs.Steps.{told, AreSteps, IsWay, IsConflictAt}
use Rattle.sat_core.specs.Trails.{nothing, AreFresh, IsRun}
use Rattle.sat_core.specs.Links.{watched_at, mate, AreKept}
use Rattle.sat_core.specs.Moves.{AreMet, AreReady}
use Rattle.clause_spec.proofs.RefutationSound.{get-contains}
use Rattle.clause_spec.proofs.AcceptedLines.{given-unit}
use Rattle.sat_core.proofs.Backwards.{last-first}
use Rattle.sat_core.proofs.Literals.{fun_ext}
use Rattle.sat_core.proofs.Stepping.{told-after}
use Rattle.sat_core.proofs.Keeping.{mate-owner, mate-within}
use Rattle.sat_core.proofs.Watching.{other-true, other-two}

told-more : (given : Literal → Bool) (steps before : List Step) → Includes (told given before) (told given (steps ++ before))
told-more given [] before l h = h
told-more given (s ∷ steps) before l h = or_right (same s.lit l) (told given (steps ++ before) l) (told-more given steps before l h)

-- the first steps, and all
pub told-part : (steps more : List Step) → Includes (told nothing (reverse steps)) (told nothing (reverse (steps ++ more)))
told-part steps more l h = ap (λ (z : List Step). told nothing z l) (reverse-append steps more) ∙ told-more nothing (reverse more) (reverse steps) l h

pub told-take : (n : ℕ) (steps : List Step) → Includes (told nothing (reverse (take n steps))) (told nothing (reverse steps))
told-take n steps l h = ap (λ (z : List Step). told nothing (reverse z) l) (sym (take-append-drop n steps)) ∙ told-part (take n steps) (drop n steps) l h

-- one more step is done
pub told-next : (n : ℕ) (steps after more : List Step) (s : Step) → n < length steps → s ≡ get_or steps n s → after ≡ steps ++ more →
    Includes (told nothing (reverse (take (n + 1) after))) (added s.lit (told nothing (reverse (take n steps))))
told-next n steps after more s lt is e l h =
    let a : take (n + 1) after ≡ take n steps ++ s ∷ [] =
    ap (take (n + 1)) e ∙ take-append-le (n + 1) steps more (omega arith) ∙ take_more steps n s lt ∙ ap (λ (z : Step). take n steps ++ z ∷ []) (sym is) in
    ap (λ (z : List Step). told nothing z l) (sym (last-first (take (n + 1) after) (take n steps) s a)) ∙ h

pub kept-fewer : (watched : List Literal) (free : List ℕ) (done fewer holds more : Literal → Bool) → Includes fewer done → Includes holds more →
    AreKept watched free done holds → AreKept watched free fewer more
kept-fewer watched free done fewer holds more i j k = λ n lt f p. j (watched_at watched (mate n)) (k n lt f (i (opposite (watched_at watched n)) p))

module _ (cs : List Clause) (heads links owners short : List ℕ) (watched : List Literal) (size : ℕ) (r : AreReady cs heads links owners short watched size)
    (h : Literal → Bool) (one : (l : Literal) → h l ≡ true → h (opposite l) ≡ true → ⊥) (met : AreMet cs short h) (kept : AreKept watched [] h h) where
  not-both : (l : Literal) → h l ≡ true → h (opposite l) ≡ false
  not-both l t = elim (cases_Bool (h (opposite l))) [ inl e ↦ absurd (one l t e) | inr e ↦ e ]

  owned-other : (j : ℕ) (c : Clause) → j < length owners → slice_get cs (get_or owners j 0) ≡ Some c → look_of h c ≡ Other
  owned-other j c lt is =
      let pairs = r.placed.pairs in
      let n : 2 * j < length watched = omega arith in
      let o : (2 * j) / 2 ≡ j = omega arith in
      let m : mate (2 * j) < length watched = (let z = mate-within (2 * j) (length owners) (omega arith) in omega arith) in
      let a = watched_at watched (2 * j) in
      let b = watched_at watched (mate (2 * j)) in
      let is_here : slice_get cs (get_or owners ((2 * j) / 2) 0) ≡ Some c = ap (λ i. slice_get cs (get_or owners i 0)) o ∙ is in
      let ha : has c a ≡ true = r.placed.inside (2 * j) c n is_here in
      let hb : has c b ≡ true = r.placed.inside (mate (2 * j)) c m (ap (λ i. slice_get cs (get_or owners i 0)) (mate-owner (2 * j)) ∙ is_here) in
      elim (cases_Bool (h (opposite a))) [
        | inl e ↦ let t = kept (2 * j) n refl e in other-true h c b hb t (not-both b t)
        | inr e ↦ elim (cases_Bool (h (opposite b))) [
          | inl f ↦
              let q : mate (mate (2 * j)) ≡ 2 * j = omega arith in
              let t : h a ≡ true = ap (λ i. h (watched_at watched i)) (sym q) ∙ kept (mate (2 * j)) m refl f in
              other-true h c a ha t (not-both a t)
          | inr f ↦ other-two h c a b ha hb (r.placed.apart (2 * j) n) e f
        ]
      ]

  pub quiet-at : (k : ℕ) (c : Clause) → k < length cs → slice_get cs k ≡ Some c → look_of h c ≡ Other
  quiet-at k c lt is = elim (r.covered.covered k lt) [
    | inl s ↦
        let m = met s.0 s.1 c (ap (slice_get cs) s.2 ∙ is) in
        other-true h c m.0 m.1 m.2 (not-both m.0 m.2)
    | inr s ↦ owned-other s.0 c s.1 (ap (slice_get cs) s.2 ∙ is)
  ]

  pub ready-quiet : IsQuiet cs h
  ready-quiet c (k, lt, e) = quiet-at k c lt (slice_get-get_or cs k c lt ∙ ap (λ (z : Clause). Some z) e)

fresh-part : (size : ℕ) (steps before : List Step) → AreFresh size (steps ++ before) → AreFresh size before
fresh-part size [] before f = f
fresh-part size (s ∷ steps) before f = fresh-part size steps before f.1

split-at : (steps : List Step) (n : ℕ) (s : Step) → n < length steps → s ≡ get_or steps n s → steps ≡ (take n steps ++ s ∷ []) ++ drop (n + 1) steps
split-at steps n s lt is =
    sym (take-append-drop (n + 1) steps) ∙ ap (λ z. z ++ drop (n + 1) steps) (take_more steps n s lt ∙ ap (λ (z : Step). take n steps ++ z ∷ []) (sym is))

-- a step's literal is over the table, and true
pub step-variable : (size : ℕ) (steps : List Step) (n : ℕ) (s : Step) → AreFresh size (reverse steps) → n < length steps → s ≡ get_or steps n s →
    s.lit.variable < size
step-variable size steps n s f lt is =
    let e : reverse steps ≡ reverse (drop (n + 1) steps) ++ s ∷ reverse (take n steps) =
    ap reverse (split-at steps n s lt is) ∙ reverse-append (take n steps ++ s ∷ []) (drop (n + 1) steps)
    ∙ ap (λ z. reverse (drop (n + 1) steps) ++ z) (last-first (take n steps ++ s ∷ []) (take n steps) s refl) in
    let g : AreFresh size (reverse (drop (n + 1) steps) ++ s ∷ reverse (take n steps)) = subst (AreFresh size) e f in
    (fresh-part size (reverse (drop (n + 1) steps)) (s ∷ reverse (take n steps)) g).0.0

pub step-true : (steps : List Step) (n : ℕ) (s : Step) → n < length steps → s ≡ get_or steps n s → told nothing (reverse steps) s.lit ≡ true
step-true steps n s lt is =
    ap (λ (z : List Step). told nothing (reverse z) s.lit) (split-at steps n s lt is)
    ∙ told-part (take n steps ++ s ∷ []) (drop (n + 1) steps) s.lit
    (ap (λ (z : List Step). told nothing z s.lit) (last-first (take n steps ++ s
    ∷ []) (take n steps) s refl) ∙ or_left (same s.lit s.lit) (told nothing (reverse (take n steps)) s.lit) (same-self s.lit))

steps-given : (cs : List Clause) (g given : Literal → Bool) (steps : List Step) → AreSteps cs given steps → IsGiven cs g given → IsGiven cs g (told given steps)
steps-given cs g given [] a i = i
steps-given cs g given (s ∷ steps) a i =
    let k = a.0 in
    given-unit cs g (told given steps) k.0 s.lit (steps-given cs g given steps a.1 i) (get-contains cs s.clause k.0 k.1) k.2

-- what propagation adds follows
pub run-given : (cs : List Clause) (before after : List Step) (h k : Literal → Bool) → IsRun cs before after →
    ((m : Literal) → h m ≡ told nothing (reverse before) m) →
    ((m : Literal) → k m ≡ told nothing (reverse after) m) → (g : Literal → Bool) → IsGiven cs g h → IsGiven cs g k
run-given cs before after h k r th tk g i =
    let eh = fun_ext h (told nothing (reverse before)) th in
    let ek = fun_ext k (told nothing (reverse after)) tk in
    subst (IsGiven cs g) (told-after cs before after r.0 r.1 ∙ sym ek)
    (steps-given cs g (told nothing (reverse before)) (reverse r.0) r.2 (subst (IsGiven cs g) eh i))

pub fewer-open-steps : (table after : List (Option Bool)) (steps middle more : List Step) (run : List Step) (s : Step) →
    length steps + open_count table ≡ length table →
    length more + open_count after ≡ length after → length after ≡ length table → middle ≡ steps ++ run → more ≡ middle ++ s ∷ [] →
    open_count after < open_count table
fewer-open-steps table after steps middle more run s a b size e f =
    let m : length middle ≡ length steps + length run = ap length e ∙ length-append steps run in
    let n : length more ≡ length middle + 1 = ap length f ∙ length-append middle (s ∷ []) in
    omega arith

pub take-length : (n : ℕ) (steps more : List Step) → n ≡ length steps → take n (steps ++ more) ≡ steps
take-length n steps more e = ap (λ i. take i (steps ++ more)) e ∙ take-append_seam steps more

-- a run to a conflict is a way to it
pub run-way : (cs : List Clause) (before after : List Step) (given h : Literal → Bool) (k : ℕ) → IsRun cs before after →
    ((m : Literal) → told nothing (reverse before) m ≡ given m) → ((m : Literal) → h m ≡ told nothing (reverse after) m) → IsConflictAt cs h k →
    (n : ℕ) → n ≡ length before → IsWay cs given (reverse (drop n after)) k
run-way cs before after given h k r tg th x n e =
    let eg = fun_ext (told nothing (reverse before)) given tg in
    let eh = fun_ext h (told nothing (reverse after)) th in
    let d : drop n after ≡ r.0 = ap (drop n) r.1 ∙ ap (λ i. drop i (before ++ r.0)) e ∙ drop-append_seam before r.0 in
    let w : IsWay cs (told nothing (reverse before)) (reverse r.0) k =
    (r.2, subst (λ (g : Literal → Bool). IsConflictAt cs g k) (eh ∙ sym (told-after cs before after r.0 r.1)) x) in
    subst (λ (z : List Step). IsWay cs given (reverse z) k) (sym d) (subst (λ (g : Literal → Bool). IsWay cs g (reverse r.0) k) eg w)
