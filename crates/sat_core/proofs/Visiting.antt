-- A watch is visited: where it goes, and what is kept.
use Rattle.std.proofs.Common.{◌≡◌, ◌≢◌, ℕ, zero, suc, ◌+◌, ◌-◌, ◌*◌, ◌/◌, ◌<◌, ◌≤◌, Bool, true, false, not, List, [], ◌∷◌, Option, Some, None, refl, arith, sym, ap, ◌∙◌, length, get_or, slice_set, inl, inr}
use Rattle.std.specs.Prelude.{slice_get, Contains, if◌then◌else◌}
use Rattle.std.proofs.lemmas.Bool.{both_ways, or_cases, ne_eqb}
use Rattle.clause_spec.specs.Clauses.{Literal, Clause, same, opposite, has, AreOnVariables}
use Rattle.clause_spec.specs.UnitPropagation.{Includes}
use Rattle.clause_spec.specs.Refutation.{added}
use Rattle.clause_spec.proofs.Looks.{same-true}
use Rattle.clause_spec.proofs.NewClauses.{opposite_twice}
use Rattle.clause_spec.proofs.RefutationSound.{get-contains}
use Rattle.sat_core.specs.Tables.{value_is, true_in}
use Rattle.sat_core.specs.Links.{place, no_watch, watched_at, mate, among, IsLinked, IsPlaced, AreKept}
use Rattle.sat_core.specs.Moves.{HasAt, IsMetAt, IsTarget, IsDetached}
use Rattle.std.proofs.lemmas.List.{length-set}
use Rattle.sat_core.proofs.Chains.{place-same, chain-end, walk}
use Rattle.sat_core.proofs.Detaching.{detached-first, first-others, detached-next, others, rest-is, rest-next, from-within, from-listed, walk-smaller}
use Rattle.sat_core.proofs.Keeping.{mate-owner, mate-within, owner-within, put-same, put-other, kept-put}

one_value : (o : Option Bool) (p : Bool) → value_is o p ≡ true → value_is o (not p) ≡ true → ⊥
one_value None p a b = cc
one_value (Some true) true a b = cc
one_value (Some true) false a b = cc
one_value (Some false) true a b = cc
one_value (Some false) false a b = cc

-- no literal is true beside its opposite
pub consistent : (table : List (Option Bool)) (l : Literal) → true_in table l ≡ true → true_in table (opposite l) ≡ true → ⊥
consistent table l a b = one_value (get_or table l.variable None) l.positive a b

place_below : (v : ℕ) (b : Bool) (size : ℕ) → v < size → (if b then 2 * v + 1 else 2 * v) < 2 * size
place_below v true size lt = omega arith
place_below v false size lt = omega arith

pub place-within : (l : Literal) (size : ℕ) → l.variable < size → place l < 2 * size
place-within l size lt = place_below l.variable l.positive size lt

pub get-some : {X : Type 0} (xs : List X) (k : ℕ) → k < length xs → (x : X) × (slice_get xs k ≡ Some x)
get-some [] k lt = absurd (omega arith)
get-some (x ∷ xs) zero lt = (x, refl)
get-some (x ∷ xs) (suc k) lt = get-some xs k (omega arith)

pub get-one : {X : Type 0} (xs : List X) (k : ℕ) (x y : X) → slice_get xs k ≡ Some x → slice_get xs k ≡ Some y → x ≡ y
get-one xs k x y e f = let g : Some x ≡ Some y = sym e ∙ f in cc

module _ (cs : List Clause) (owners : List ℕ) (watched : List Literal) (p : IsPlaced cs owners watched) (n : ℕ) (lt : n < length watched) where
  -- the clause of a watch has the other watched literal
  pub owner-has : HasAt cs (get_or owners (n / 2) 0) (watched_at watched (mate n))
  owner-has =
      let pairs = p.pairs in
      let small : n < 2 * length owners = omega arith in
      let j : n / 2 < length owners = owner-within n (length owners) small in
      let r = get-some cs (get_or owners (n / 2) 0) (p.within (n / 2) j) in
      let m : mate n < length watched = (let z = mate-within n (length owners) small in omega arith) in
      (r.0, r.1, p.inside (mate n) r.0 m (ap (λ i. slice_get cs (get_or owners i 0)) (mate-owner n) ∙ r.1))

pub target-moves : (cs : List Clause) (owner : ℕ) (watched : List Literal) (other : Literal) (h : Literal → Bool) (size : ℕ) (target : Literal) →
    AreOnVariables (size - 1) cs → HasAt cs owner target → h (opposite target) ≡ false → same target other ≡ false →
    IsTarget cs owner watched other h size target
target-moves cs owner watched other h size target over at free apart =
    let v = over at.0 (get-contains cs owner at.0 at.1) target at.2 in
    record {
      room = place-within target size (let a = v.0 in let b = v.1 in omega arith);
      inside = λ c is. ap (λ (z : Clause). has z target) (get-one cs owner c at.0 is at.1) ∙ at.2;
      apart = apart;
      kept = λ d i p. absurd (both_ways (h (opposite target)) free (i (opposite target) p));
      cuts = λ d k i a p. absurd (both_ways (h (opposite target)) free (i (opposite target) p));
    }

pub includes-added : (l : Literal) (done h : Literal → Bool) → h l ≡ true → Includes done h → Includes (added l done) h
includes-added l done h t i m p = elim (or_cases (same l m) (done m) p) [
  | inl e ↦ ap h (sym (same-true l m e)) ∙ t
  | inr e ↦ i m e
]

-- before the first visit, all that is kept is kept of one more literal
pub kept-others : (watched : List Literal) (free : List ℕ) (l : Literal) (done h : Literal → Bool) →
    ((n : ℕ) → n < length watched → among free n ≡ false → place (watched_at watched n) ≢ place l) → AreKept watched [] done h →
    AreKept watched free (added (opposite l) done) h
kept-others watched free l done h others k = λ n lt f p. elim
    (or_cases (same (opposite l) (opposite (watched_at watched n))) (done (opposite (watched_at watched n))) p) [
      | inl e ↦
          let q : l ≡ watched_at watched n = sym (opposite_twice l) ∙ ap opposite (same-true (opposite l) (opposite (watched_at watched n)) e) ∙ opposite_twice
          (watched_at watched n) in
          absurd (others n lt f (ap place (sym q)))
      | inr e ↦ k n lt refl e
    ]

pub not-rest : (rest ys : List ℕ) (n : ℕ) → rest ≡ n ∷ ys → (i : ℕ) → i ≢ n → among ys i ≡ false → among rest i ≡ false
not-rest rest ys n e i ne f = ap (λ z. among z i) e ∙ rw (ne_eqb i n ne) f

-- the watches that are left to visit; of the others is kept what was kept before, and of one more literal
pub record IsLeft (heads links : List ℕ) (before watched : List Literal) (from : ℕ) (l : Literal) (h k : Literal → Bool) : Type 0 where
  pub detached : IsDetached heads links watched from (place l)
  pub kept : (done : Literal → Bool) → Includes done h → AreKept before [] done h → AreKept watched detached.rest (added (opposite l) done) k

module _ (heads links : List ℕ) (watched : List Literal) (l : Literal) where
  pub left-first : (h : Literal → Bool) (k : IsLinked heads links watched []) (first : ℕ) → place l < length heads → first ≡ get_or heads (place l) 0 →
      IsLeft (slice_set heads (place l) no_watch) links watched watched first l h h
  left-first h k first lt e = record {
    detached = detached-first heads links watched k (place l) first lt e;
    kept = λ done i a. kept-others watched (detached-first heads links watched k (place l) first lt e).rest l done h
        (λ n ln f. first-others heads links watched k (place l) first lt e n (rw (← k.sizes) ln) f) a;
  }

  module _ (before : List Literal) (from : ℕ) (h k : Literal → Bool) (r : IsLeft heads links before watched from l h k) where
    pub left-end : from ≡ no_watch → (done : Literal → Bool) → Includes done h → AreKept before [] done h → AreKept watched [] (added (opposite l) done) k
    left-end e done i a = λ n lt f p.
        r.kept done i a n lt (ap (λ z. among z n) (chain-end links from r.detached.rest r.detached.linked.few e r.detached.chained)) p

    module _ (ne : from ≢ no_watch) (cs : List Clause) (owner : ℕ) (size : ℕ) (now : Literal → Bool) (target : Literal)
        (t : IsTarget cs owner watched (watched_at watched (mate from)) now size target) (sizes : length heads ≡ 2 * size)
        (grows : Includes k now) (first : Includes h k) (negated : k (opposite l) ≡ true) (dead : k l ≡ true →
        ⊥) (next : ℕ) (is : next ≡ get_or links from next) where
      abbrev pub after : List Literal
      after = slice_set watched from target

      pub here-within : from < length watched
      here-within = rw r.detached.linked.sizes (from-within heads links watched from (place l) r.detached ne)

      pub here-literal : watched_at watched from ≡ l
      here-literal = same-true (watched_at watched from) l (place-same (watched_at watched from) l
          (from-listed heads links watched from (place l) r.detached ne))

      abbrev next-detached : IsDetached (slice_set heads (place target) from) (slice_set links from (get_or heads (place target) 0)) after next (place l)
      next-detached =
          detached-next heads links watched from (place l) r.detached ne after (put-other watched from target) (length-set watched from target)
          (place target) next
          (ap place (put-same watched from target here-within)) (rw sizes t.room) is

      pub left-step : IsLeft (slice_set heads (place target) from) (slice_set links from (get_or heads (place target) 0)) before after next l h now
      left-step = record {
        detached = next-detached;
        kept = λ done i a.
            kept-put watched from target here-within r.detached.rest next-detached.rest (added (opposite l) done) k now grows
            (λ j nj f. not-rest r.detached.rest (others heads links watched from (place l) r.detached ne) from
            (rest-is heads links watched from (place l) r.detached ne) j nj
            (ap (λ z. among z j) (sym (rest-next heads links watched from (place l) r.detached ne after (put-other watched from target)
            (length-set watched from target)
            (place target) next (ap place (put-same watched from target here-within)) (rw sizes t.room) is)) ∙ f))
            (r.kept done i a) (λ z. dead (ap k (sym here-literal) ∙ z))
            (t.kept (added (opposite l) done) (λ m z. grows m (includes-added (opposite l) done k negated (λ j y. first j (i j y)) m z)));
      }

      pub left-smaller : (links' : List ℕ) → links' ≡ slice_set links from (get_or heads (place target) 0) →
          length (walk (length links') links' next) < length (walk (length links) links from)
      left-smaller links' e =
          walk-smaller heads links watched from (place l) r.detached ne after (put-other watched from target) (length-set watched from target)
          (place target) next
          (ap place (put-same watched from target here-within)) (rw sizes t.room) is links' e

      pub left-cuts : (done holds : Literal → Bool) → Includes done now → Includes holds k → AreKept watched [] done holds → AreKept after [] done holds
      left-cuts done holds i j a =
          kept-put watched from target here-within [] [] done holds holds (λ m p. p) (λ m nm f. f) a (λ z. dead (j l (ap holds (sym here-literal) ∙ z)))
          (t.cuts done holds i a)

pub has-within : (size : ℕ) (cs : List Clause) (k : ℕ) (l : Literal) → AreOnVariables (size - 1) cs → HasAt cs k l → l.variable < size
has-within size cs k l over at =
    let v = over at.0 (get-contains cs k at.0 at.1) l at.2 in
    let a : 1 ≤ l.variable = v.0 in
    let b : l.variable ≤ size - 1 = v.1 in
    omega arith

pub met-more : (cs : List Clause) (h k : Literal → Bool) (i : ℕ) → Includes h k → IsMetAt cs h i → IsMetAt cs k i
met-more cs h k i g m = λ c is. let r = m c is in (r.0, r.1, g r.0 r.2)

pub met-at : (cs : List Clause) (h : Literal → Bool) (i : ℕ) (c : Clause) (l : Literal) → slice_get cs i ≡ Some c → has c l ≡ true → h l ≡ true → IsMetAt cs h i
met-at cs h i c l at a t = λ d is. (l, ap (λ (z : Clause). has z l) (get-one cs i d c is at) ∙ a, t)

pub item-contains : (cs : List Clause) (i : ℕ) (x : Clause) → i < length cs → x ≡ get_or cs i x → Contains cs x
item-contains cs i x lt e = (i, lt, sym e)
