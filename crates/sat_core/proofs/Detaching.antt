-- Detached lists of watches: one watch after another is linked again.
use Rattle.std.proofs.Common.{◌≡◌, ◌≢◌, ℕ, ◌<◌, ◌≤◌, true, false, List, [], ◌∷◌, refl, arith, sym, ap, ◌∙◌, subst, length, get_or, slice_set, eq-eqb, inl, inr}
use Rattle.std.specs.Prelude.{nat_eq}
use Rattle.std.specs.List.{IsDistinct, AllByRecursion}
use Rattle.std.proofs.lemmas.Bool.{cases_Bool, eqb-true, both_ways}
use Rattle.clause_spec.proofs.Looks.{or_right}
use Rattle.std.proofs.lemmas.List.{get_or_default}
use Rattle.std.proofs.lemmas.Map.Keys.{IsDistinct-head, IsDistinct-tail}
use Rattle.std.proofs.lemmas.Map.Steps.{length-le_from_distinct_below}
use Rattle.clause_spec.specs.Clauses.{Literal}
use Rattle.sat_core.specs.Links.{place, no_watch, watched_at, among, IsChain, IsLinked}
use Rattle.sat_core.specs.Moves.{IsDetached}
use Rattle.sat_core.proofs.Chains.{chain-step, chain-frame, chain-end, walk, walk-chain, detached, linked}

equal-none : (x : ℕ) (xs : List ℕ) → AllByRecursion (λ y. nat_eq x y ≡ false) xs → among xs x ≡ false
equal-none x [] h = refl
equal-none x (y ∷ ys) h = rw h.0 (equal-none x ys h.1)

chain-below : (links xs : List ℕ) (h q : ℕ) → IsChain links h xs → among xs q ≡ true → q < length links
chain-below links [] h q k m = absurd (cc)
chain-below links (x ∷ xs) h q k m = elim (cases_Bool (nat_eq q x)) [
  | inl e ↦ rw (eqb-true q x e) k.1
  | inr e ↦ chain-below links xs (get_or links x 0) q k.2 (rw e at m)
]

chain-short : (links xs : List ℕ) (h : ℕ) → IsChain links h xs → IsDistinct nat_eq xs → length xs ≤ length links
chain-short links xs h k d = length-le_from_distinct_below xs (length links) d (λ q m. chain-below links xs h q k m)

module _ (heads links : List ℕ) (watched : List Literal) where
  pub detached-first : (k : IsLinked heads links watched []) (p first : ℕ) → p < length heads → first ≡ get_or heads p 0 →
      IsDetached (slice_set heads p no_watch) links watched first p
  detached-first k p first lt e = record {
    rest = k.lists p;
    chained = rw e (k.chained p lt);
    distinct = k.distinct p;
    linked = detached heads links watched k p lt;
    listed = λ n h. (k.own p n h).1;
  }

  -- every other watch is of another literal
  pub first-others : (k : IsLinked heads links watched []) (p first : ℕ) (lt : p < length heads) (e : first ≡ get_or heads p 0) → (n : ℕ) → n < length links →
      among (detached-first k p first lt e).rest n ≡ false → place (watched_at watched n) ≢ p
  unfolding detached-first
  first-others k p first lt e n l f q = both_ways (among (k.lists p) n) f (ap (λ z. among (k.lists z) n) (sym q) ∙ k.all n l refl)

  module _ (from p : ℕ) (d : IsDetached heads links watched from p) where
    pub detached-end : from ≡ no_watch → IsLinked heads links watched []
    detached-end e = subst (IsLinked heads links watched) (chain-end links from d.rest d.linked.few e d.chained) d.linked

    module _ (ne : from ≢ no_watch) where
      abbrev pub others : List ℕ
      others = (chain-step links from d.rest ne d.chained).0

      pub rest-is : d.rest ≡ from ∷ others
      rest-is = (chain-step links from d.rest ne d.chained).1

      pub from-within : from < length links
      from-within = (chain-step links from d.rest ne d.chained).2

      pub from-listed : place (watched_at watched from) ≡ p
      from-listed = d.listed from (ap (λ z. among z from) rest-is ∙ rw (eq-eqb from from refl) refl)

      distinct-rest : IsDistinct nat_eq (from ∷ others)
      distinct-rest = subst (IsDistinct nat_eq) rest-is d.distinct

      pub once : among others from ≡ false
      once = equal-none from others (IsDistinct-head nat_eq from others distinct-rest)

      module _ (after : List Literal) (alike : (i : ℕ) → i ≢ from → watched_at after i ≡ watched_at watched i) (size : length after ≡ length watched)
          (q next : ℕ) (here : place (watched_at after from) ≡ q) (within : q < length heads) (is : next ≡ get_or links from next) where
        next-is : next ≡ get_or links from 0
        next-is = is ∙ get_or_default links from next 0 from-within

        pub detached-next : IsDetached (slice_set heads q from) (slice_set links from (get_or heads q 0)) after next p
        detached-next = record {
          rest = others;
          chained = rw next-is (chain-frame links from (get_or heads q 0) others (get_or links from 0) once (chain-step links from d.rest ne d.chained).3);
          distinct = IsDistinct-tail nat_eq from others distinct-rest;
          linked = linked heads links watched from others (subst
              (IsLinked heads links watched) rest-is d.linked) from-within once after alike size q here within;
          listed = λ n h.
              let other : n ≢ from = λ e. both_ways (among others from) once (ap (among others) (sym e) ∙ h) in
              ap place (alike n other) ∙ d.listed n (ap (λ z. among z n) rest-is ∙ or_right (nat_eq n from) (among others n) h);
        }

        pub rest-next : detached-next.rest ≡ others
        unfolding detached-next
        rest-next = refl

        pub walk-smaller : (links' : List ℕ) → links' ≡ slice_set links from (get_or heads q 0) →
            length (walk (length links') links' next) < length (walk (length links) links from)
        unfolding detached-next
        walk-smaller links' e =
            let n = detached-next in
            let a : walk (length links') links' next ≡ others =
            rw e (walk-chain (length (slice_set links from (get_or heads q 0))) (slice_set links from (get_or heads q 0)) others next n.linked.few
            (chain-short (slice_set links from (get_or heads q 0)) others next n.chained n.distinct) n.chained) in
            let b : walk (length links) links from ≡ from ∷ others =
            walk-chain (length links) links d.rest from d.linked.few (chain-short links d.rest from d.chained d.distinct) d.chained ∙ rest-is in
            rw (a, b) (omega arith)
