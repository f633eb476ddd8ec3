-- Lists of watches: what detaching a list and linking a watch does to them.
use Rattle.std.proofs.Common.{◌≡◌, ◌≢◌, ℕ, zero, suc, ◌+◌, ◌*◌, ◌<◌, ◌≤◌, Bool, true, false, List, [], ◌∷◌, ◌++◌, refl, arith, sym, ap, ◌∙◌, length, get_or, slice_set, eq-eqb, inl, inr, get_or-set_other, get_or-set_same, length-append}
use Rattle.std.specs.Prelude.{nat_eq, ◌==◌, if◌then◌else◌, nat_lt}
use Rattle.std.specs.List.{IsDistinct, AllByRecursion}
use Rattle.std.proofs.lemmas.Bool.{cases_Bool, and_from, eqb-true, both_ways, ne_eqb}
use Rattle.std.proofs.lemmas.List.{length-set, get_or_append_left, get_or-append-add}
use Rattle.std.proofs.Math.Seq.{get_or-append_seam}
use Rattle.std.proofs.lemmas.Bool.Decides.{nat_tests}
use Rattle.std.proofs.lemmas.Map.Keys.{IsDistinct-cons}
use Rattle.std.proofs.lemmas.Map.Steps.{length-le_from_distinct_below}
use Rattle.clause_spec.specs.Clauses.{Literal, same, same_sign}
use Rattle.sat_core.specs.Links.{place, no_watch, some_literal, watched_at, among, IsChain, IsLinked}

pub among-parts : (x : ℕ) (xs : List ℕ) (n : ℕ) → among (x ∷ xs) n ≡ false → (n ≢ x) × (among xs n ≡ false)
among-parts x xs n h = elim (cases_Bool (nat_eq n x)) [
  | inl e ↦ absurd (let g = rw e at h in cc)
  | inr e ↦ ((λ q. both_ways (nat_eq n x) e (eq-eqb n x q)), (let g = rw e at h in g))
]

pub none-equal : (x : ℕ) (xs : List ℕ) → among xs x ≡ false → AllByRecursion (λ y. nat_eq x y ≡ false) xs
none-equal x [] h = tt
none-equal x (y ∷ ys) h = let p = among-parts y ys x h in (ne_eqb x y p.0, none-equal x ys p.1)

-- a write at a watch that the list does not have
pub chain-frame : (links : List ℕ) (n v : ℕ) (xs : List ℕ) (h : ℕ) → among xs n ≡ false → IsChain links h xs → IsChain (slice_set links n v) h xs
chain-frame links n v [] h f k = k
chain-frame links n v (x ∷ xs) h f k =
    let p = among-parts x xs n f in
    let ne : x ≢ n = λ e. p.0 (sym e) in
    let g = chain-frame links n v xs (get_or links x 0) p.1 k.2 in
    (k.0, rw (length-set links n v) k.1, rw (get_or-set_other links n x v 0 ne) g)

-- more watches
pub chain-grow : (links more : List ℕ) (xs : List ℕ) (h : ℕ) → IsChain links h xs → IsChain (links ++ more) h xs
chain-grow links more [] h k = k
chain-grow links more (x ∷ xs) h k =
    let g = chain-grow links more xs (get_or links x 0) k.2 in
    let lt : x < length links = k.1 in
    (k.0, omega (arith, length-append links more), rw (get_or_append_left links more 0 x lt) g)

-- the watches that the links lead to, so many at most
abbrev pub walk : ℕ → List ℕ → ℕ → List ℕ
walk zero links n = []
walk (suc f) links n = if nat_lt n (length links) then n ∷ walk f links (get_or links n 0) else []

pub walk-chain : (f : ℕ) (links : List ℕ) (xs : List ℕ) (n : ℕ) → length links ≤ no_watch → length xs ≤ f → IsChain links n xs → walk f links n ≡ xs
walk-chain zero links [] n few le k = refl
walk-chain zero links (x ∷ xs) n few le k = absurd (omega arith)
walk-chain (suc f) links [] n few le k =
    let e : nat_lt n (length links) ≡ false = rw k (grind (arith, nat_tests, few)) in rw e refl
walk-chain (suc f) links (x ∷ xs) n few le k =
    let q : n ≡ x = k.0 in
    let lt : x < length links = k.1 in
    let e : nat_lt x (length links) ≡ true = grind (arith, nat_tests, lt) in
    let r = walk-chain f links xs (get_or links x 0) few (omega arith) k.2 in
    rw (q, e, r) refl

-- a list without its end
pub chain-step : (links : List ℕ) (n : ℕ) (xs : List ℕ) → n ≢ no_watch → IsChain links n xs →
    (ys : List ℕ) × (xs ≡ n ∷ ys) × (n < length links) × IsChain links (get_or links n 0) ys
chain-step links n [] ne k = absurd (ne k)
chain-step links n (x ∷ xs) ne k =
    let q : x ≡ n = sym k.0 in
    (xs, ap (λ z. z ∷ xs) q, rw (← q) k.1, rw (← q) k.2)

pub chain-end : (links : List ℕ) (n : ℕ) (xs : List ℕ) → length links ≤ no_watch → n ≡ no_watch → IsChain links n xs → xs ≡ []
chain-end links n [] few e k = refl
chain-end links n (x ∷ xs) few e k = absurd (let a = k.0 in let b = k.1 in omega arith)

distinct_nothing : IsDistinct nat_eq []
unfolding IsDistinct
distinct_nothing = tt

place_parts : (v w : ℕ) (a b : Bool) → (if a then 2 * v + 1 else 2 * v) ≡ (if b then 2 * w + 1 else 2 * w) → (v ≡ w) × (same_sign a b ≡ true)
place_parts v w true true e = (omega arith, refl)
place_parts v w true false e = absurd (omega arith)
place_parts v w false true e = absurd (omega arith)
place_parts v w false false e = (omega arith, refl)

-- no two literals have one place
pub place-same : (l m : Literal) → place l ≡ place m → same l m ≡ true
place-same l m e =
    let p = place_parts l.variable m.variable l.positive m.positive e in
    and_from (l.variable == m.variable) (same_sign l.positive m.positive) (eq-eqb l.variable m.variable p.0) p.1

module _ (heads links : List ℕ) (watched : List Literal) where
  -- a list is detached
  module _ (k : IsLinked heads links watched []) (p : ℕ) (lt : p < length heads) where
    abbrev lists-without : ℕ → List ℕ
    lists-without q = if nat_eq q p then [] else k.lists q

    pub detached : IsLinked (slice_set heads p no_watch) links watched (k.lists p)
    detached = record {
      lists = lists-without;
      chained = λ q l. elim (cases_Bool (nat_eq q p)) [
        | inl e ↦
            let z : q ≡ p = eqb-true q p e in
            rw e (ap (λ i. get_or (slice_set heads p no_watch) i 0) z ∙ get_or-set_same heads p no_watch 0 lt)
        | inr e ↦
            let ne : q ≢ p = λ z. both_ways (nat_eq q p) e (eq-eqb q p z) in
            let b : q < length heads = rw (length-set heads p no_watch) at l in
            rw (e, get_or-set_other heads p q no_watch 0 ne) (k.chained q b)
      ];
      own = λ q n h. elim (cases_Bool (nat_eq q p)) [
        | inl e ↦ absurd (let g = rw e at h in cc)
        | inr e ↦
            let o = k.own q n (rw e at h) in (
              o.0,
              o.1,
              elim (cases_Bool (among (k.lists p) n)) [
                | inl f ↦ absurd (both_ways (nat_eq q p) e (eq-eqb q p (sym o.1 ∙ (k.own p n f).1)))
                | inr f ↦ f
              ],
            )
      ];
      distinct = λ q. elim (cases_Bool (nat_eq q p)) [
        | inl e ↦ rw e (distinct_nothing)
        | inr e ↦ rw e (k.distinct q)
      ];
      all = λ n l f. elim (cases_Bool (nat_eq (place (watched_at watched n)) p)) [
        | inl e ↦ absurd (both_ways (among (k.lists p) n) f (ap
            (λ z. among (k.lists z) n) (sym (eqb-true (place (watched_at watched n)) p e)) ∙ k.all n l refl))
        | inr e ↦ rw e (k.all n l refl)
      ];
      few = k.few;
      sizes = k.sizes;
    }

  -- a free watch is linked to the list of its literal, which may have changed
  module _ (n : ℕ) (ys : List ℕ) (k : IsLinked heads links watched (n ∷ ys)) (lt : n < length links) (fresh : among ys n ≡ false) (after : List Literal)
      (alike : (i : ℕ) → i ≢ n → watched_at after i ≡ watched_at watched i) (size : length after ≡ length watched) (p : ℕ) (here : place (watched_at after n)
      ≡ p)
      (within : p < length heads) where
    abbrev lists-with : ℕ → List ℕ
    lists-with q = if nat_eq q p then n ∷ k.lists p else k.lists q

    absent : (q : ℕ) → among (k.lists q) n ≡ false
    absent q = elim (cases_Bool (among (k.lists q) n)) [
      | inl e ↦ absurd ((among-parts n ys n (k.own q n e).2).0 refl)
      | inr e ↦ e
    ]

    pub linked : IsLinked (slice_set heads p n) (slice_set links n (get_or heads p 0)) after ys
    linked = record {
      lists = lists-with;
      chained = λ q l. elim (cases_Bool (nat_eq q p)) [
        | inl e ↦
            let z : q ≡ p = eqb-true q p e in
            let frame = chain-frame links n (get_or heads p 0) (k.lists p) (get_or heads p 0) (absent p) (k.chained p within) in
            rw e (
              ap (λ i. get_or (slice_set heads p n) i 0) z ∙ get_or-set_same heads p n 0 within,
              rw (length-set links n (get_or heads p 0)) lt,
              rw (get_or-set_same links n (get_or heads p 0) 0 lt) frame,
            )
        | inr e ↦
            let ne : q ≢ p = λ z. both_ways (nat_eq q p) e (eq-eqb q p z) in
            let b : q < length heads = rw (length-set heads p n) at l in
            rw (e, get_or-set_other heads p q n 0 ne) (chain-frame links n (get_or heads p 0) (k.lists q) (get_or heads q 0) (absent q) (k.chained q b))
      ];
      own = λ q i h. elim (cases_Bool (nat_eq q p)) [
        | inl e ↦ elim (cases_Bool (nat_eq i n)) [
          | inl f ↦
              let z : i ≡ n = eqb-true i n f in
              (rw (length-set links n (get_or heads p 0), z) lt, ap (λ j. place (watched_at after j)) z ∙ here ∙ sym (eqb-true q p e), rw z fresh)
          | inr f ↦
              let ne : i ≢ n = λ z. both_ways (nat_eq i n) f (eq-eqb i n z) in
              let g : among (k.lists p) i ≡ true = rw (e, f) at h in
              let o = k.own p i g in (
                rw (length-set links n (get_or heads p 0)) o.0,
                ap place (alike i ne) ∙ o.1 ∙ sym (eqb-true q p e),
                (among-parts n ys i o.2).1,
              )
        ]
        | inr e ↦
            let o = k.own q i (rw e at h) in
            let a = among-parts n ys i o.2 in
            (rw (length-set links n (get_or heads p 0)) o.0, ap place (alike i a.0) ∙ o.1, a.1)
      ];
      distinct = λ q. elim (cases_Bool (nat_eq q p)) [
        | inl e ↦ rw e (IsDistinct-cons nat_eq n (k.lists p) (none-equal n (k.lists p) (absent p)) (k.distinct p))
        | inr e ↦ rw e (k.distinct q)
      ];
      all = λ i l f. elim (cases_Bool (nat_eq i n)) [
        | inl g ↦
            let z : i ≡ n = eqb-true i n g in
            let q : nat_eq (place (watched_at after i)) p ≡ true = eq-eqb (place (watched_at after i)) p (ap (λ j. place (watched_at after j)) z ∙ here) in
            rw (q, g) refl
        | inr g ↦
            let ne : i ≢ n = λ z. both_ways (nat_eq i n) g (eq-eqb i n z) in
            let b : i < length links = rw (length-set links n (get_or heads p 0)) at l in
            let u : among (n ∷ ys) i ≡ false = rw (g, f) refl in
            let r = rw (← alike i ne) at (k.all i b u) in
            elim (cases_Bool (nat_eq (place (watched_at after i)) p)) [
              | inl q ↦ let w : among (k.lists p) i ≡ true = ap (λ z. among (k.lists z) i) (sym (eqb-true (place (watched_at after i)) p q)) ∙ r in rw (q, g) w
              | inr q ↦ rw q r
            ]
      ];
      few = rw (length-set links n (get_or heads p 0)) k.few;
      sizes = size ∙ k.sizes ∙ sym (length-set links n (get_or heads p 0));
    }

  -- new watches are free at first
  pub grown : (k : IsLinked heads links watched []) (a b : ℕ) (x y : Literal) → length links + 2 ≤ no_watch →
      IsLinked heads (links ++ a ∷ b ∷ []) (watched ++ x ∷ y ∷ []) (length links ∷ (length links + 1) ∷ [])
  grown k a b x y few = record {
    lists = k.lists;
    chained = λ p l. chain-grow links (a ∷ b ∷ []) (k.lists p) (get_or heads p 0) (k.chained p l);
    own = λ p n h.
        let o = k.own p n h in
        let lt : n < length links = o.0 in
        let m : n < length watched = rw k.sizes lt in
        let u : nat_eq n (length links) ≡ false = grind (arith, nat_tests, lt) in
        let v : nat_eq n (length links + 1) ≡ false = grind (arith, nat_tests, lt) in (
          omega (arith, length-append links (a ∷ b ∷ [])),
          ap place (get_or_append_left watched (x ∷ y ∷ []) some_literal n m) ∙ o.1,
          rw (u, v) refl,
        );
    distinct = k.distinct;
    all = λ n l f.
        let u = among-parts (length links) ((length links + 1) ∷ []) n f in
        let v = among-parts (length links + 1) [] n u.1 in
        let lt : n < length links = omega (arith, length-append links (a ∷ b ∷ []), u.0, v.0) in
        let m : n < length watched = rw k.sizes lt in
        ap (λ (z : Literal). among (k.lists (place z)) n) (get_or_append_left watched (x ∷ y ∷ []) some_literal n m) ∙ k.all n lt refl;
    few = omega (arith, length-append links (a ∷ b ∷ []));
    sizes = (let e = k.sizes in omega (arith, length-append links (a ∷ b ∷ []), length-append watched (x ∷ y ∷ [])));
  }

  -- no list is longer than all watches
  pub not-long : (k : IsLinked heads links watched []) (p : ℕ) → length (k.lists p) ≤ length links
  not-long k p = length-le_from_distinct_below (k.lists p) (length links) (k.distinct p) (λ q h. (k.own p q h).0)

-- two new watches, linked
pub two-more : (heads links : List ℕ) (watched : List Literal) (k : IsLinked heads links watched []) (x y : Literal) (n : ℕ) → n ≡ length links →
    length links + 2 ≤ no_watch → place x < length heads → place y < length heads →
    IsLinked (slice_set (slice_set heads (place x) n) (place y) (n + 1))
    (slice_set (slice_set (links ++ no_watch ∷ no_watch ∷ []) n (get_or heads (place x) 0)) (n + 1) (get_or (slice_set heads (place x) n) (place y) 0))
    (watched ++ x ∷ y ∷ []) []
two-more heads links watched k x y n is few px py =
    let after : List Literal = watched ++ x ∷ y ∷ [] in
    let more : List ℕ = links ++ no_watch ∷ no_watch ∷ [] in
    let m : length links ≡ length watched = sym k.sizes in
    let g : IsLinked heads more after (n ∷ (n + 1) ∷ []) = rw is (grown heads links watched k no_watch no_watch x y few) in
    let long : length more ≡ length links + 2 = omega (arith, length-append links (no_watch ∷ no_watch ∷ [])) in
    let a : watched_at after n ≡ x = ap (watched_at after) (is ∙ m) ∙ get_or-append_seam watched x (y ∷ []) some_literal in
    let b : watched_at after (n + 1) ≡ y =
    ap (λ i. watched_at after (i + 1)) (is ∙ m) ∙ get_or-append-add watched (x ∷ y ∷ []) 1 some_literal in
    let u : nat_eq n (n + 1) ≡ false = grind (arith, nat_tests) in
    let fresh : among ((n + 1) ∷ []) n ≡ false = rw u refl in
    let first = linked heads more after n ((n + 1) ∷ []) g (omega arith) fresh after (λ i h. refl) refl (place x) (ap place a) px in
    linked (slice_set heads (place x) n) (slice_set more n (get_or heads (place x) 0)) after (n + 1) [] first
    (rw (length-set more n (get_or heads (place x) 0)) (omega arith)) refl after
    (λ i h. refl) refl (place y) (ap place b) (rw (length-set heads (place x) n) py)

pub linked-start : (heads : List ℕ) (size : ℕ) → length heads ≡ size → ((p : ℕ) → p < size → get_or heads p 0 ≡ no_watch) → IsLinked heads [] [] []
linked-start heads size e f = record {
  lists = λ p. [];
  chained = λ p lt. f p (rw (← e) lt);
  own = λ p n h. absurd (cc);
  distinct = λ p. distinct_nothing;
  all = λ n lt h. absurd (omega arith);
  few = omega arith;
  sizes = refl;
}
