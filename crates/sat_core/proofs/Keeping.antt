-- What is kept of watched literals when a watch moves.
use Rattle.std.proofs.Common.{◌≡◌, ◌≢◌, ℕ, ◌*◌, ◌/◌, ◌<◌, Bool, true, false, List, arith, sym, ap, ◌∙◌, length, get_or, slice_set, eq-eqb, inl, inr, get_or-set_other, get_or-set_same}
use Rattle.std.specs.Prelude.{nat_eq, slice_get, Some}
use Rattle.std.proofs.lemmas.Bool.{cases_Bool, eqb-true, both_ways}
use Rattle.std.proofs.lemmas.List.{length-set}
use Rattle.clause_spec.specs.Clauses.{Literal, Clause, same, opposite, has}
use Rattle.clause_spec.specs.UnitPropagation.{Includes}
use Rattle.clause_spec.proofs.NewClauses.{differ_swap}
use Rattle.sat_core.specs.Links.{watched_at, some_literal, mate, among, IsPlaced, AreKept}

pub mate-mate : (n : ℕ) → mate (mate n) ≡ n
mate-mate n = omega arith

pub mate-other : (n : ℕ) → mate n ≢ n
mate-other n e = omega arith

pub mate-owner : (n : ℕ) → mate n / 2 ≡ n / 2
mate-owner n = omega arith

pub mate-within : (n k : ℕ) → n < 2 * k → mate n < 2 * k
mate-within n k lt = omega arith

pub owner-within : (n k : ℕ) → n < 2 * k → n / 2 < k
owner-within n k lt = omega arith

pub put-same : (watched : List Literal) (n : ℕ) (l : Literal) → n < length watched → watched_at (slice_set watched n l) n ≡ l
put-same watched n l lt = get_or-set_same watched n l some_literal lt

pub put-other : (watched : List Literal) (n : ℕ) (l : Literal) (i : ℕ) → i ≢ n → watched_at (slice_set watched n l) i ≡ watched_at watched i
put-other watched n l i ne = get_or-set_other watched n i l some_literal ne

-- a watch takes a literal, which may be the one that it had
module _ (watched : List Literal) (n : ℕ) (l : Literal) (lt : n < length watched) where
  mate-put : watched_at (slice_set watched n l) (mate n) ≡ watched_at watched (mate n)
  mate-put = put-other watched n l (mate n) (mate-other n)

  pub kept-put : (free less : List ℕ) (done h k : Literal → Bool) → Includes h k → ((i : ℕ) → i ≢ n → among less i ≡ false → among free i ≡ false) →
      AreKept watched free done h → (h (watched_at watched n) ≡ true → ⊥) → (done (opposite l) ≡ true → k (watched_at watched (mate n)) ≡ true) →
      AreKept (slice_set watched n l) less done k
  kept-put free less done h k grows sub old dead new = λ i li f d. elim (cases_Bool (nat_eq i n)) [
    | inl e ↦
        let q : i ≡ n = eqb-true i n e in
        let a : watched_at (slice_set watched n l) i ≡ l = ap (watched_at (slice_set watched n l)) q ∙ put-same watched n l lt in
        let b : watched_at (slice_set watched n l) (mate i) ≡ watched_at watched (mate n) = ap
        (λ j. watched_at (slice_set watched n l) (mate j)) q ∙ mate-put in
        ap k b ∙ new (ap (λ (z : Literal). done (opposite z)) (sym a) ∙ d)
    | inr e ↦
        let ne : i ≢ n = λ z. both_ways (nat_eq i n) e (eq-eqb i n z) in
        let b : i < length watched = rw (length-set watched n l) at li in
        let o = old i b (sub i ne f) (ap (λ (z : Literal). done (opposite z)) (sym (put-other watched n l i ne)) ∙ d) in
        elim (cases_Bool (nat_eq (mate i) n)) [
          | inl g ↦ absurd (dead (ap (λ j. h (watched_at watched j)) (sym (eqb-true (mate i) n g)) ∙ o))
          | inr g ↦
              let nm : mate i ≢ n = λ z. both_ways (nat_eq (mate i) n) g (eq-eqb (mate i) n z) in
              ap k (put-other watched n l (mate i) nm) ∙ grows (watched_at watched (mate i)) o
        ]
  ]

  pub placed-put : (cs : List Clause) (owners : List ℕ) → IsPlaced cs owners watched →
      ((c : Clause) → slice_get cs (get_or owners (n / 2) 0) ≡ Some c → has c l ≡ true) → same l (watched_at watched (mate n)) ≡ false →
      IsPlaced cs owners (slice_set watched n l)
  placed-put cs owners p inside apart = record {
    pairs = length-set watched n l ∙ p.pairs;
    within = p.within;
    inside = λ i c li is. elim (cases_Bool (nat_eq i n)) [
      | inl e ↦
          let q : i ≡ n = eqb-true i n e in
          ap (λ j. has c (watched_at (slice_set watched n l) j)) q ∙ ap (has c) (put-same watched n l lt)
          ∙ inside c (ap (λ j. slice_get cs (get_or owners (j / 2) 0)) (sym q) ∙ is)
      | inr e ↦
          let ne : i ≢ n = λ z. both_ways (nat_eq i n) e (eq-eqb i n z) in
          ap (has c) (put-other watched n l i ne) ∙ p.inside i c (rw (length-set watched n l) at li) is
    ];
    apart = λ i li. elim (cases_Bool (nat_eq i n)) [
      | inl e ↦
          let q : i ≡ n = eqb-true i n e in
          ap (λ j. same (watched_at (slice_set watched n l) j) (watched_at (slice_set watched n l) (mate j))) q
          ∙ ap (λ (z : Literal). same z (watched_at (slice_set watched n l) (mate n))) (put-same watched n l lt)
          ∙ ap (same l) mate-put ∙ apart
      | inr e ↦
          let ne : i ≢ n = λ z. both_ways (nat_eq i n) e (eq-eqb i n z) in
          elim (cases_Bool (nat_eq (mate i) n)) [
            | inl g ↦
                let q : i ≡ mate n = sym (mate-mate i) ∙ ap mate (eqb-true (mate i) n g) in
                let a : watched_at (slice_set watched n l) i ≡ watched_at watched (mate n) = put-other watched n l i ne ∙ ap (watched_at watched) q in
                let b : watched_at (slice_set watched n l) (mate i)
                ≡ l = ap (watched_at (slice_set watched n l)) (eqb-true (mate i) n g) ∙ put-same watched n l lt in
                ap (λ (z : Literal). same z (watched_at (slice_set watched n l) (mate i))) a ∙ ap (same (watched_at watched (mate n))) b
                ∙ differ_swap (watched_at watched (mate n)) l apart
            | inr g ↦
                let nm : mate i ≢ n = λ z. both_ways (nat_eq (mate i) n) g (eq-eqb (mate i) n z) in
                ap (λ (z : Literal). same z (watched_at (slice_set watched n l) (mate i))) (put-other watched n l i ne)
                ∙ ap (same (watched_at watched i)) (put-other watched n l (mate i) nm) ∙ p.apart i (rw (length-set watched n l) at li)
          ]
    ];
  }
