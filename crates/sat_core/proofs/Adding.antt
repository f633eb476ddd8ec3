-- One more clause.
use Rattle.std.proofs.Common.{◌≡◌, ℕ, ◌+◌, ◌-◌, ◌*◌, ◌/◌, ◌<◌, true, false, List, [], ◌∷◌, ◌++◌, Some, refl, arith, sym, ap, ◌∙◌, length, length-append, get_or, eq-eqb, inl, inr, ◌⊎◌}
use Rattle.std.specs.Prelude.{slice_get}
use Rattle.std.proofs.lemmas.Bool.{ne_eqb, cases_eq}
use Rattle.std.proofs.lemmas.List.{get_or_append_left, get_or-append-add}
use Rattle.std.proofs.Math.Seq.{get_or-append_seam}
use Rattle.std.proofs.lemmas.List.Elements.{Contains-push_cases}
use Rattle.std.proofs.lemmas.Option.{slice_get_within}
use Rattle.clause_spec.specs.Clauses.{Literal, Clause, same, has, IsOnVariables, AreOnVariables}
use Rattle.clause_spec.proofs.NewClauses.{differ_swap}
use Rattle.sat_core.specs.Links.{no_watch, watched_at, some_literal, mate, IsLinked, IsPlaced}
use Rattle.sat_core.specs.Moves.{IsShort, IsIn, AreCovered, AreReady}
use Rattle.sat_core.proofs.Logs.{get-last}
use Rattle.sat_core.proofs.Chains.{linked-start}
use Rattle.sat_core.proofs.Visiting.{get-one}
use Rattle.sat_core.proofs.Keeping.{mate-within, owner-within}

module _ (cs : List Clause) (c : Clause) where
  pub get-old : (k : ℕ) → k < length cs → slice_get (cs ++ c ∷ []) k ≡ slice_get cs k
  get-old k lt = get-last cs c k ∙ rw (ne_eqb k (length cs) (λ e. omega arith)) refl

  pub get-new : slice_get (cs ++ c ∷ []) (length cs) ≡ Some c
  get-new = get-last cs c (length cs) ∙ rw (eq-eqb (length cs) (length cs) refl) refl

  pub over-more : (n : ℕ) → AreOnVariables n cs → IsOnVariables n c → AreOnVariables n (cs ++ c ∷ [])
  over-more n over w = λ d k. elim (Contains-push_cases cs c d k) [ inl e ↦ over d e | inr e ↦ rw (← e) w ]

  in-old : (ns : List ℕ) (more : List ℕ) (k : ℕ) → IsIn ns k → IsIn (ns ++ more) k
  in-old ns more k i = let lt : i.0 < length ns = i.1 in (i.0, omega (arith, length-append ns more), get_or_append_left ns more 0 i.0 lt ∙ i.2)

  in-new : (ns : List ℕ) (k : ℕ) → IsIn (ns ++ k ∷ []) k
  in-new ns k = (length ns, omega (arith, length-append ns (k ∷ [])), get_or-append_seam ns k [] 0)

  -- a short clause
  pub covered-short : (owners short : List ℕ) → AreCovered cs owners short → IsShort c → AreCovered (cs ++ c ∷ []) owners (short ++ length cs ∷ [])
  covered-short owners short r s = record {
    covered = λ k lt. elim (cases_eq k (length cs)) [
      | inl e ↦ inl (rw e (in-new short (length cs)))
      | inr e ↦
          let small : k < length cs = omega (arith, length-append cs (c ∷ []), e) in
          elim (r.covered k small) [ inl i ↦ inl (in-old short (length cs ∷ []) k i) | inr i ↦ inr i ]
    ];
    shorts = λ j lt. elim (cases_eq j (length short)) [
      | inl e ↦ (c, ap (slice_get (cs ++ c ∷ [])) (ap (λ i. get_or (short ++ length cs ∷ []) i 0) e ∙ get_or-append_seam short (length cs) [] 0) ∙ get-new, s)
      | inr e ↦
          let small : j < length short = omega (arith, length-append short (length cs ∷ []), e) in
          let o = r.shorts j small in (
            o.0,
            ap (slice_get (cs ++ c ∷ [])) (get_or_append_left short (length cs
                ∷ []) 0 j small) ∙ get-old (get_or short j 0) (slice_get_within cs (get_or short j 0) o.0 o.1) ∙ o.1,
            o.2,
          )
    ];
  }

  pub covered-wide : (owners short : List ℕ) → AreCovered cs owners short → AreCovered (cs ++ c ∷ []) (owners ++ length cs ∷ []) short
  covered-wide owners short r = record {
    covered = λ k lt. elim (cases_eq k (length cs)) [
      | inl e ↦ inr (rw e (in-new owners (length cs)))
      | inr e ↦
          let small : k < length cs = omega (arith, length-append cs (c ∷ []), e) in
          elim (r.covered k small) [ inl i ↦ inl i | inr i ↦ inr (in-old owners (length cs ∷ []) k i) ]
    ];
    shorts = λ j lt. let o = r.shorts j lt in (o.0, get-old (get_or short j 0) (slice_get_within cs (get_or short j 0) o.0 o.1) ∙ o.1, o.2);
  }

  pub placed-short : (owners : List ℕ) (watched : List Literal) → IsPlaced cs owners watched → IsPlaced (cs ++ c ∷ []) owners watched
  placed-short owners watched p = record {
    pairs = p.pairs;
    within = λ j lt. omega (arith, length-append cs (c ∷ []), p.within j lt);
    inside = λ n d lt is.
        let pairs = p.pairs in
        let j : n / 2 < length owners = owner-within n (length owners) (omega arith) in
        p.inside n d lt (sym (get-old (get_or owners (n / 2) 0) (p.within (n / 2) j)) ∙ is);
    apart = p.apart;
  }

  -- a watch of the new clause
  new-watch : (owners : List ℕ) (watched : List Literal) (a b : Literal) → IsPlaced cs owners watched → (n : ℕ) → n < length (watched ++ a ∷ b ∷ []) →
      n / 2 ≡ length owners →
      ((n ≡ length watched) × (watched_at (watched ++ a ∷ b ∷ []) n ≡ a)) ⊎ ((n ≡ length watched + 1) × (watched_at (watched ++ a ∷ b ∷ []) n ≡ b))
  new-watch owners watched a b p n lt e =
      let pairs = p.pairs in
      elim (cases_eq n (length watched)) [
        | inl f ↦ inl (f, ap (watched_at (watched ++ a ∷ b ∷ [])) f ∙ get_or-append_seam watched a (b ∷ []) some_literal)
        | inr f ↦
            let g : n ≡ length watched + 1 = omega (arith, length-append watched (a ∷ b ∷ []), f) in
            inr (g, ap (watched_at (watched ++ a ∷ b ∷ [])) g ∙ get_or-append-add watched (a ∷ b ∷ []) 1 some_literal)
      ]

  pub placed-wide : (owners : List ℕ) (watched : List Literal) (a b : Literal) → IsPlaced cs owners watched → has c a ≡ true → has c b ≡ true →
      same a b ≡ false →
      IsPlaced (cs ++ c ∷ []) (owners ++ length cs ∷ []) (watched ++ a ∷ b ∷ [])
  placed-wide owners watched a b p ha hb d = record {
    pairs = (let pairs = p.pairs in omega (arith, length-append watched (a ∷ b ∷ []), length-append owners (length cs ∷ [])));
    within = λ j lt. elim (cases_eq j (length owners)) [
      | inl e ↦ rw (ap (λ i. get_or (owners ++ length cs ∷ []) i 0) e ∙ get_or-append_seam owners (length cs) [] 0) (omega (arith, length-append cs (c ∷ [])))
      | inr e ↦
          let small : j < length owners = omega (arith, length-append owners (length cs ∷ []), e) in
          rw (get_or_append_left owners (length cs ∷ []) 0 j small) (omega (arith, length-append cs (c ∷ []), p.within j small))
    ];
    inside = λ n d lt is. elim (cases_eq (n / 2) (length owners)) [
      | inl e ↦
          let q : d ≡ c =
          (let g : slice_get (cs ++ c ∷ []) (get_or (owners ++ length cs ∷ []) (n / 2) 0) ≡ Some c =
          ap (λ i. slice_get (cs ++ c ∷ []) (get_or (owners ++ length cs ∷ []) i 0)) e
          ∙ ap (slice_get (cs ++ c ∷ [])) (get_or-append_seam owners (length cs) [] 0) ∙ get-new in
          get-one (cs ++ c ∷ []) (get_or (owners ++ length cs ∷ []) (n / 2) 0) d c is g) in
          ap (λ (z : Clause). has z (watched_at (watched ++ a ∷ b ∷ []) n)) q ∙ (elim (new-watch owners watched a b p n lt e) [
            | inl f ↦ ap (has c) f.1 ∙ ha
            | inr f ↦ ap (has c) f.1 ∙ hb
          ])
      | inr e ↦
          let pairs = p.pairs in
          let small : n < length watched = omega (arith, length-append watched (a ∷ b ∷ []), e) in
          let j : n / 2 < length owners = owner-within n (length owners) (omega arith) in
          ap (has d) (get_or_append_left watched (a ∷ b ∷ []) some_literal n small)
          ∙ p.inside n d small (sym (ap (slice_get (cs ++ c ∷ [])) (get_or_append_left owners (length cs
          ∷ []) 0 (n / 2) j) ∙ get-old (get_or owners (n / 2) 0) (p.within (n / 2) j)) ∙ is)
    ];
    apart = λ n lt. elim (cases_eq (n / 2) (length owners)) [
      | inl e ↦ elim (new-watch owners watched a b p n lt e) [
        | inl f ↦
            let m : mate n ≡ length watched + 1 = (let z = f.0 in let pairs = p.pairs in omega arith) in
            ap (λ (z : Literal). same z (watched_at (watched ++ a ∷ b ∷ []) (mate n))) f.1
            ∙ ap (same a) (ap (watched_at (watched ++ a ∷ b ∷ [])) m ∙ get_or-append-add watched (a ∷ b ∷ []) 1 some_literal) ∙ d
        | inr f ↦
            let m : mate n ≡ length watched = (let z = f.0 in let pairs = p.pairs in omega arith) in
            ap (λ (z : Literal). same z (watched_at (watched ++ a ∷ b ∷ []) (mate n))) f.1
            ∙ ap (same b) (ap (watched_at (watched ++ a ∷ b ∷ [])) m ∙ get_or-append_seam watched a (b ∷ []) some_literal) ∙ differ_swap b a d
      ]
      | inr e ↦
          let pairs = p.pairs in
          let small : n < length watched = omega (arith, length-append watched (a ∷ b ∷ []), e) in
          let m : mate n < length watched = (let z = mate-within n (length owners) (omega arith) in omega arith) in
          ap (λ (z : Literal). same z (watched_at (watched ++ a ∷ b ∷ []) (mate n))) (get_or_append_left watched (a ∷ b ∷ []) some_literal n small)
          ∙ ap (same (watched_at watched n)) (get_or_append_left watched (a ∷ b ∷ []) some_literal (mate n) m) ∙ p.apart n small
    ];
  }

  module _ (heads links owners short : List ℕ) (watched : List Literal) (size : ℕ) (r : AreReady cs heads links owners short watched size)
      (w : IsOnVariables (size - 1) c) where
    pub ready-short : IsShort c → AreReady (cs ++ c ∷ []) heads links owners (short ++ length cs ∷ []) watched size
    ready-short s = record {
      over = over-more (size - 1) r.over w;
      heads_size = r.heads_size;
      linked = r.linked;
      placed = placed-short owners watched r.placed;
      covered = covered-short owners short r.covered s;
    }

    pub ready-wide : (a b : Literal) → has c a ≡ true → has c b ≡ true → same a b ≡ false → (heads' links' : List ℕ) → length heads' ≡ length heads →
        IsLinked heads' links' (watched ++ a ∷ b ∷ []) [] → AreReady (cs ++ c ∷ []) heads' links' (owners ++ length cs ∷ []) short (watched ++ a ∷ b ∷ []) size
    ready-wide a b ha hb d heads' links' e l = record {
      over = over-more (size - 1) r.over w;
      heads_size = e ∙ r.heads_size;
      linked = l;
      placed = placed-wide owners watched a b r.placed ha hb d;
      covered = covered-wide owners short r.covered;
    }

pub ready-start : (heads : List ℕ) (size : ℕ) → length heads ≡ 2 * size → ((p : ℕ) → p < 2 * size → get_or heads p 0 ≡ no_watch) →
    AreReady [] heads [] [] [] [] size
ready-start heads size e f = record {
  over = λ c k. absurd (let lt = k.1 in omega arith);
  heads_size = e;
  linked = linked-start heads (2 * size) e f;
  placed = record { pairs = refl; within = λ j lt. absurd (omega arith); inside = λ n c lt is. absurd (omega arith); apart = λ n lt. absurd (omega arith) };
  covered = record { covered = λ k lt. absurd (omega arith); shorts = λ j lt. absurd (omega arith) };
}
