-- Choices between words, term by term.
use Rattle.std.proofs.Common.{◌≡◌, ℕ, ◌+◌, ◌*◌, ◌<◌, Bool, List, [], ◌∷◌, ◌++◌, length, get_or, refl, ap, sym, ◌∙◌, subst, arith, take, length-append, inl, inr}
use Rattle.std.specs.Prelude.{if◌then◌else◌, slice_index}
use Rattle.std.proofs.lemmas.List.{get_or_append_left, length-map, length-take, map-append, map_more, get_or-map}
use Rattle.std.proofs.lemmas.Bool.{cases_lt, eq-eqb, ne_eqb}
use Rattle.term_spec.specs.Terms.{TermReading, InRange, TermNode, SelectNode, HasWidth, term_word, select}
use Rattle.term_dag.specs.Made.{IsMade}
use Rattle.term_dag.specs.declared.nodes.Term.{Term}
use Rattle.term_dag.proofs.ListLaws.{last}
use Rattle.term_dag.proofs.Growth.{grew_none, grew_on, grew_more, grew_width, made_grew, made_width, inputs_none, inputs_on, made_inputs}
use Rattle.term_names.specs.Choices.{places, AreWide, differs, differing, IsChosen, AreChosen}

pub differs_same : (a b : ℕ) → a ≡ b → differs a b ≡ 0
differs_same a b e = ap (λ (z : Bool). if z then 0 else 1) (eq-eqb a b e)

pub differs_other : (a b : ℕ) → (a ≡ b → ⊥) → differs a b ≡ 1
differs_other a b h = ap (λ (z : Bool). if z then 0 else 1) (ne_eqb a b h)

-- where the two are one term
pub chosen_same : (ns : List TermNode) (w c a b : ℕ) → a ≡ b → HasWidth ns w a → IsChosen ns ns w c a b a
chosen_same ns w c a b e h = record {
  grew = grew_more ns ns 0 0 0 0 0 (w * differs a b) 0 0 0 (2 * differs a b) (omega arith) (omega arith) (omega arith) (omega arith) (omega arith)
      (grew_none ns);
  inputs = inputs_none ns (λ m. ⊥);
  place = h;
  kept = λ k. refl;
  when_true = λ x g k. refl;
  when_false = λ x g k. ap (term_word x ns) e;
}

-- where a selection was made
pub chosen_made : (old new : List TermNode) (w c a b t : ℕ) → (a ≡ b → ⊥) → IsMade old new (SelectNode w c a b) t → IsChosen old new w c a b t
chosen_made old new w c a b t h k =
    let d = differs_other a b h in
    let e : w * differs a b ≡ w = ap (λ z. w * z) d ∙ (let z : w * 1 ≡ w = omega arith in z) in
    let v : (x : TermReading) → InRange x → term_word x new t
    ≡ select (term_word x old c) (term_word x old a) (term_word x old b) = λ x g. ap (λ z. z.word) (k.value x g) in record {
      grew = grew_more old new w 0 0 0 2 (w * differs a b) 0 0 0 (2 * differs a b) (omega (arith, e)) (omega arith) (omega arith) (omega arith)
          (omega (arith, d)) (made_grew old new (SelectNode w c a b) t k);
      inputs = made_inputs old new (SelectNode w c a b) t (λ m. ⊥) k (λ i. i);
      place = made_width old new (SelectNode w c a b) t w k refl;
      kept = λ e. absurd (h e);
      when_true = λ x g e. v x g ∙ ap (λ z. select z (term_word x old a) (term_word x old b)) e;
      when_false = λ x g e. v x g ∙ ap (λ z. select z (term_word x old a) (term_word x old b)) e;
    }

-- rows without terms
pub none_chosen : (ns : List TermNode) (w c : ℕ) → AreChosen ns ns w c [] [] []
none_chosen ns w c = record {
  grew = grew_more ns ns 0 0 0 0 0 (w * 0) 0 0 0 0 (omega arith) (omega arith) (omega arith) (omega arith) (omega arith) (grew_none ns);
  inputs = inputs_none ns (λ m. ⊥);
  count = refl;
  wide = λ i h. absurd (omega arith);
  kept = λ i h e. absurd (omega arith);
  when_true = λ x g e i h. absurd (omega arith);
  when_false = λ x g e i h. absurd (omega arith);
}

differing_push : (xs ys : List ℕ) (a b : ℕ) → length xs ≡ length ys → differing (xs ++ a ∷ []) (ys ++ b ∷ []) ≡ differing xs ys + differs a b
differing_push [] [] a b e = omega arith
differing_push [] (y ∷ ys) a b e = absurd (omega arith)
differing_push (x ∷ xs) [] a b e = absurd (omega arith)
differing_push (x ∷ xs) (y ∷ ys) a b e = let h = differing_push xs ys a b (omega arith) in omega arith

-- a fact of each place of a longer list
pub each_more : (P : ℕ → ℕ → Type 0) (ts : List ℕ) (t : ℕ) → ((i : ℕ) → i < length ts → P i (slice_index ts i)) → P (length ts) t →
    (i : ℕ) → i < length ts + 1 → P i (slice_index (ts ++ t ∷ []) i)
each_more P ts t f h i l =
    elim (cases_lt i (length ts)) [
      | inl k ↦ subst (P i) (sym (get_or_append_left ts (t ∷ []) 0 i k)) (f i k)
      | inr k ↦ (let e : length ts ≡ i = omega arith in
          subst (λ (j : ℕ). P j (slice_index (ts ++ t ∷ []) j)) e (subst (P (length ts)) (sym (last ts t 0)) h))
    ]

-- rows with one term more
more_chosen : (old mid new : List TermNode) (w c : ℕ) (xs ys ts : List ℕ) (a b t : ℕ) → length xs ≡ length ys → HasWidth old 1 c → HasWidth old w a →
    HasWidth old w b →
    AreChosen old mid w c xs ys ts → IsChosen mid new w c a b t → AreChosen old new w c (xs ++ a ∷ []) (ys ++ b ∷ []) (ts ++ t ∷ [])
more_chosen old mid new w c xs ys ts a b t e hc ha hb p q =
    let d = differing_push xs ys a b e in
    let f : w * differing (xs ++ a ∷ []) (ys ++ b ∷ []) ≡ w * differing xs ys + w * differs a b = ap (λ z. w * z) d ∙ grind arith in
    let n = length-append xs (a ∷ []) in
    let m : length (ts ++ t ∷ []) ≡ length ts + 1 = length-append ts (t ∷ []) in
    let long : length (xs ++ a ∷ []) ≡ length ts + 1 = omega (arith, p.count) in record {
      grew = grew_more old new _ _ _ _ _ (w * differing (xs ++ a ∷ []) (ys ++ b ∷ [])) 0 0 0 (2 * differing (xs ++ a ∷ []) (ys ++ b ∷ []))
          (omega (arith, f)) (omega arith) (omega arith) (omega arith) (omega (arith, d)) (grew_on old mid new _ _ _ _ _ _ _ _ _ _ p.grew q.grew);
      inputs = inputs_on old mid new (λ m. ⊥) p.inputs q.inputs;
      count = omega (arith, p.count);
      wide = λ i h. each_more (λ j v. HasWidth new w v) ts t (λ j k. grew_width mid new _ _ _ _ _ w (slice_index ts j) q.grew (p.wide j k)) q.place i
          (omega arith);
      kept = λ i h.
          each_more (λ j v. slice_index (xs ++ a ∷ []) j ≡ slice_index (ys ++ b ∷ []) j → v ≡ slice_index (xs ++ a ∷ []) j) ts t
          (λ j k s.
          let x = get_or_append_left xs (a ∷ []) 0 j (omega (arith, p.count)) in
          let y = get_or_append_left ys (b ∷ []) 0 j (omega (arith, p.count, e)) in
          p.kept j (omega (arith, p.count)) (sym x ∙ s ∙ y) ∙ sym x)
          (λ s.
          let x = ap (slice_index (xs ++ a ∷ [])) p.count ∙ last xs a 0 in
          let y = ap (slice_index (ys ++ b ∷ [])) (p.count ∙ e) ∙ last ys b 0 in
          q.kept (sym x ∙ s ∙ y) ∙ sym x) i (omega arith);
      when_true = λ x g s i h.
          each_more (λ j v. term_word x new v ≡ term_word x old (slice_index (xs ++ a ∷ []) j)) ts t
          (λ j k. ap (λ z. z.word) (q.grew.keeps x (slice_index ts j) (p.wide j k).0) ∙ p.when_true x g s j (omega (arith, p.count))
          ∙ ap (term_word x old) (sym (get_or_append_left xs (a ∷ []) 0 j (omega (arith, p.count)))))
          (q.when_true x g (ap (λ z. z.word) (p.grew.keeps x c hc.0) ∙ s) ∙ ap (λ z. z.word) (p.grew.keeps x a ha.0)
          ∙ ap (term_word x old) (sym (ap (slice_index (xs ++ a ∷ [])) p.count ∙ last xs a 0))) i (omega arith);
      when_false = λ x g s i h.
          each_more (λ j v. term_word x new v ≡ term_word x old (slice_index (ys ++ b ∷ []) j)) ts t
          (λ j k. ap (λ z. z.word) (q.grew.keeps x (slice_index ts j) (p.wide j k).0) ∙ p.when_false x g s j (omega (arith, p.count))
          ∙ ap (term_word x old) (sym (get_or_append_left ys (b ∷ []) 0 j (omega (arith, p.count, e)))))
          (q.when_false x g (ap (λ z. z.word) (p.grew.keeps x c hc.0) ∙ s) ∙ ap (λ z. z.word) (p.grew.keeps x b hb.0)
          ∙ ap (term_word x old) (sym (ap (slice_index (ys ++ b ∷ [])) (p.count ∙ e) ∙ last ys b 0))) i (omega arith);
    }

-- a term where there is none
abbrev pub no_term : Term
no_term = record { 0 = 0 }

-- the place of a term of a slice
pub wide_at : (ns : List TermNode) (w : ℕ) (xs : List Term) (i : ℕ) → i < length xs → AreWide ns w (places xs) → HasWidth ns w (get_or xs i no_term).0
wide_at ns w xs i h f =
    subst (HasWidth ns w) (get_or-map (λ (t : Term). t.0) xs i no_term 0 h) (f i (let l = length-map xs (λ (t : Term). t.0) in omega arith))

-- the first terms of two slices, with one more
pub step_chosen : (old mid new : List TermNode) (w c : ℕ) (xs ys ts us : List Term) (i : ℕ) (t : Term) → i < length xs → length xs ≡ length ys →
    us ≡ ts ++ t ∷ [] → HasWidth old 1 c → AreWide old w (places xs) → AreWide old w (places ys) →
    AreChosen old mid w c (places (take i xs)) (places (take i ys)) (places ts) → IsChosen mid new w c (get_or xs i no_term).0 (get_or ys i no_term).0 t.0 →
    AreChosen old new w c (places (take (i + 1) xs)) (places (take (i + 1) ys)) (places us)
step_chosen old mid new w c xs ys ts us i t h e pu hc wx wy p q =
    let x = get_or xs i no_term in
    let y = get_or ys i no_term in
    let at : (zs : List Term) → i < length zs → places (take (i + 1) zs) ≡ places (take i zs) ++ (get_or zs i no_term).0 ∷ [] =
    λ zs k. map_more (λ (t : Term). t.0) zs i no_term k in
    let count : length (places (take i xs)) ≡ length (places (take i ys)) =
    (let a = length-map (take i xs) (λ (t : Term). t.0) in let b = length-map (take i ys) (λ (t : Term). t.0) in
    omega (arith, length-take i xs, length-take i ys)) in
    let all = more_chosen old mid new w c (places (take i xs)) (places (take i ys)) (places ts) x.0 y.0 t.0 count hc
    (wide_at old w xs i h wx) (wide_at old w ys i (omega arith) wy) p q in
    subst (λ z. AreChosen old new w c (places (take (i + 1) xs)) (places (take (i + 1) ys)) z)
    (sym (ap places pu ∙ map-append (λ (t : Term). t.0) ts (t ∷ [])))
    (subst (λ z. AreChosen old new w c (places (take (i + 1) xs)) z (places ts ++ t.0 ∷ [])) (sym (at ys (omega arith)))
    (subst (λ z. AreChosen old new w c z (places (take i ys) ++ y.0 ∷ []) (places ts ++ t.0 ∷ [])) (sym (at xs h)) all))
