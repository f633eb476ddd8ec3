-- The bits by which a run enters the sides of an if.
use Rattle.std.proofs.Common.{◌≡◌, ℕ, zero, suc, ◌<◌, List, length, refl, sym, ap, ◌∙◌, subst, arith, inl, inr}
use Rattle.std.specs.Prelude.{bit_and, bit_or}
use Rattle.std.proofs.lemmas.Bool.{cases_lt}
use Rattle.machine_spec.specs.Bil.{And}
use Rattle.term_spec.specs.Terms.{TermReading, InRange, TermNode, TermValue, BinaryNode, SelectNode, HasWidth, term_word, select}
use Rattle.term_dag.specs.Made.{IsMade}
use Rattle.term_dag.proofs.Growth.{grew_on, grew_more, grew_width, made_grew, made_width, made_inputs, inputs_on}
use Rattle.term_dag.proofs.Ranges.{word_fits}
use Rattle.bil_terms.specs.Merged.{IsSplit}
use Rattle.bil_terms.proofs.Scopes.{word_kept}

and_one : (l : ℕ) → l < 2 → bit_and 1 l ≡ l
and_one zero h = refl
and_one (suc zero) h = refl
and_one (suc (suc n)) h = absurd (omega arith)

and_zero : (l : ℕ) → l < 2 → bit_and 0 l ≡ 0
and_zero zero h = refl
and_zero (suc zero) h = refl
and_zero (suc (suc n)) h = absurd (omega arith)

or_zero : (l : ℕ) → l < 2 → bit_or l 0 ≡ l
or_zero zero h = refl
or_zero (suc zero) h = refl
or_zero (suc (suc n)) h = absurd (omega arith)

zero_or : (l : ℕ) → l < 2 → bit_or 0 l ≡ l
zero_or zero h = refl
zero_or (suc zero) h = refl
zero_or (suc (suc n)) h = absurd (omega arith)

-- the run enters the first side where the condition is 1, and the second where it is 0
pub split_made : (d0 d1 d2 : List TermNode) (c live z one other : ℕ) → HasWidth d0 1 c → HasWidth d0 1 live → HasWidth d0 1 z →
    ((x : TermReading) → term_word x d0 z ≡ 0) →
    IsMade d0 d1 (BinaryNode And 1 c live) one → IsMade d1 d2 (SelectNode 1 c z live) other → IsSplit d0 d2 c live one other
split_made d0 d1 d2 c live z one other hc hl hz zero_is p q =
    let g = made_grew d0 d1 (BinaryNode And 1 c live) one p in
    let h = made_grew d1 d2 (SelectNode 1 c z live) other q in
    let w = made_width d0 d1 (BinaryNode And 1 c live) one 1 p refl in
    let kept : (x : TermReading) (t : ℕ) → t < length d0 → term_word x d1 t ≡ term_word x d0 t = λ x t k. word_kept d0 d1 _ _ _ _ _ t x g k in
    let small : (x : TermReading) (t : ℕ) → InRange x → HasWidth d0 1 t → term_word x d0 t < 2 =
    λ x t i k. subst (λ v. v < 2) (kept x t k.0) (word_fits x d1 1 t i p.typed (grew_width d0 d1 _ _ _ _ _ 1 t g k)) in
    let first : (x : TermReading) → InRange x → term_word x d2 one ≡ bit_and (term_word x d0 c) (term_word x d0 live) =
    λ x i. word_kept d1 d2 _ _ _ _ _ one x h w.0 ∙ ap (λ (v : TermValue). v.word) (p.value x i) in
    let second : (x : TermReading) → InRange x → term_word x d2 other ≡ select (term_word x d0 c) 0 (term_word x d0 live) =
    λ x i. ap (λ (v : TermValue). v.word) (q.value x i) ∙ ap (λ v. select v (term_word x d1 z) (term_word x d1 live)) (kept x c hc.0)
    ∙ ap (λ v. select (term_word x d0 c) v (term_word x d1 live)) (kept x z hz.0 ∙ zero_is x) ∙ ap (select (term_word x d0 c) 0) (kept x live hl.0) in
    let when_true : (x : TermReading) → InRange x → term_word x d0 c ≡ 1 → (term_word x d2 one ≡ term_word x d0 live) × (term_word x d2 other ≡ 0) = λ x i t. (
      first x i ∙ ap (λ v. bit_and v (term_word x d0 live)) t ∙ and_one (term_word x d0 live) (small x live i hl),
      second x i ∙ ap (λ v. select v 0 (term_word x d0 live)) t,
    ) in
    let when_false : (x : TermReading) → InRange x → term_word x d0 c ≡ 0 → (term_word x d2 one ≡ 0) × (term_word x d2 other ≡ term_word x d0 live) = λ x i t. (
      first x i ∙ ap (λ v. bit_and v (term_word x d0 live)) t ∙ and_zero (term_word x d0 live) (small x live i hl),
      second x i ∙ ap (λ v. select v 0 (term_word x d0 live)) t,
    ) in record {
      grew = grew_more d0 d2 _ _ _ _ _ 2 0 0 0 4 (omega arith) (omega arith) (omega arith) (omega arith) (omega arith)
          (grew_on d0 d1 d2 _ _ _ _ _ _ _ _ _ _ g h);
      inputs = inputs_on d0 d1 d2 (λ m. ⊥) (made_inputs d0 d1 (BinaryNode And 1 c live) one (λ m. ⊥) p
          (λ j. j)) (made_inputs d1 d2 (SelectNode 1 c z live) other (λ m. ⊥) q (λ j. j));
      one_bit = grew_width d1 d2 _ _ _ _ _ 1 one h w;
      other_bit = made_width d1 d2 (SelectNode 1 c z live) other 1 q refl;
      small = λ x i. small x c i hc;
      either = λ x i.
          let same = word_kept d1 d2 _ _ _ _ _ live x h (grew_width d0 d1 _ _ _ _ _ 1 live g hl).0 ∙ kept x live hl.0 in
          let few = small x c i hc in
          elim (cases_lt (term_word x d0 c) 1) [
            | inl k ↦ (let t = when_false x i (omega arith) in
                sym (ap (λ v. bit_or v (term_word x d2 other)) t.0 ∙ ap (bit_or 0) t.1 ∙ zero_or (term_word x d0 live) (small x live i hl) ∙ sym same))
            | inr k ↦ (let t = when_true x i (omega arith) in
                sym (ap (λ v. bit_or v (term_word x d2 other)) t.0 ∙ ap (bit_or (term_word x d0 live)) t.1 ∙ or_zero (term_word x d0 live)
                (small x live i hl) ∙ sym same))
          ];
      when_true = when_true;
      when_false = when_false;
    }
