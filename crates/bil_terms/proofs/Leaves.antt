-- Terms that are made of few nodes: negatives and unknowns.
use Rattle.std.proofs.Common.{◌≡◌, ℕ, ◌+◌, ◌-◌, ◌*◌, ◌/◌, ◌%◌, ◌^◌, ◌≤◌, List, refl, sym, ap, ◌∙◌, subst, arith, false}
use Rattle.std.proofs.Math.Nat.{mod-eq_of_lt, pow-le-pow_right}
use Rattle.word_spec.specs.Words as words
use Rattle.machine_spec.specs.Bil.{Minus, Negate, Bits}
use Rattle.machine_spec.specs.BilMeaning.{Word}
use Rattle.term_spec.specs.Terms.{TermNode, TermValue, ConstantNode, ChoiceNode, BinaryNode, ExtractNode, ExtendNode, HasWidth, IsWidth, term_word}
use Rattle.term_dag.specs.Nodes.{IsInput}
use Rattle.term_dag.specs.Made.{InputsFrom, IsInterned, IsMade}
use Rattle.term_dag.proofs.Growth.{grew_on, grew_more, made_grew, made_width, made_inputs, interned_grew, interned_width, interned_inputs, inputs_on}
use Rattle.bil_terms.specs.Lowered.{IsUnknown, IsUnary}
use Rattle.bil_terms.proofs.Scopes.{word_kept}

-- the negative is the difference from 0
pub negated : (d0 d1 d2 : List TermNode) (w a z t : ℕ) → IsWidth w → HasWidth d0 w a → IsInterned d0 d1 (ConstantNode w 0) z →
    IsMade d1 d2 (BinaryNode Minus w z a) t →
    IsUnary d0 d2 Negate w a t
negated d0 d1 d2 w a z t i h p q =
    let g = interned_grew d0 d1 (ConstantNode w 0) z p in record {
      grew = grew_more d0 d2 _ _ _ _ _ (2 * w) 0 0 0 3 (omega arith) (omega arith) (omega arith) (omega arith) (omega arith)
          (grew_on d0 d1 d2 _ _ _ _ _ _ _ _ _ _ g (made_grew d1 d2 (BinaryNode Minus w z a) t q));
      inputs = inputs_on d0 d1 d2 (λ m. ⊥) (interned_inputs d0 d1 (ConstantNode w 0) z (λ m. ⊥) p (λ j. j)) (made_inputs d1 d2 (BinaryNode Minus w z a) t
          (λ m. ⊥) q (λ j. j));
      at = made_width d1 d2 (BinaryNode Minus w z a) t w q refl;
      value = λ x r. ap (Word w) (sym (
          ap (λ (u : TermValue). u.word) (q.value x r)
          ∙ ap (λ u. words.sub w u (term_word x d1 a)) (ap (λ (u : TermValue). u.word) (p.value x))
          ∙ ap (words.sub w 0) (word_kept d0 d1 _ _ _ _ _ a x g h.0)
          ∙ ap (λ u. u % 2 ^ w) (let e : 0 + (2 ^ w - term_word x d0 a) ≡ 2 ^ w - term_word x d0 a = omega arith in e)));
    }

unknown_inputs : (d0 d1 d2 : List TermNode) (place c t : ℕ) (m : TermNode) → IsInterned d0 d1 (ChoiceNode place) c → IsInterned d1 d2 m t → (IsInput m → ⊥) →
    InputsFrom d0 d2 (λ k. k ≡ ChoiceNode place)
unknown_inputs d0 d1 d2 place c t m p q i =
    inputs_on d0 d1 d2 (λ k. k ≡ ChoiceNode place) (interned_inputs d0 d1 (ChoiceNode place) c (λ k. k ≡ ChoiceNode place) p (λ j. refl))
    (interned_inputs d1 d2 m t (λ k. k ≡ ChoiceNode place) q (λ j. absurd (i j)))

-- one bit of a choice
pub narrow_unknown : (d0 d1 d2 : List TermNode) (place w c t : ℕ) → w ≡ 1 → IsInterned d0 d1 (ChoiceNode place) c → IsInterned d1 d2 (ExtractNode 0 0 c) t →
    IsUnknown d0 d2 place (Bits w) t
narrow_unknown d0 d1 d2 place w c t e p q =
    subst (λ (z : ℕ). IsUnknown d0 d2 place (Bits z) t) (sym e) (record {
      grew = grew_on d0 d1 d2 _ _ _ _ _ _ _ _ _ _ (interned_grew d0 d1 (ChoiceNode place) c p) (interned_grew d1 d2 (ExtractNode 0 0 c) t q);
      inputs = unknown_inputs d0 d1 d2 place c t (ExtractNode 0 0 c) p q (λ j. j);
      wide = (omega arith, omega arith);
      at = interned_width d1 d2 (ExtractNode 0 0 c) t 1 q refl;
      value = λ x r. ap (Word 1) (sym (
          ap (λ (u : TermValue). u.word) (q.value x) ∙ ap (words.bits 0 0) (ap (λ (u : TermValue). u.word) (p.value x))
          ∙ (let z : x.choice place / 1 % 2 ≡ x.choice place % 2 = omega arith in z)));
    })

-- a choice in more bits
pub wide_unknown : (d0 d1 d2 : List TermNode) (place w c t : ℕ) → 2 ≤ w → w ≤ 64 → IsInterned d0 d1 (ChoiceNode place) c →
    IsInterned d1 d2 (ExtendNode false 2 w c) t →
    IsUnknown d0 d2 place (Bits w) t
wide_unknown d0 d1 d2 place w c t h l p q = record {
  grew = grew_on d0 d1 d2 _ _ _ _ _ _ _ _ _ _ (interned_grew d0 d1 (ChoiceNode place) c p) (interned_grew d1 d2 (ExtendNode false 2 w c) t q);
  inputs = unknown_inputs d0 d1 d2 place c t (ExtendNode false 2 w c) p q (λ j. j);
  wide = (omega arith, l);
  at = interned_width d1 d2 (ExtendNode false 2 w c) t w q refl;
  value = λ x r. ap (Word w) (
      mod-eq_of_lt (let k : 2 ^ 2 ≤ 2 ^ w = pow-le-pow_right (omega arith) h in omega (arith, r.choice place, k))
      ∙ sym (ap (λ (u : TermValue). u.word) (q.value x) ∙ ap (λ (u : TermValue). u.word) (p.value x)));
}
