-- How a point is left.
use mir.Val.{bool_byte}
use Rattle.std.proofs.Common.{◌≡◌, ℕ, ◌+◌, ◌%◌, Bool, true, false, List, refl, ap, ◌∙◌, arith}
use Rattle.std.specs.Prelude.{◌==◌, not, if◌then◌else◌}
use Rattle.word_spec.specs.Words.{bit, add}
use Rattle.machine_spec.specs.Bil.{NotEqual}
use Rattle.machine_spec.specs.Machine.{unit, is_place}
use Rattle.term_spec.specs.Terms.{TermNode, BinaryNode, ConstantNode, ExtractNode, SelectNode, HasWidth, term_word, select}
use Rattle.term_spec.specs.Passive.{Tells}
use Rattle.term_dag.specs.Made.{IsMade, IsInterned}
use Rattle.term_dag.proofs.Growth.{grew_on, grew_more, inputs_on, made_grew, made_inputs, made_width, interned_grew, interned_inputs}
use Rattle.term_dag.proofs.LowBits.{low_bits, few_low_bits}
use Rattle.passify.specs.Bits.{Makes}
use Rattle.passify.proofs.Kept.{word_keeps}

pub unaligned_made : (narrow : Bool) (hi : ℕ) → hi ≡ bool_byte (not narrow) → (old a b new : List TermNode) (address low none t : ℕ) →
    IsMade old a (ExtractNode hi 0 address) low → IsInterned a b (ConstantNode (hi + 1) 0) none → IsMade b new (BinaryNode NotEqual (hi + 1) low none) t →
    Makes old new 2 5 1 t (λ x. Tells new x t (not (is_place narrow (term_word x old address))))
unaligned_made narrow hi is old a b new address low none t m1 m2 m3 =
    let few = few_low_bits narrow hi is in
    let g1 = made_grew old a (ExtractNode hi 0 address) low m1 in
    let g2 = interned_grew a b (ConstantNode (hi + 1) 0) none m2 in
    let g3 = made_grew b new (BinaryNode NotEqual (hi + 1) low none) t m3 in
    record {
      grew = grew_more old new (0 + (hi + 1)) 0 0 0 5 2 0 0 0 5 (omega (arith, few)) (omega arith) (omega arith) (omega arith) (omega arith)
          (grew_on old b new 0 0 0 0 3 (hi + 1) 0 0 0 2 (grew_on old a b 0 0 0 0 2 0 0 0 0 1 g1 g2) g3);
      inputs = inputs_on old b new (λ q. ⊥) (inputs_on old a b (λ q. ⊥) (made_inputs old a (ExtractNode hi 0 address) low (λ q. ⊥) m1 (λ i. i))
          (interned_inputs a b (ConstantNode (hi + 1) 0) none (λ q. ⊥) m2 (λ i. i)))
          (made_inputs b new (BinaryNode NotEqual (hi + 1) low none) t (λ q. ⊥) m3 (λ i. i));
      typed = m3.typed;
      width = made_width b new (BinaryNode NotEqual (hi + 1) low none) t 1 m3 refl;
      holds = λ x r. (let e1 : term_word x b low ≡ term_word x old address % unit narrow = word_keeps g2 x low m1.within ∙ ap
          (λ v. v.word) (m1.value x r) ∙ low_bits narrow hi (term_word x old address) is in
          let e2 : term_word x b none ≡ 0 = ap (λ v. v.word) (m2.value x) in
          ap (λ v. v.word) (m3.value x r) ∙ ap (λ z. bit (not (z == term_word x b none))) e1
          ∙ ap (λ z. bit (not (term_word x old address % unit narrow == z))) e2);
    }

chosen : (j : Bool) (c a b : ℕ) → c ≡ bit j → select c a b ≡ (if j then a else b)
chosen true c a b e = ap (λ z. select z a b) e
chosen false c a b e = ap (λ z. select z a b) e

pub next_made : (old a new : List TermNode) (jumped target at bytes v behind t : ℕ) → HasWidth old 1 jumped → HasWidth old 32 target → v ≡ add 32 at bytes →
    IsInterned old a (ConstantNode 32 v) behind →
    IsMade a new (SelectNode 32 jumped target behind) t →
    Makes old new 32 3 32 t (λ x. (j : Bool) → Tells old x jumped j → term_word x new t ≡ (if j then term_word x old target else add 32 at bytes))
next_made old a new jumped target at bytes v behind t wj wt e m1 m2 =
    let g1 = interned_grew old a (ConstantNode 32 v) behind m1 in
    let g2 = made_grew a new (SelectNode 32 jumped target behind) t m2 in
    record {
      grew = grew_on old a new 0 0 0 0 1 32 0 0 0 2 g1 g2;
      inputs = inputs_on old a new (λ q. ⊥) (interned_inputs old a (ConstantNode 32 v) behind (λ q. ⊥) m1
          (λ i. i)) (made_inputs a new (SelectNode 32 jumped target behind) t (λ q. ⊥) m2 (λ i. i));
      typed = m2.typed;
      width = made_width a new (SelectNode 32 jumped target behind) t 32 m2 refl;
      holds = λ x r j h. ap (λ z. z.word) (m2.value x r) ∙ chosen j (term_word x a jumped) (term_word x a target) (term_word x a behind)
          (word_keeps g1 x jumped wj.0 ∙ h)
          ∙ ap (λ z. if j then z else term_word x a behind) (word_keeps g1 x target wt.0) ∙ ap
          (λ z. if j then term_word x old target else z) (ap (λ z. z.word) (m1.value x) ∙ e);
    }
