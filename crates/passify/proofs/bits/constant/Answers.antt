use mir.Val.{bool_byte}
use Rattle.std.proofs.Common.{Bool, true, false, refl, ◌≡◌, ℕ, List, ap, ◌∙◌}
use Rattle.term_spec.specs.Terms.{TermNode, ConstantNode}
use Rattle.word_spec.specs.Words.{bit}
use Rattle.passify.specs.Bits.{Makes}
use Rattle.term_spec.specs.Passive.{Tells}
use Rattle.term_dag.specs.Made.{IsInterned}
use Rattle.term_dag.proofs.Growth.{interned_grew, interned_inputs, interned_width}
use Rattle.passify.proofs.bits.constant.Goals as goal

kept : (old new : List TermNode) (b : Bool) (v t : ℕ) → v ≡ bit b → IsInterned old new (ConstantNode 1 v) t → Makes old new 0 1 1 t (λ x. Tells new x t b)
kept old new b v t e k = record {
  grew = interned_grew old new (ConstantNode 1 v) t k;
  inputs = interned_inputs old new (ConstantNode 1 v) t (λ m. ⊥) k (λ i. i);
  typed = k.typed;
  width = interned_width old new (ConstantNode 1 v) t 1 k refl;
  holds = λ x r. (let w = ap (λ z. z.word) (k.value x) in let y = e in cc);
}

byte_is : (b : Bool) → bool_byte b ≡ bit b
byte_is true = refl
byte_is false = refl

pub returns : goal.returns
returns c = kept c.args.dag.now c.keep.new.self c.args.value c.from.result c.in_ok-bit.bit.0 (c.from.ensures ∙ byte_is c.args.value) c.in_ok-bit.ensures
