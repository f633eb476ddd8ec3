use Rattle.std.proofs.Common.{◌≡◌, ℕ, List, Option, Some, refl, ap, sym, ◌∙◌}
use Rattle.term_spec.specs.Terms.{TermNode, ConstantNode, term_word}
use Rattle.term_dag.specs.Made.{IsInterned}
use Rattle.term_dag.proofs.Growth.{interned_grew, interned_inputs, interned_width}
use Rattle.passify.specs.Bits.{Makes}
use Rattle.passify.specs.Edges.{edge_word}
use Rattle.passify.proofs.edges.address_of.Goals as goal

kept : (old new : List TermNode) (to : Option ℕ) (a v t link : ℕ) → to ≡ Some a → v ≡ a → IsInterned old new (ConstantNode 32 v) t →
    Makes old new 0 1 32 t (λ x. term_word x new t ≡ edge_word to (term_word x old link))
kept old new to a v t link is e k = record {
  grew = interned_grew old new (ConstantNode 32 v) t k;
  inputs = interned_inputs old new (ConstantNode 32 v) t (λ m. ⊥) k (λ i. i);
  typed = k.typed;
  width = interned_width old new (ConstantNode 32 v) t 32 k refl;
  holds = λ x r. ap (λ z. z.word) (k.value x) ∙ e ∙ ap (λ z. edge_word z (term_word x old link)) (sym is);
}

pub returns-in_ok-address-in-Some : goal.returns-in_ok-address-in-Some
returns-in_ok-address-in-Some c =
    kept c.args.dag.now c.keep.new.self c.args.to c.in-Some.address c.from.result c.in_ok-address-in-Some.address.0 c.args.link.0 c.in-Some.is c.from.ensures
    c.in_ok-address-in-Some.ensures
