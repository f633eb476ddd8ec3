use Rattle.std.proofs.Common.{refl, ap, sym, ◌∙◌, subst, ℕ}
use Rattle.term_spec.specs.Terms.{operate, term_word, HasWidth}
use Rattle.bil_ast.specs.Views.{binary_of}
use Rattle.term_dag.specs.Lists.{terms}
use Rattle.term_dag.proofs.Ranges.{word_fits}
use Rattle.term_dag.proofs.WordFolds.{found_or, kept_binary}
use Rattle.term_dag.proofs.operators.in_order.Goals as goal

pub returns-then-is_neutral : goal.returns-then-is_neutral
returns-then-is_neutral c =
    let ns = terms c.args.nodes.now in
    let w = c.args.width in
    let n = c.if-is_neutral.ensures in
    record {
      place = subst (λ (k : ℕ). HasWidth ns k c.args.left.0) (sym (n.width refl)) c.requires.left;
      value = λ x i.
          sym (n.value refl (term_word x ns c.args.left.0) (word_fits x ns w c.args.left.0 i c.args.nodes.now.typed c.requires.left))
          ∙ ap (operate (binary_of c.args.op) w (term_word x ns c.args.left.0)) (sym (c.in-Some.ensures.value x));
    }

pub returns-then-is_absorbing : goal.returns-then-is_absorbing
returns-then-is_absorbing c =
    let ns = terms c.args.nodes.now in
    let w = c.args.width in
    let n = c.if-is_absorbing.ensures in
    record {
      place = subst (λ (k : ℕ). HasWidth ns k c.args.right.0) (sym (n.width refl)) c.requires.right;
      value = λ x i.
          c.in-Some.ensures.value x
          ∙ sym (n.value refl (term_word x ns c.args.left.0) (word_fits x ns w c.args.left.0 i c.args.nodes.now.typed c.requires.left))
          ∙ ap (operate (binary_of c.args.op) w (term_word x ns c.args.left.0)) (sym (c.in-Some.ensures.value x));
    }

pub returns : goal.returns
returns c =
    let ns = terms c.args.nodes.now in
    let w = c.args.width in
    rw c.unwrap_or-2.ensures
    (found_or ns _ _ _ _ c.with_constant.result _
    (λ x i. ap (operate (binary_of c.args.op) w (term_word x ns c.args.left.0)) (sym (c.in-Some.ensures.value x)))
    c.with_constant.ensures (kept_binary ns (binary_of c.args.op) w c.args.left.0 c.args.right.0 c.requires.some c.requires.left c.requires.right))
