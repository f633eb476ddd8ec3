use Rattle.std.proofs.Common.{◌^◌, ◌<◌, subst, arith}
use Rattle.std.proofs.lemmas.Nat.{pow_pos}
use Rattle.term_dag.proofs.Ranges.{word_fits}
use Rattle.term_dag.proofs.Shapes.{not_side}
use Rattle.term_dag.proofs.WordFolds.{constant_term, fixed}
use Rattle.term_dag.proofs.WordLaws.{turned_twice}
use Rattle.term_dag.proofs.operators.negation.Goals as goal

pub overflow_sub-result : goal.overflow_sub-result
overflow_sub-result c =
    let k = constant_term _ _ _ _ c.args.nodes.now.typed c.requires.place.0 c.in-Constant.ensures in
    let b = subst (λ n. c.in-Constant.value < 2 ^ n) c.requires.place.1 k.below in
    omega (arith, b, c.ones.ensures)

pub returns-in-Not : goal.returns-in-Not
returns-in-Not c =
    let n = not_side _ _ _ _ _ c.args.nodes.now.typed c.requires.place c.in-Not.ensures in
    record {
      place = n.0;
      value = λ x i. turned_twice c.args.width _ _ (word_fits x _ _ _ i c.args.nodes.now.typed n.0) (n.1 x);
    }

pub returns-in-Constant : goal.returns-in-Constant
returns-in-Constant c =
    let k = constant_term _ _ _ _ c.args.nodes.now.typed c.requires.place.0 c.in-Constant.ensures in
    let p = pow_pos c.args.width in
    fixed _ c.args.width _ 0 _ c.requires.some.0 c.requires.some.1 (omega (arith, p, c.ones.ensures))
    (λ x i. omega (arith, k.value x, c.ones.ensures))
