use Rattle.std.proofs.Common.{◌+◌, ◌-◌, refl, subst, arith}
use Rattle.machine_spec.specs.BilTyping.{result_width}
use Rattle.machine_spec.specs.BilCounts.{op_weight}
use Rattle.term_spec.specs.Terms.{IsTypedOver}
use Rattle.term_dag.specs.declared.nodes.Node.TheVariants as node
use Rattle.bil_ast.specs.Views.{binary_of}
use Rattle.term_dag.specs.Nodes.{node_of}
use Rattle.term_dag.specs.Lists.{terms}
use Rattle.term_dag.proofs.Ranges.{result_is_width}
use Rattle.term_dag.proofs.WordFolds.{word_fold}
use Rattle.term_dag.proofs.folds.fold.Goals as goal

pub returns-in-Binary : goal.returns-in-Binary
returns-in-Binary c =
    let ns = terms c.args.nodes.now in
    let a = c.in-Binary in
    let o = subst (λ n. IsTypedOver ns (node_of n)) a.is c.requires.over in
    rw a.is (word_fold ns (node_of (node.Binary a.op a.width a.left a.right)) (result_width (binary_of a.op) a.width) _
    (op_weight (binary_of a.op) a.width) _ c.args.nodes.now.typed (result_is_width (binary_of a.op) a.width o.0.0 o.0.1).0 refl (λ x. refl) (omega arith) c.binary.ensures)

pub returns-in-Not : goal.returns-in-Not
returns-in-Not c =
    let ns = terms c.args.nodes.now in
    let a = c.in-Not in
    let o = subst (λ n. IsTypedOver ns (node_of n)) a.is c.requires.over in
    rw a.is (word_fold ns (node_of (node.Not a.width a.term)) a.width _ 0 _ c.args.nodes.now.typed o.0.0 refl (λ x. refl) (omega arith) c.negation.ensures)

pub returns-in-Select : goal.returns-in-Select
returns-in-Select c =
    let ns = terms c.args.nodes.now in
    let a = c.in-Select in
    let o = subst (λ n. IsTypedOver ns (node_of n)) a.is c.requires.over in
    rw a.is (word_fold ns (node_of (node.Select a.width a.condition a.when_true a.when_false)) a.width _ a.width _ c.args.nodes.now.typed o.0.0 refl
    (λ x. refl) (omega arith) c.select.ensures)

pub returns-in-Extract : goal.returns-in-Extract
returns-in-Extract c =
    let ns = terms c.args.nodes.now in
    let a = c.in-Extract in
    let o = subst (λ n. IsTypedOver ns (node_of n)) a.is c.requires.over in
    rw a.is (word_fold ns (node_of (node.Extract a.hi a.lo a.term)) (a.hi + 1 - a.lo) _ 0 _ c.args.nodes.now.typed (omega (arith, o.0)) refl
    (λ x. refl) (omega arith) c.extract.ensures)

pub returns-in-Concat : goal.returns-in-Concat
returns-in-Concat c =
    let ns = terms c.args.nodes.now in
    let a = c.in-Concat in
    let o = subst (λ n. IsTypedOver ns (node_of n)) a.is c.requires.over in
    rw a.is (word_fold ns (node_of (node.Concat a.high a.low a.upper a.lower)) (a.high + a.low) _ 0 _ c.args.nodes.now.typed (omega (arith, o.0.0)) refl
    (λ x. refl) (omega arith) c.concat.ensures)

pub returns-in-Extend : goal.returns-in-Extend
returns-in-Extend c =
    let ns = terms c.args.nodes.now in
    let a = c.in-Extend in
    let o = subst (λ n. IsTypedOver ns (node_of n)) a.is c.requires.over in
    rw a.is (word_fold ns (node_of (node.Extend a.signed a.from a.to a.term)) a.to _ 0 _ c.args.nodes.now.typed (omega (arith, o.0.0, o.1)) refl
    (λ x. refl) (omega arith) c.extend.ensures)
