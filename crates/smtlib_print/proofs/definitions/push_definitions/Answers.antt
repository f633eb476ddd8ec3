use Rattle.std.proofs.Common.{string_bytes, arith}
use Rattle.start_value.specs.Starts.{layout_of}
use Rattle.term_dag.specs.Nodes.{node_of}
use Rattle.smtlib_print.proofs.Appended.{definition_more}
use Rattle.smtlib_print.proofs.definitions.push_definitions.Goals as goal

pub loop-place-preserved : goal.loop-place-preserved
loop-place-preserved c =
    definition_more (layout_of c.args.form) c.args.numbers.now c.args.dag.now c.loop-place.place (node_of c.node-shown.result) (string_bytes c.loop-place.out)
    (string_bytes c.push_definition.new.out) _ (omega (arith, c.loop-place-test.true, c.requires.count)) c.node-shown.ensures c.in_ok-push_definition.ensures
    c.loop-place.invariant
