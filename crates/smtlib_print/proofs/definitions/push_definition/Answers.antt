use Rattle.std.proofs.Common.{string_bytes, ap, ◌∙◌, ◌++◌}
use Rattle.term_spec.specs.Terms.{width_of}
use Rattle.start_value.specs.Starts.{layout_of}
use Rattle.term_dag.specs.Nodes.{node_of}
use Rattle.smtlib_print.specs.Commands.{sort_of, node_term}
use Rattle.smtlib_print.specs.Written.{written}
use Rattle.smtlib_print.proofs.Printed.{on_ok, pushed, definition_added}
use Rattle.smtlib_print.proofs.definitions.push_definition.Goals as goal

pub returns : goal.returns
returns c =
    on_ok c.push_str-2.result _ _ (definition_added (string_bytes c.args.out.now) (string_bytes c.write.new.self) (string_bytes c.push_sort.new.out)
    (string_bytes c.push_str.new.self)
    (string_bytes c.push_node.new.out) (string_bytes c.push_str-2.new.self) c.args.place (sort_of (width_of (node_of c.args.node)))
    (node_term (layout_of c.args.form) c.args.numbers.now (node_of c.args.node)) c.in_ok-write.ensures.bytes
    (c.in_ok-push_sort.ensures ∙ ap (λ k. string_bytes c.write.new.self ++ written (sort_of k)) c.requires.width) c.in_ok-push_str.ensures.bytes
    c.in_ok-push_node.ensures)
    (pushed c.push_str-2.result (string_bytes c.push_str-2.new.self) _ _ c.push_str-2.ensures.bytes)
