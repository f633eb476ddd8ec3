use Rattle.std.proofs.Common.{◌≡◌}
use Rattle.std.proofs.lemmas.List.Sorted.{All-permutation}
use Rattle.program_value.specs.Programs.{program_of}
use Rattle.graph_nodes.specs.declared.nodes.Node.{Node}
use Rattle.graph_nodes.specs.declared.nodes.Graph.{Graph}
use Rattle.flow_graph.proofs.FlagSets.{lines_are}
use Rattle.flow_graph.proofs.Walking.{whole_graph}
use Rattle.flow_graph.proofs.descent.descend_from.Goals as goal

pub returns-clause-graph : goal.returns-clause-graph
returns-clause-graph g c =
    let graph : Graph = record { narrow = c.is_narrow.result; nodes = c.in_ok-nodes.nodes; ensured = c.ensured.result } in
    whole_graph (program_of c.args.program.now) c.args.others.now
    c.in_ok-all_nodes.field-0.items graph c.in_ok-all_nodes.ensures c.in_ok-nodes.ensures.moved
    c.in_ok-nodes.ensures.rising c.is_narrow.ensures
    (lines_are c.args.program.now.notes.now.ensured.items _ c.ensured.result c.deref.ensures.value c.ensured.ensures)

pub returns-clause-stay : goal.returns-clause-stay
returns-clause-stay g c = All-permutation (λ (n : Node). n.keeps ≡ n.flags.assigns) _ _ c.in_ok-nodes.ensures.moved c.in_ok-all_nodes.ensures.stay
