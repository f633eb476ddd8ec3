use Rattle.std.proofs.Common.{◌++◌, ap, ◌∙◌}
use Rattle.std.specs.List.{flat_map}
use Rattle.graph_text.specs.NodeText.{node_line}
use Rattle.graph_text.proofs.Texts.{next, done}
use Rattle.graph_text.proofs.Graphs.{nodes_lines, lines_same, text_is}
use Rattle.graph_text.proofs.lines.print_graph.Goals as goal

pub loop-node-init : goal.loop-node-init
loop-node-init c = ap (λ t. t ++ flat_map node_line c.deref-node-items.result.now) c.new-out.ensures.items

pub loop-node-preserved : goal.loop-node-preserved
loop-node-preserved c =
    next node_line c.deref-node-items.result.now c.loop-node.node-index c.node-item.result c.loop-node.out.items c.push_line.new.out.items
    (flat_map node_line c.deref-node-items.result.now) c.loop-node-test.true
    (c.in_ok-push_line.ensures ∙ ap (λ n. c.loop-node.out.items ++ node_line n) c.node-item.is) c.loop-node.invariant

pub returns-clause-nodes : goal.returns-clause-nodes
returns-clause-nodes c =
    done node_line c.deref-node-items.result.now c.loop-node.node-index c.loop-node.out.items (flat_map node_line c.deref-node-items.result.now)
    c.loop-node-test.false c.loop-node.invariant
    ∙ ap (flat_map node_line) c.deref-node-items.ensures.value

pub returns-clause-lines : goal.returns-clause-lines
returns-clause-lines c p is = returns-clause-nodes c ∙ lines_same p c.args.graph.now.nodes.items (nodes_lines p c.args.graph.now.nodes.items is.nodes)

pub returns-clause-text : goal.returns-clause-text
returns-clause-text c p is live = text_is p c.args.graph.now c.loop-node.out.items is live (returns-clause-lines c p is)
