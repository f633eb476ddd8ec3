use Rattle.std.proofs.Common.{rules}
use Rattle.std.proofs.lemmas.List.Sorted.{IsNonDecreasingBy-from_sort_by_key}
use Rattle.graph_nodes.specs.declared.nodes.Node.{Node}
use Rattle.flow_graph.proofs.descent.sorted.Goals as goal

pub returns-clause-rising : goal.returns-clause-rising
returns-clause-rising c = IsNonDecreasingBy-from_sort_by_key (λ (n : Node). n.at) _ c.in_ok-sort_by_key.ensures.sorted (λ a r q k. search rules)
