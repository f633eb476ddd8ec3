use Rattle.std.proofs.Common.{◌==◌, rules}
use Rattle.std.proofs.lemmas.Fn.{dedup_same}
use Rattle.graph_nodes.specs.declared.nodes.Successor.{Successor}
use Rattle.graph_nodes.specs.Graphs.{successor_of}
use Rattle.flow_graph.specs.Programs.{place}
use Rattle.flow_graph.proofs.listing.distinct.Goals as goal

pub returns : goal.returns
returns c =
    dedup_same _ (λ (x y : Successor). place (successor_of x) == place (successor_of y)) _
    (λ x y b f' x' y' k. search rules) _ _ c.dedup_by_key.ensures.filtered
