use Rattle.flow_graph.proofs.Orders.{ordered_is}
use Rattle.flow_graph.proofs.listing.ordered.Goals as goal

pub returns : goal.returns
returns c =
    ordered_is c.args.narrow c.args.found.items c.aligned.result.items c.in_ok-found.found.items c.distinct.result.items c.aligned.ensures c.in_ok-found.ensures.moved
    c.in_ok-found.ensures.rising c.distinct.ensures
