use Rattle.std.proofs.Common.{List, sym, subst}
use Rattle.graph_nodes.specs.declared.nodes.Node.{Node}
use Rattle.graph_nodes.specs.Places.{AreRising, IsPlace}
use Rattle.graph_nodes.proofs.Places.{among_place, place_node}
use Rattle.graph_nodes.proofs.search.node_at.Goals as goal

pub returns-in-None : goal.returns-in-None
returns-in-None c rising among =
    let is = c.deref.ensures.value in
    let q = among_place c.args.graph.now.nodes.items c.args.at among in
    let none = c.in-None.ensures.only (subst AreRising (sym is) rising) q.0 (subst (λ (xs : List Node). IsPlace xs c.args.at q.0) (sym is) q.1) in
    absurd (cc)

pub returns-in-Some : goal.returns-in-Some
returns-in-Some c =
    let place = subst (λ (xs : List Node). IsPlace xs c.args.at c.in-Some.i) c.deref.ensures.value c.in-Some.ensures.found in
    place_node c.args.graph.now.nodes.items c.args.at c.in-Some.i c.index.result.now c.index.ensures place
