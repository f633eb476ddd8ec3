use Rattle.std.proofs.Common.{ℕ, sym, ◌∙◌, subst}
use Rattle.std.specs.Prelude.{Contains}
use Rattle.graph_nodes.specs.Graphs.{addresses_of}
use Rattle.unroller.proofs.Adding.{left_on}
use Rattle.unroller.proofs.placing.add_left.Goals as goal

pub unreachable-requires : goal.unreachable-requires
unreachable-requires c =
    c.in-None.ensures c.requires.nodes
    (subst (λ (a : ℕ). Contains (addresses_of c.args.graph.now) a) (sym c.address_of.ensures) c.requires.among)

pub returns-in_ok-add_edges-in-Row : goal.returns-in_ok-add_edges-in-Row
returns-in_ok-add_edges-in-Row c =
    let aims = c.args.aims.now in
    left_on c.args.deed c.args.graph.now aims.heads.now aims.stepped.now aims.asserts.now c.args.frames.now aims.keys.now c.args.key c.args.called
    c.in-Some.node.now c.args.edges.now.items c.add_edges.new.edges.items c.in-Row.is c.in-Some.ensures.1 (c.in-Some.ensures.0 ∙ c.address_of.ensures)
    c.in_ok-add_edges-in-Row.ensures
