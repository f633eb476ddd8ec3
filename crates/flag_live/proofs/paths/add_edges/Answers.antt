use Rattle.std.proofs.Common.{◌≡◌, ◌+◌, List, length, sym, ap, ◌∙◌, subst, arith}
use Rattle.std.proofs.lemmas.Bool.{both_ways}
use Rattle.graph_nodes.specs.declared.nodes.Successor.{Successor}
use Rattle.graph_nodes.specs.declared.nodes.Letter.TheVariants.{Next}
use Rattle.flag_live.specs.Vertices.{IsEdgeAmong, Adds}
use Rattle.graph_nodes.specs.Places.{AreRising}
use Rattle.flag_live.proofs.Added.{adds_successor, node_assigned, node_returns}
use Rattle.flag_live.proofs.paths.add_edges.Goals as goal

pub loop-successor-preserved : goal.loop-successor-preserved
loop-successor-preserved c =
    let nodes = c.args.nodes.now in
    let k = c.loop-successor.successor-index in
    let is = c.deref-successor-items.ensures.value in
    let d : Successor = record { letter = Next; to = 0 } in
    let before =
    subst (λ (xs : List Successor). Adds c.args.edges.now.items c.loop-successor.edges.items (AreRising nodes)
    (IsEdgeAmong nodes c.args.from c.has_flag-assigned.result xs k)) (sym is)
    c.loop-successor.invariant in
    subst (λ (xs : List Successor). Adds c.args.edges.now.items c.add.new.list.items (AreRising nodes)
    (IsEdgeAmong nodes c.args.from c.has_flag-assigned.result xs (k + 1))) is
    (adds_successor nodes c.args.from c.has_flag-assigned.result c.deref-successor-items.result.now k d c.args.edges.now.items c.loop-successor.edges.items
    c.add.new.list.items c.edge_by.result
    c.loop-successor-test.true before c.in_ok-add.ensures c.edge_by.ensures.found c.edge_by.ensures.only)

pub returns-then-assigned : goal.returns-then-assigned
returns-then-assigned c =
    let all : c.loop-successor.successor-index ≡ length c.deref-successor-items.result.now = omega arith in
    node_assigned c.args.nodes.now c.args.flag c.args.from c.args.node.now c.has_flag-assigned.result c.loop-successor.successor-index c.args.edges.now.items
    c.loop-successor.edges.items
    c.has_flag-assigned.ensures (all ∙ ap (λ (xs : List Successor). length xs) c.deref-successor-items.ensures.value)
    (λ free back. both_ways _ free c.if-assigned.true) c.loop-successor.invariant

pub returns-then-not-node : goal.returns-then-not-node
returns-then-not-node c =
    let all : c.loop-successor.successor-index ≡ length c.deref-successor-items.result.now = omega arith in
    node_assigned c.args.nodes.now c.args.flag c.args.from c.args.node.now c.has_flag-assigned.result c.loop-successor.successor-index c.args.edges.now.items
    c.loop-successor.edges.items
    c.has_flag-assigned.ensures (all ∙ ap (λ (xs : List Successor). length xs) c.deref-successor-items.ensures.value)
    (λ free back. both_ways _ c.if-not-node.true back) c.loop-successor.invariant

pub returns : goal.returns
returns c =
    let all : c.loop-successor.successor-index ≡ length c.deref-successor-items.result.now = omega arith in
    node_returns c.args.nodes.now c.args.flag c.args.from c.args.node.now c.has_flag-assigned.result c.loop-successor.successor-index c.args.edges.now.items
    c.loop-successor.edges.items c.push.new.self.items
    c.has_flag-assigned.ensures (all ∙ ap (λ (xs : List Successor). length xs) c.deref-successor-items.ensures.value) c.if-assigned.false c.if-not-node.false
    c.in_ok-push.ensures.items c.loop-successor.invariant
