use Rattle.std.proofs.Common.{◌≡◌, ℕ, [], length, sym, arith, subst, inl, inr}
use Rattle.flag_live.specs.Vertices.{IsEdge}
use Rattle.flag_live.proofs.Added.{adds_node, in_none}
use Rattle.flag_live.proofs.Located.{node_from_read}
use Rattle.flag_live.proofs.paths.edges_of.Goals as goal

pub loop-i-preserved : goal.loop-i-preserved
loop-i-preserved c =
    let here = node_from_read c.args.nodes.now c.loop-i.i c.index-nodes-i.result (omega arith) c.index-nodes-i.is in
    adds_node c.args.nodes.now c.args.flag c.loop-i.i c.index-nodes-i.result [] c.loop-i.edges.items c.add_edges.new.edges.items here c.loop-i.invariant
    c.in_ok-add_edges.ensures

pub returns-clause-found : goal.returns-clause-found
returns-clause-found c e has =
    let all : c.loop-i.i ≡ length c.args.nodes.now = omega arith in
    subst (λ (i : ℕ). IsEdge c.args.nodes.now c.args.flag i e) all
    (elim (c.loop-i.invariant.only e has) as (λ _. IsEdge c.args.nodes.now c.args.flag c.loop-i.i e) [ inl h ↦ absurd (in_none e h) | inr h ↦ h ])

pub returns-clause-all : goal.returns-clause-all
returns-clause-all c rising e edge =
    let all : c.loop-i.i ≡ length c.args.nodes.now = omega arith in
    c.loop-i.invariant.all rising e (subst (λ (i : ℕ). IsEdge c.args.nodes.now c.args.flag i e) (sym all) edge)
