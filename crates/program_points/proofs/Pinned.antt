-- The ends of a point at its node are its edges to addresses.
use Rattle.std.proofs.Common.{◌≡◌, refl, sym, ap, subst}
use Rattle.word_spec.specs.Words.{add}
use Rattle.bilv_spec.specs.Run.{Program}
use Rattle.bilv_spec.specs.Points.{file_row}
use Rattle.bilv_spec.specs.Graph.{successors_at, may_return}
use Rattle.graph_nodes.specs.declared.nodes.Node.{Node}
use Rattle.graph_nodes.specs.Graphs.{successors_of, row_length, IsNode}
use Rattle.program_points.specs.Tables.{stack_at}
use Rattle.program_points.specs.Walks.{EndsAreEdges}
use Rattle.program_points.proofs.Edges.{IsEdge, same_edge, edge_from, edge_to}
use Rattle.program_points.proofs.Ended.{end_edge, edge_end}

-- the address behind the row of a node
pub behind_is : (p : Program) (n : Node) → IsNode p n → add 32 n.at n.length ≡ add 32 n.at (row_length (file_row p n.at))
behind_is p n is = ap (add 32 n.at) is.length

pub are : EndsAreEdges
are p n frames turns stack called is way low fits pushes s a =
    let narrow = p.machine.narrow in
    let own = stack_at frames stack in
    let back = add 32 n.at (row_length (file_row p n.at)) in (
      λ h. edge_end frames low narrow n.returns n.successors.items n.at (add 32 n.at n.length) stack called fits pushes s a
          (same_edge narrow narrow (may_return p n.at) n.returns back (add 32 n.at n.length) own (successors_at p n.at) (successors_of n) s a refl (sym is.returns)
          (sym (behind_is p n is)) (sym is.successors) (edge_from p way turns n.at own s a h)),
      λ (e, c, t, u). edge_to p way turns n.at own s a
          (same_edge narrow narrow n.returns (may_return p n.at) (add 32 n.at n.length) back own (successors_of n) (successors_at p n.at) s a refl is.returns
          (behind_is p n is) is.successors
          (subst (λ z. IsEdge narrow n.returns (add 32 n.at n.length) own (successors_of n) z a) t
          (subst (λ z. IsEdge narrow n.returns (add 32 n.at n.length) own (successors_of n) (stack_at frames e.stack) z) u
          (end_edge frames low narrow n.returns n.successors.items n.at (add 32 n.at n.length) stack called fits pushes e c)))),
    )
