-- Which ends of a point at its node are taken by going on, and which by a jump.
use Rattle.std.proofs.Common.{◌≡◌, ℕ, List, refl, sym, ap, ◌∙◌, subst}
use Rattle.std.specs.Prelude.{Contains, not, filter, map}
use Rattle.word_spec.specs.Words.{add}
use Rattle.bilv_spec.specs.Points.{file_row}
use Rattle.bilv_spec.specs.Graph as graph
use Rattle.bilv_spec.specs.Graph.{NextLetter, successors_at, may_return}
use Rattle.bilv_spec.proofs.PointSteps.{in_filter, in_map}
use Rattle.bilv_spec.proofs.PointsInGraph.{of_filter, of_map}
use Rattle.graph_nodes.specs.declared.nodes.Letter.{Letter}
use Rattle.graph_nodes.specs.declared.nodes.Letter.TheVariants.{Next, Jump, Call, Return}
use Rattle.graph_nodes.specs.declared.nodes.Successor.{Successor}
use Rattle.graph_nodes.specs.Graphs.{letter_of, successor_of, successors_of, row_length}
use Rattle.program_points.specs.Tables.{is_next, stack_at}
use Rattle.program_points.specs.Walks.{EndsAreWays}
use Rattle.program_points.proofs.Edges.{IsEdge, goes_on, jumping_from, moved, same_edge, jump_from, jump_into, fall_from, fall_into}
use Rattle.program_points.proofs.Ended.{end_edge, edge_end, of_letter}
use Rattle.program_points.proofs.Pinned.{behind_is}

same_way : (l : Letter) → goes_on (letter_of l) ≡ is_next l
same_way Next = refl
same_way Jump = refl
same_way Call = refl
same_way Return = refl

abbrev kept : List Successor → List Successor
kept xs = filter (λ s. not (is_next s.letter)) xs

as_graph : (xs : List Successor) (y : graph.Successor) → Contains (map successor_of (kept xs)) y → Contains (jumping_from (map successor_of xs)) y
as_graph xs y h =
    let q = of_map successor_of (kept xs) y h in
    let r = of_filter (λ (s : Successor). not (is_next s.letter)) xs q.0 q.1 in
    in_filter (λ (x : graph.Successor). not (goes_on x.letter)) (map successor_of xs) y
    (subst (λ (z : graph.Successor). Contains (map successor_of xs) z) q.2 (in_map successor_of xs q.0 r.0))
    (ap (λ (z : graph.Successor). not (goes_on z.letter)) (sym q.2) ∙ ap not (same_way q.0.letter) ∙ r.1)

as_node : (xs : List Successor) (y : graph.Successor) → Contains (jumping_from (map successor_of xs)) y → Contains (map successor_of (kept xs)) y
as_node xs y h =
    let r = of_filter (λ (x : graph.Successor). not (goes_on x.letter)) (map successor_of xs) y h in
    let q = of_map successor_of xs y r.0 in
    subst (λ (z : graph.Successor). Contains (map successor_of (kept xs)) z) q.2
    (in_map successor_of (kept xs) q.0 (in_filter (λ (s : Successor). not (is_next s.letter)) xs q.0 q.1
    (ap not (sym (same_way q.0.letter)) ∙ ap (λ (z : graph.Successor). not (goes_on z.letter)) q.2 ∙ r.1)))

pub ways : EndsAreWays
ways p n frames turns stack called row is way low fits pushes at s a m =
    let narrow = p.machine.narrow in
    let items = n.successors.items in
    let own = stack_at frames stack in
    let next = add 32 n.at n.length in
    let back = add 32 n.at (row_length (file_row p n.at)) in
    let listed = ap jumping_from is.successors in
    let pushed = (λ (x : Successor) (h : Contains (kept items) x). pushes x (of_filter (λ (y : Successor). not (is_next y.letter)) items x h).0) in (
      (
        (λ h. let q = fall_from p way turns n.at own row at s a m h in
            let r = of_letter frames low narrow n.returns items n.at next stack called fits pushes Next a
            (subst (λ (l : List graph.Successor). Contains l (graph.successor NextLetter a)) (sym is.successors) q.1) in (
              q.0,
              subst (λ (x : Successor). Contains items x) (ap (λ (l : Letter). record { letter = l; to = r.0.to }) r.2 ∙ ap
                  (λ (t : ℕ). record { letter = Next; to = t }) r.3) r.1,
            )),
        (λ q. fall_into p way turns n.at own row at s a q.0
            (subst (λ (l : List graph.Successor). Contains l (graph.successor NextLetter a)) is.successors
            (in_map successor_of items (record { letter = Next; to = a }) q.1))),
      ),
      (
        (λ h. edge_end frames low narrow n.returns (kept items) n.at next stack called fits pushed s a
            (moved narrow n.returns next own (jumping_from (successors_of n)) (map successor_of (kept items)) s a (λ x to i. as_node items x i)
            (same_edge narrow narrow (may_return p n.at) n.returns back next own (jumping_from (successors_at p n.at)) (jumping_from (successors_of n)) s a refl
            (sym is.returns) (sym (behind_is p n is)) (sym listed) (jump_from p way turns n.at own row at s a m h)))),
        (λ (e, c, t, u). jump_into p way turns n.at own row at s a
            (same_edge narrow narrow n.returns (may_return p n.at) next back own (jumping_from (successors_of n)) (jumping_from (successors_at p n.at)) s a refl
            is.returns (behind_is p n is) listed
            (moved narrow n.returns next own (map successor_of (kept items)) (jumping_from (successors_of n)) s a (λ x to i. as_graph items x i)
            (subst (λ z. IsEdge narrow n.returns next own (map successor_of (kept items)) z a) t
            (subst (λ z. IsEdge narrow n.returns next own (map successor_of (kept items)) (stack_at frames e.stack) z) u
            (end_edge frames low narrow n.returns (kept items) n.at next stack called fits pushed e c)))))),
      ),
    )
