use Rattle.std.proofs.Common.{ℕ}
use Rattle.flow_graph.proofs.Walking.{Finding}
use Rattle.flow_graph.proofs.descent.find_roots.Given as goal

abbrev pub invariant-loop-root : goal.invariant-loop-root
invariant-loop-root l = Finding (λ (a : ℕ). a) l.fn.found.items l.roots l.root-index l.found.items l.seen
