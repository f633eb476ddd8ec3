use Rattle.std.proofs.Common.{drop}
use Rattle.passify.specs.Edges.{EdgesTried}
use Rattle.passify.proofs.edges.edges.Given as goal

abbrev pub invariant-loop-i : goal.invariant-loop-i
invariant-loop-i l =
    EdgesTried l.unrolled l.fn.dag l.dag l.fn.sweep l.sweep l.fn.rest.0 l.left.0 l.gone.next l.gone.jumped.0 l.link.0 l.list (drop l.i l.list)
