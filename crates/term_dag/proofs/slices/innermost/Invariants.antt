use Rattle.term_dag.specs.Lists.{terms}
use Rattle.term_dag.specs.Folds.{IsSlice}
use Rattle.term_dag.proofs.slices.innermost.Given as goal

abbrev pub invariant-loop-step : goal.invariant-loop-step
invariant-loop-step l = IsSlice (terms l.nodes) l.hi l.lo l.fn.term.0 l.slice.hi l.slice.lo l.slice.term.0
