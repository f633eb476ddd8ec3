use Rattle.std.proofs.Common.{◌≡◌, ◌<◌, length}
use Rattle.term_spec.specs.Terms.{term_value}
use Rattle.term_dag.specs.Lists.{terms}
use Rattle.term_dag.specs.Readings.{reading_of_parts}
use Rattle.term_dag.proofs.values.byte.Given as goal

abbrev pub invariant-loop-of : goal.invariant-loop-of
invariant-loop-of l = record {
  within : l.at.0 < length (terms l.nodes);
  same : (term_value (reading_of_parts l.parts) (terms l.nodes) l.at.0).bytes l.address
      ≡ (term_value (reading_of_parts l.parts) (terms l.nodes) l.fn.term.0).bytes l.address;
}

abbrev pub decreases-loop-of : goal.decreases-loop-of
decreases-loop-of l = l.at.0
