use Rattle.std.proofs.Common.{◌≡◌, ◌<◌, ◌^◌}
use Rattle.word_spec.specs.Words.{add}
use Rattle.word_spec.specs.Memory.{big}
use Rattle.term_spec.specs.Terms.{term_value}
use Rattle.term_dag.specs.Lists.{terms}
use Rattle.term_dag.specs.Readings.{reading_of_parts}
use Rattle.term_dag.proofs.values.highest_first.Given as goal

abbrev pub invariant-loop-i : goal.invariant-loop-i
invariant-loop-i l = record {
  number : l.number ≡ big l.i (λ i. (term_value (reading_of_parts l.parts) (terms l.nodes) l.term.0).bytes (add 32 l.first i));
  below : l.number < 256 ^ l.i;
}
