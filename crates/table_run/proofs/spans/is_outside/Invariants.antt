use Rattle.std.proofs.Common.{◌≡◌, ◌-◌}
use Rattle.word_spec.specs.Memory.{span}
use Rattle.table_run.specs.Spans.{has_other}
use Rattle.table_run.proofs.spans.is_outside.Given as goal

abbrev pub invariant-loop : goal.invariant-loop
invariant-loop l = has_other l.own (span l.at (l.fn.span.count - l.counter)) ≡ has_other l.own (span l.fn.span.first l.fn.span.count)
