use Rattle.std.proofs.Common.{◌≡◌, ◌-◌, ◌++◌}
use Rattle.word_spec.specs.Memory.{span}
use Rattle.table_run.proofs.observers.add_span.Given as goal

abbrev pub invariant-loop : goal.invariant-loop
invariant-loop l = l.places.items ++ span l.at (l.fn.span.count - l.counter) ≡ l.fn.places.items ++ span l.fn.span.first l.fn.span.count
