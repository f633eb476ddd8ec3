use Rattle.std.proofs.Common.{◌-◌, ◌≡◌, ◌++◌}
use Rattle.word_spec.specs.Memory.{span}
use Rattle.notes_value.proofs.places.add_span.Given as goal

abbrev pub invariant-loop : goal.invariant-loop
invariant-loop l = l.places.items ++ span l.at (l.count - l.counter) ≡ l.fn.places.items ++ span l.first l.count
