use Rattle.std.proofs.Common.{◌≡◌, ◌+◌, ◌-◌, ◌++◌}
use Rattle.word_spec.specs.RowFiles.{from_to}
use Rattle.seen_step.proofs.values.numbers.Given as goal

abbrev pub invariant-loop-i : goal.invariant-loop-i
invariant-loop-i l = l.out.items ++ from_to (l.first + l.i) (l.count - l.i) ≡ from_to l.first l.count
