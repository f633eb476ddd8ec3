use Rattle.std.proofs.Common.{◌≡◌, ◌++◌, drop}
use Rattle.table_run.specs.Spans.{bytes_of}
use Rattle.table_run.proofs.observers.addresses.Given as goal

abbrev pub invariant-loop-span : goal.invariant-loop-span
invariant-loop-span l = l.places.items ++ bytes_of (drop l.span-index l.spans) ≡ bytes_of l.spans
