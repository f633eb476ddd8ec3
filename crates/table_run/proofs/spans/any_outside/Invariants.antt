use Rattle.std.proofs.Common.{◌≡◌, drop}
use Rattle.table_run.specs.Spans.{bytes_of, has_other}
use Rattle.table_run.proofs.spans.any_outside.Given as goal

abbrev pub invariant-loop-span : goal.invariant-loop-span
invariant-loop-span l = has_other l.own (bytes_of (drop l.span-index l.spans)) ≡ has_other l.own (bytes_of l.spans)
