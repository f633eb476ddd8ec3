use Rattle.std.proofs.Common.{◌≡◌, drop}
use Rattle.std.specs.Prelude.{nat_eq}
use Rattle.std.specs.List.{list_any}
use Rattle.table_run.specs.Spans.{bytes_of}
use Rattle.table_run.proofs.spans.covers.Given as goal

abbrev pub invariant-loop-span : goal.invariant-loop-span
invariant-loop-span l = list_any (nat_eq l.at) (bytes_of (drop l.span-index l.spans)) ≡ list_any (nat_eq l.at) (bytes_of l.spans)
