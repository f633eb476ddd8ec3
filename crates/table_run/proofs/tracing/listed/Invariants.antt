use Rattle.std.proofs.Common.{◌≡◌, ◌++◌}
use Rattle.table_run.specs.Traces.{bytes_over}
use Rattle.table_run.proofs.tracing.listed.Given as goal

abbrev pub invariant-loop-a : goal.invariant-loop-a
invariant-loop-a l =
    l.bytes.items ++ bytes_over l.model.fill l.model.bytes.now l.a-iterator ≡ bytes_over l.model.fill l.model.bytes.now l.read.keys
