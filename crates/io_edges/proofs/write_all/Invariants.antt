use Rattle.std.proofs.Common.{◌≡◌, length, ◌-◌, ◌≤◌, take}
use Rattle.call_spec.specs.Outside.{Appends}
use Rattle.io_edges.proofs.write_all.Given as goal

abbrev pub invariant-loop-written : goal.invariant-loop-written
invariant-loop-written g l = record {
  within : l.written ≤ length l.bytes;
  never_falls : g.K.Sink.faults l.fn.sink ≤ g.K.Sink.faults l.sink;
  no_error : g.K.Sink.errors l.sink ≡ g.K.Sink.errors l.fn.sink;
  appends : Appends (g.K.Sink.written l.fn.sink) (take l.written l.bytes) (g.K.Sink.written l.sink);
}

abbrev pub decreases-loop-written : goal.decreases-loop-written
decreases-loop-written g l = length l.bytes - l.written
