use Rattle.std.proofs.Common.{◌≡◌, map, take}
use Rattle.passify.specs.Spans.{span_of}
use Rattle.passify.proofs.spans.stored_spans.Given as goal

abbrev pub invariant-loop-i : goal.invariant-loop-i
invariant-loop-i l = l.spans.items ≡ map span_of (take l.i l.stored)
