use Rattle.std.proofs.Common.{◌≡◌, [], replicate}
use Rattle.bit_blast.specs.Places.{lists_of}
use Rattle.bit_blast.proofs.laying.no_reads.Given as goal

abbrev pub invariant-loop-address : goal.invariant-loop-address
invariant-loop-address l = lists_of l.reads.items ≡ replicate l._address []
