use Rattle.std.proofs.Common.{◌≡◌, drop}
use Rattle.bit_blast.specs.Places.{number_in}
use Rattle.bit_blast.proofs.input_places.number_in.Given as goal

abbrev pub invariant-loop-place : goal.invariant-loop-place
invariant-loop-place l = number_in l.part l.reads ≡ number_in l.part (drop l.place l.reads)
