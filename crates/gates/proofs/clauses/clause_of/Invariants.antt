use Rattle.std.proofs.Common.{◌≡◌, take, map}
use Rattle.gates.specs.Circuits.{literal_of}
use Rattle.gates.proofs.clauses.clause_of.Given as goal

abbrev pub invariant-loop-bit : goal.invariant-loop-bit
invariant-loop-bit l = l.clause ≡ map literal_of (take l.bit-index l.bits)
