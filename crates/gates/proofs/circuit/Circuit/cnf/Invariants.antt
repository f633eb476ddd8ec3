use Rattle.std.proofs.Common.{◌≡◌, ◌+◌, ◌&&◌, ℕ, Bool, length, take}
use Rattle.gates.specs.Circuits.{holds}
use Rattle.gates.specs.Pushes.{satisfied, AreOver}
use Rattle.gates.proofs.circuit.Circuit.cnf.Given as goal

abbrev pub invariant-loop-i : goal.invariant-loop-i
invariant-loop-i l = record {
  value : (v : ℕ → Bool) → satisfied v l.clauses.items ≡ (satisfied v l.fn.ties.items &&
      holds v (record { inputs = l.self-inside.inputs; gates = take l.i l.gates }));
  over : AreOver (l.self-inside.inputs + 1 + length l.gates) l.clauses.items;
}
