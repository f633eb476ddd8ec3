use Rattle.std.proofs.Common.{◌≡◌, ◌==◌, ℕ, ◌&&◌, Bool, drop}
use Rattle.gates.specs.Circuits.{Within}
use Rattle.gates.specs.Pushes.{satisfied, AreOver}
use Rattle.word_gates.specs.Numbers.{number}
use Rattle.pair_blast.proofs.ties.tie_equal.Given as goal

abbrev pub invariant-loop-i : goal.invariant-loop-i
invariant-loop-i l = record {
  value : (v : ℕ → Bool) → (satisfied v l.ties.items && (number v (drop l.i l.a) == number v (drop l.i l.b))) ≡ (satisfied v l.fn.ties.items &&
      (number v l.a == number v l.b));
  over : (n : ℕ) → Within n l.a → Within n l.b → AreOver n l.fn.ties.items → AreOver n l.ties.items;
}
