use Rattle.std.proofs.Common.{◌≡◌, ℕ, ◌+◌, ◌*◌, ◌^◌, Bool, length, take}
use Rattle.gates.specs.Circuits.{next, Holds, Within}
use Rattle.word_gates.specs.Numbers.{number, IsWord}
use Rattle.word_gates.proofs.arithmetic.shifted_sums.Given as goal

abbrev pub invariant-loop-i : goal.invariant-loop-i
invariant-loop-i l = record {
  low : IsWord l.fn.circuit l.circuit (3 * (l.i * length l.a)) l.i l.low.items;
  rest_within : Within (next l.circuit) l.rest.items;
  rest_len : length l.rest.items + l.i ≡ length l.a;
  value : (v : ℕ → Bool) → Holds v l.circuit → (q : ℕ) × (number v l.low.items + 2 ^ l.i * number v l.rest.items + 2 ^ length l.a * q
      ≡ number v l.a * number v (take l.i l.b));
}
