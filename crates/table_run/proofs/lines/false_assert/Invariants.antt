use Rattle.std.proofs.Common.{◌≡◌, ℕ, ◌≤◌, ◌<◌, length, get_or, true, false}
use Rattle.word_spec.specs.Memory.{endian}
use Rattle.notes_value.specs.declared.notes.Assert.{Assert}
use Rattle.table_run.specs.Asserts.{is_hit}
use Rattle.table_run.proofs.lines.false_assert.Given as goal

abbrev pub invariant-loop-i : goal.invariant-loop-i
invariant-loop-i g l = record {
  within : l.least ≤ length l.asserts;
  hit : (d : Assert) → l.least < length l.asserts → is_hit (endian l.big) (g.V.View.view l.now) (g.V.View.view l.entry) (get_or l.asserts l.least d) ≡ true;
  none : (j : ℕ) (d : ℕ × ℕ) (e : Assert) → l.low ≤ j → j < l.i → (get_or l.index j d).1 < l.least
      → is_hit (endian l.big) (g.V.View.view l.now) (g.V.View.view l.entry) (get_or l.asserts (get_or l.index j d).1 e) ≡ false;
}
