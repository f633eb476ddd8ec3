use Rattle.std.proofs.Common.{ℕ, ◌<◌, ◌^◌, get_or, length}
use Rattle.notes_value.specs.declared.notes.Assert.{Assert}
use Rattle.frame_verdict.proofs.ranks.places_are_words.Given as goal

abbrev pub invariant-loop-line : goal.invariant-loop-line
invariant-loop-line l = (i : ℕ) (d : Assert) → i < l.line-index → i < length l.notes.asserts.items → (get_or l.notes.asserts.items i d).at < 2 ^ 32
