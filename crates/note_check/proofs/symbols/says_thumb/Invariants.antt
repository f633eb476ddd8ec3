use Rattle.std.proofs.Common.{ℕ, ◌<◌}
use Rattle.notes_value.specs.NoteViews.{function_of}
use Rattle.note_check.specs.Options.{IsThumbSymbol}
use Rattle.note_check.proofs.symbols.says_thumb.Given as goal

abbrev pub invariant-loop-i : goal.invariant-loop-i
invariant-loop-i l = (j : ℕ) → j < l.i → (k : ℕ) → ¬ IsThumbSymbol l.file (function_of l.function) j k
