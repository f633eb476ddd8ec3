use Rattle.std.proofs.Common.{ℕ, ◌<◌}
use Rattle.notes_value.specs.NoteViews.{function_of}
use Rattle.note_check.specs.Options.{IsThumbSymbol}
use Rattle.note_check.proofs.symbols.has_thumb_symbol.Given as goal

abbrev pub invariant-loop-k : goal.invariant-loop-k
invariant-loop-k l = (j : ℕ) → j < l.k → ¬ IsThumbSymbol l.file (function_of l.function) l.fn.i j
