use Rattle.std.proofs.Common.{◌≡◌, length, drop, ◌-◌, ◌≤◌}
use Rattle.notes_spec.specs.NotesGrammar.{is_second, lines_of}
use Rattle.notes_lang.proofs.versions.is_second_text.Given as goal

-- no line so far says something
abbrev pub invariant-loop-at : goal.invariant-loop-at
invariant-loop-at l = record { within : l.at ≤ length l.text; left : is_second (lines_of (drop l.at l.text)) ≡ is_second (lines_of l.text) }

abbrev pub decreases-loop-at : goal.decreases-loop-at
decreases-loop-at l = length l.text - l.at
