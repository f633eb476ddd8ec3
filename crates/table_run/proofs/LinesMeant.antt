-- Lines as the code has them.
use Rattle.std.proofs.Common.{◌≡◌, ℕ, List, Option, map, ap, ◌∙◌}
use Rattle.word_spec.specs.Memory.{Endian}
use Rattle.word_spec.specs.State.{State}
use Rattle.bilv_spec.specs.Run.{false_line}
use Rattle.notes_value.specs.NoteViews.{note_line_of}
use Rattle.notes_value.specs.declared.notes.NoteLine.{NoteLine as CodeLine}

-- the first line that is false, by what the code evaluates
pub line_meant : (e o : Endian) (ls ms : List CodeLine) (s t : State) (r : Option ℕ) → e ≡ o → ls ≡ ms → r ≡ false_line e (map note_line_of ls) s t →
    r ≡ false_line o (map note_line_of ms) s t
line_meant e o ls ms s t r order same is =
    is ∙ ap (λ z. false_line z (map note_line_of ls) s t) order ∙ ap (λ l. false_line o (map note_line_of l) s t) same
