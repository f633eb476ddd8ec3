use Rattle.std.proofs.Common.{Bool, drop}
use Rattle.std.specs.Prelude.{map}
use Rattle.notes_value.specs.NoteViews.{note_line_of}
use Rattle.passify.specs.Situations.{LinesTried, Situation, goes_out_by}
use Rattle.passify.proofs.exits.judged.Given as goal

abbrev pub invariant-loop-i : goal.invariant-loop-i
invariant-loop-i l =
    (changed : Situation → Bool) → LinesTried l.fn.dag l.dag l.fn.sweep l.sweep l.fn.out.0 l.left.0 l.big l.next
    (λ S. S.next) (map (λ k. k.says) (map note_line_of l.lines)) (map (λ k. k.says) (map note_line_of (drop l.i l.lines)))
    (goes_out_by changed (map note_line_of l.lines)) (goes_out_by changed (map note_line_of (drop l.i l.lines)))
