use Rattle.std.proofs.Common.{◌≡◌, ◌++◌}
use Rattle.notes_value.specs.NoteViews.{note_line_of}
use Rattle.note_check.specs.Constants.{is_constant}
use Rattle.note_check.specs.declared.warning.Warning.TheVariants.{ConstantRequire}
use Rattle.note_check.proofs.Listing.{listed}
use Rattle.note_check.proofs.constants.add_requires.Given as goal

abbrev pub invariant-loop-line : goal.invariant-loop-line
invariant-loop-line l = l.found.items ≡ l.initial.found.items ++ listed (λ x. ConstantRequire x.line) (λ x. is_constant x.says) note_line_of l.lines l.line-index
