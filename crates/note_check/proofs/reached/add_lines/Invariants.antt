use Rattle.std.proofs.Common.{◌≡◌, ◌++◌}
use Rattle.std.specs.Prelude.{not}
use Rattle.notes_value.specs.NoteViews.{assert_of}
use Rattle.note_check.specs.Reached.{line_warning, stands_in}
use Rattle.note_check.proofs.Listing.{listed}
use Rattle.note_check.proofs.reached.add_lines.Given as goal

abbrev pub invariant-loop-line : goal.invariant-loop-line
invariant-loop-line l =
    l.found.items ≡ l.initial.found.items ++ listed (λ x. line_warning l.invariants x.line x.at) (λ x. not (stands_in l.graph x.at)) assert_of l.asserts l.line-index
