use Rattle.std.proofs.Common.{◌≡◌, ◌++◌}
use Rattle.std.specs.Prelude.{not}
use Rattle.notes_value.specs.NoteViews.{targets_of}
use Rattle.note_check.specs.Reached.{stands_in}
use Rattle.note_check.specs.declared.warning.Warning.TheVariants.{UnreachedTargets}
use Rattle.note_check.proofs.Listing.{listed}
use Rattle.note_check.proofs.reached.add_targets.Given as goal

abbrev pub invariant-loop-line : goal.invariant-loop-line
invariant-loop-line l =
    l.found.items ≡ l.initial.found.items ++ listed (λ x. UnreachedTargets x.at) (λ x. not (stands_in l.graph x.at)) targets_of l.targets l.line-index
