use Rattle.notes_spec.proofs.NotesFirst.{never_both}
use Rattle.notes_spec.proofs.notes.never_both.Goals as goal

pub returns : goal.returns
returns c = never_both
