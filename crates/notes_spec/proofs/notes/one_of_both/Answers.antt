use Rattle.notes_spec.proofs.NotesOutcome.{one_of_both}
use Rattle.notes_spec.proofs.notes.one_of_both.Goals as goal

pub returns : goal.returns
returns c = one_of_both
