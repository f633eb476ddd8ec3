use Rattle.notes_spec.proofs.NotesSaid.{one_reading}
use Rattle.notes_spec.proofs.notes.one_reading.Goals as goal

pub returns : goal.returns
returns c = one_reading
