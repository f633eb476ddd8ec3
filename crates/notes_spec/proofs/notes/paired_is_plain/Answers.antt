use Rattle.notes_spec.proofs.Dialects.{paired_is_plain}
use Rattle.notes_spec.proofs.notes.paired_is_plain.Goals as goal

pub returns : goal.returns
returns c = paired_is_plain
