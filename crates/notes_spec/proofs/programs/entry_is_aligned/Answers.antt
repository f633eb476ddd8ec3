use Rattle.notes_spec.proofs.ProgramTexts.{entry_is_aligned}
use Rattle.notes_spec.proofs.programs.entry_is_aligned.Goals as goal

pub returns : goal.returns
returns c = entry_is_aligned
