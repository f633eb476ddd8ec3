use Rattle.notes_spec.proofs.ProgramTexts.{program_rows_are_lawful}
use Rattle.notes_spec.proofs.programs.program_rows_are_lawful.Goals as goal

pub returns : goal.returns
returns c = program_rows_are_lawful
