use Rattle.answer_laws.proofs.EndingNames.{names_can_be_written}
use Rattle.answer_laws.proofs.reports.names_can_be_written.Goals as goal

pub returns : goal.returns
returns c = names_can_be_written
