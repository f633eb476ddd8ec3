use Rattle.answer_laws.proofs.TwoCalls.{report_is_replayed}
use Rattle.answer_laws.proofs.twice.report_is_replayed.Goals as goal

pub returns : goal.returns
returns c = report_is_replayed
