use Rattle.answer_laws.proofs.EndingNames.{right_report_replays}
use Rattle.answer_laws.proofs.reports.right_report_replays.Goals as goal

pub returns : goal.returns
returns c = right_report_replays
