use Rattle.frame_verdict.proofs.PlainReports.{plain_verdicts}
use Rattle.frame_verdict.proofs.plain.plain_verdicts.Goals as goal

pub returns : goal.returns
returns c = plain_verdicts
