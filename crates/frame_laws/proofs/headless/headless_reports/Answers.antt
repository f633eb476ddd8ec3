use Rattle.frame_laws.proofs.HeadlessReports.{headless_reports}
use Rattle.frame_laws.proofs.headless.headless_reports.Goals as goal

pub returns : goal.returns
returns c = headless_reports
