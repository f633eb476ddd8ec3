use Rattle.frame_spec.proofs.ReportMeans.{holds_means}
use Rattle.frame_spec.proofs.laws.holds_means.Goals as goal

pub returns : goal.returns
returns c = holds_means
