use Rattle.frame_spec.proofs.ReportMeans.{partial_means}
use Rattle.frame_spec.proofs.laws.partial_means.Goals as goal

pub returns : goal.returns
returns c = partial_means
