use Rattle.frame_spec.proofs.OneVerdict.{one_frame_verdict}
use Rattle.frame_spec.proofs.laws.one_frame_verdict.Goals as goal

pub returns : goal.returns
returns c = one_frame_verdict
