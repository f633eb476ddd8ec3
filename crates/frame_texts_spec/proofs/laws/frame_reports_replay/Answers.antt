use Rattle.frame_texts_spec.proofs.Replaying.{frame_reports_replay}
use Rattle.frame_texts_spec.proofs.laws.frame_reports_replay.Goals as goal

pub returns : goal.returns
returns c = frame_reports_replay
