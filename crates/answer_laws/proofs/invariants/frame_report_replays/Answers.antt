use Rattle.answer_laws.proofs.FrameReplays.{frame_report_replays}
use Rattle.answer_laws.proofs.invariants.frame_report_replays.Goals as goal

pub returns : goal.returns
returns c = frame_report_replays
