use Rattle.frame_laws.proofs.FrameAnswers.{frame_entry_is_same}
use Rattle.frame_laws.proofs.walks.frame_entry_is_same.Goals as goal

pub returns : goal.returns
returns c = frame_entry_is_same
