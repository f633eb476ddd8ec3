use Rattle.frame_laws.proofs.FrameAnswers.{frame_answers_over}
use Rattle.frame_laws.proofs.walks.frame_answers_over.Goals as goal

pub returns : goal.returns
returns c = frame_answers_over
