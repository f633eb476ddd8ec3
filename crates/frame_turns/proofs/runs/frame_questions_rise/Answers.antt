use Rattle.frame_turns.proofs.AlikeQuestions.{frame_questions_rise}
use Rattle.frame_turns.proofs.runs.frame_questions_rise.Goals as goal

pub returns : goal.returns
returns c = frame_questions_rise
