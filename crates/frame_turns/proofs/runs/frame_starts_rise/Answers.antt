use Rattle.frame_turns.proofs.AlikeQuestions.{frame_starts_rise}
use Rattle.frame_turns.proofs.runs.frame_starts_rise.Goals as goal

pub returns : goal.returns
returns c = frame_starts_rise
