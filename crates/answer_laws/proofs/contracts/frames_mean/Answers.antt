use Rattle.answer_laws.proofs.Contracted.{frames_mean}
use Rattle.answer_laws.proofs.contracts.frames_mean.Goals as goal

pub returns : goal.returns
returns c = frames_mean
