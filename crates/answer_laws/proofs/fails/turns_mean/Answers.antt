use Rattle.answer_laws.proofs.Failing.{turns_mean}
use Rattle.answer_laws.proofs.fails.turns_mean.Goals as goal

pub returns : goal.returns
returns c = turns_mean
