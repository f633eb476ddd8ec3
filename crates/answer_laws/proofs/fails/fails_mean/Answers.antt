use Rattle.answer_laws.proofs.Failing.{fails_mean}
use Rattle.answer_laws.proofs.fails.fails_mean.Goals as goal

pub returns : goal.returns
returns c = fails_mean
