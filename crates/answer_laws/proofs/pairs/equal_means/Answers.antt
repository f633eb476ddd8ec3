use Rattle.answer_laws.proofs.Compared.{equal_means}
use Rattle.answer_laws.proofs.pairs.equal_means.Goals as goal

pub returns : goal.returns
returns c = equal_means
