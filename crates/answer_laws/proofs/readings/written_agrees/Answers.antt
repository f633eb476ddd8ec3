use Rattle.answer_laws.proofs.Agreements.{written_agrees}
use Rattle.answer_laws.proofs.readings.written_agrees.Goals as goal

pub returns : goal.returns
returns c = written_agrees
