use Rattle.answer_laws.proofs.Agreements.{agreement_is_enough}
use Rattle.answer_laws.proofs.readings.agreement_is_enough.Goals as goal

pub returns : goal.returns
returns c = agreement_is_enough
