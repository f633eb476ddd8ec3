use Rattle.answer_laws.proofs.Agreements.{choices_follow}
use Rattle.answer_laws.proofs.readings.choices_follow.Goals as goal

pub returns : goal.returns
returns c = choices_follow
