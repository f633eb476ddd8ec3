use Rattle.model_spec.proofs.GivenValues.{values_are_given}
use Rattle.model_spec.proofs.answers.values_are_given.Goals as goal

pub returns : goal.returns
returns c = values_are_given
