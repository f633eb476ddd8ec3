use Rattle.answer_spec.proofs.Wholes.{wholes_are_fitted}
use Rattle.answer_spec.proofs.frames.wholes_are_fitted.Goals as goal

pub returns : goal.returns
returns c = wholes_are_fitted
