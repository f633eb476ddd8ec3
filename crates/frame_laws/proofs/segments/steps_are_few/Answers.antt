use Rattle.frame_laws.proofs.FewSteps.{steps_are_few}
use Rattle.frame_laws.proofs.segments.steps_are_few.Goals as goal

pub returns : goal.returns
returns c = steps_are_few
