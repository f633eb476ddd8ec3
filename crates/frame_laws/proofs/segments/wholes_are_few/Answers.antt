use Rattle.frame_laws.proofs.FewSteps.{wholes_are_few}
use Rattle.frame_laws.proofs.segments.wholes_are_few.Goals as goal

pub returns : goal.returns
returns c = wholes_are_few
