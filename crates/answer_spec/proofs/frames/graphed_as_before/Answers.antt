use Rattle.answer_spec.proofs.Wholes.{graphed_as_before}
use Rattle.answer_spec.proofs.frames.graphed_as_before.Goals as goal

pub returns : goal.returns
returns c = graphed_as_before
