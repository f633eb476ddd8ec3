use Rattle.answer_spec.proofs.Wholes.{scripted_as_before}
use Rattle.answer_spec.proofs.frames.scripted_as_before.Goals as goal

pub returns : goal.returns
returns c = scripted_as_before
