use Rattle.answer_spec.proofs.Wholes.{certified_as_before}
use Rattle.answer_spec.proofs.frames.certified_as_before.Goals as goal

pub returns : goal.returns
returns c = certified_as_before
