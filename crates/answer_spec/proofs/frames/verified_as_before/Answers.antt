use Rattle.answer_spec.proofs.Wholes.{verified_as_before}
use Rattle.answer_spec.proofs.frames.verified_as_before.Goals as goal

pub returns : goal.returns
returns c = verified_as_before
