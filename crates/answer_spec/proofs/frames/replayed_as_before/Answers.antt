use Rattle.answer_spec.proofs.Wholes.{replayed_as_before}
use Rattle.answer_spec.proofs.frames.replayed_as_before.Goals as goal

pub returns : goal.returns
returns c = replayed_as_before
