use Rattle.answer_spec.proofs.Wholes.{upgraded_as_before}
use Rattle.answer_spec.proofs.frames.upgraded_as_before.Goals as goal

pub returns : goal.returns
returns c = upgraded_as_before
