use Rattle.answer_spec.proofs.Wholes.{one_whole}
use Rattle.answer_spec.proofs.frames.one_whole.Goals as goal

pub returns : goal.returns
returns c = one_whole
