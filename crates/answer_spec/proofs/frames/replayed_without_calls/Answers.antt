use Rattle.answer_spec.proofs.Wholes.{replayed_without_calls}
use Rattle.answer_spec.proofs.frames.replayed_without_calls.Goals as goal

pub returns : goal.returns
returns c = replayed_without_calls
