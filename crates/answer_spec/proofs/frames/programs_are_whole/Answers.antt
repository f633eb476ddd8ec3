use Rattle.answer_spec.proofs.Wholes.{programs_are_whole}
use Rattle.answer_spec.proofs.frames.programs_are_whole.Goals as goal

pub returns : goal.returns
returns c = programs_are_whole
