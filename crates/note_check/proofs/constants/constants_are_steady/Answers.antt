use Rattle.note_check.proofs.Steady.{steady}
use Rattle.note_check.proofs.constants.constants_are_steady.Goals as goal

pub returns : goal.returns
returns c = steady
