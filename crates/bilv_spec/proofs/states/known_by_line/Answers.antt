use Rattle.bilv_spec.proofs.StateKnown.{known_by_line}
use Rattle.bilv_spec.proofs.states.known_by_line.Goals as goal

pub returns : goal.returns
returns c = known_by_line
