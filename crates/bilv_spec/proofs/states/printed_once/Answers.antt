use Rattle.bilv_spec.proofs.StateTold.{printed_once}
use Rattle.bilv_spec.proofs.states.printed_once.Goals as goal

pub returns : goal.returns
returns c = printed_once
