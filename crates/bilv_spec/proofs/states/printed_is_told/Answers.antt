use Rattle.bilv_spec.proofs.StateTold.{printed_is_told}
use Rattle.bilv_spec.proofs.states.printed_is_told.Goals as goal

pub returns : goal.returns
returns c = printed_is_told
