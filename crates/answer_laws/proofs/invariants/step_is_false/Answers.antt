use Rattle.answer_laws.proofs.NoHeads.{step_is_false}
use Rattle.answer_laws.proofs.invariants.step_is_false.Goals as goal

pub returns : goal.returns
returns c = step_is_false
