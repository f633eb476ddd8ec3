use Rattle.answer_laws.proofs.OfMachine.{wholes_are_contracted}
use Rattle.answer_laws.proofs.contracts.wholes_are_contracted.Goals as goal

pub returns : goal.returns
returns c = wholes_are_contracted
