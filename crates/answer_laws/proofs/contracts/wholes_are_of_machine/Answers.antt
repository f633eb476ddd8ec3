use Rattle.answer_laws.proofs.OfMachine.{wholes_are_of_machine}
use Rattle.answer_laws.proofs.contracts.wholes_are_of_machine.Goals as goal

pub returns : goal.returns
returns c = wholes_are_of_machine
