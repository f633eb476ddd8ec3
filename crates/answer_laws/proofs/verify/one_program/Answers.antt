use Rattle.answer_laws.proofs.OneProgram.{one_program}
use Rattle.answer_laws.proofs.verify.one_program.Goals as goal

pub returns : goal.returns
returns c = one_program
