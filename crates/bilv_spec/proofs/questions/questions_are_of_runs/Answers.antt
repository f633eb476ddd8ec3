use Rattle.bilv_spec.proofs.Deciding.{questions_are_of_runs}
use Rattle.bilv_spec.proofs.questions.questions_are_of_runs.Goals as goal

pub returns : goal.returns
returns c = questions_are_of_runs
