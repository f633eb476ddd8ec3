use Rattle.walk_laws.proofs.WalkQuestions.{walk_answers_over}
use Rattle.walk_laws.proofs.walks.walk_answers_over.Goals as goal

pub returns : goal.returns
returns c = walk_answers_over
