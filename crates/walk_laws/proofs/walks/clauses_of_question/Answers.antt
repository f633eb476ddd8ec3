use Rattle.walk_laws.proofs.QuestionClauses.{clauses_of_question}
use Rattle.walk_laws.proofs.walks.clauses_of_question.Goals as goal

pub returns : goal.returns
returns c = clauses_of_question
