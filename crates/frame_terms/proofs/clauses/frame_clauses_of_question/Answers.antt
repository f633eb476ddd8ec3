use Rattle.frame_terms.proofs.FrameClauses.{frame_clauses_of_question}
use Rattle.frame_terms.proofs.clauses.frame_clauses_of_question.Goals as goal

pub returns : goal.returns
returns c = frame_clauses_of_question
