use Rattle.frame_laws.proofs.HeadlessReads.{headless_questions}
use Rattle.frame_laws.proofs.headless.headless_questions.Goals as goal

pub returns : goal.returns
returns c = headless_questions
