use Rattle.bilv_spec.proofs.RefutedQuestions.{refuted_is_false}
use Rattle.bilv_spec.proofs.certificates.refuted_is_false.Goals as goal

pub returns : goal.returns
returns c = refuted_is_false
