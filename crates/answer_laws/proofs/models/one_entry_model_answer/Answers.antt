use Rattle.answer_laws.proofs.OneEntryAnswer.{one_entry_model_answer}
use Rattle.answer_laws.proofs.models.one_entry_model_answer.Goals as goal

pub returns : goal.returns
returns c = one_entry_model_answer
