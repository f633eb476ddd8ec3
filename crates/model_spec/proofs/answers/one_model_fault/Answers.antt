use Rattle.model_spec.proofs.OneFault.{one_model_fault}
use Rattle.model_spec.proofs.answers.one_model_fault.Goals as goal

pub returns : goal.returns
returns c = one_model_fault
