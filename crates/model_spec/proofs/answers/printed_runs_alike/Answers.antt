use Rattle.model_spec.proofs.Printed.{printed_runs_alike}
use Rattle.model_spec.proofs.answers.printed_runs_alike.Goals as goal

pub returns : goal.returns
returns c = printed_runs_alike
