use Rattle.suite_run.proofs.Faults.{told_unless}
use Rattle.suite_run.proofs.loading.is_of_text.Goals as goal

pub returns-in_default : goal.returns-in_default
returns-in_default c = told_unless c.args.fault.now c.in_default.not-Memory
