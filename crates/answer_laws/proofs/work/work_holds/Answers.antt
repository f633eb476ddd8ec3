use Rattle.answer_laws.proofs.WorkHolds.{work_holds}
use Rattle.answer_laws.proofs.work.work_holds.Goals as goal

pub returns : goal.returns
returns c = work_holds
