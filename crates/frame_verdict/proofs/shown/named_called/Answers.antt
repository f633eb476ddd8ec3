use Rattle.std.proofs.Common.{ap}
use Rattle.table_run.specs.CalledRuns.{cause_of}
use Rattle.frame_verdict.proofs.shown.named_called.Goals as goal

pub returns-in-NoCall-clause-none : goal.returns-in-NoCall-clause-none
returns-in-NoCall-clause-none c x h right none = absurd (right c.in-NoCall.step (ap cause_of c.in-NoCall.is))
