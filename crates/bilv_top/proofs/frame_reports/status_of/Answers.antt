use Rattle.std.proofs.Common.{refl}
use Rattle.bilv_top.proofs.frame_reports.status_of.Goals as goal

pub returns-in-Failed : goal.returns-in-Failed
returns-in-Failed c rank = rw c.in-Failed.is refl

pub returns-in-Turned : goal.returns-in-Turned
returns-in-Turned c rank = rw c.in-Turned.is refl
