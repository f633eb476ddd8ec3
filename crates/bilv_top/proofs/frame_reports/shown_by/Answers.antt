use Rattle.std.proofs.Common.{refl}
use Rattle.bilv_top.proofs.frame_reports.shown_by.Goals as goal

pub returns-in-None : goal.returns-in-None
returns-in-None c rank = rw c.in-None.is refl

pub returns-in-Some : goal.returns-in-Some
returns-in-Some c rank = rw c.in-Some.is refl
