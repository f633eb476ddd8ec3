use Rattle.std.proofs.Common.{sym}
use Rattle.frame_start.proofs.ChangedSets.{flag_in, flag_off}
use Rattle.frame_start.proofs.changed.changes_flag.Goals as goal

pub returns-then-number-lt4 : goal.returns-then-number-lt4
returns-then-number-lt4 c = sym (flag_in c.args.changed c.args.number c.if-number-lt4.true)

pub returns : goal.returns
returns c = sym (flag_off c.args.changed c.args.number c.if-number-lt4.false)
