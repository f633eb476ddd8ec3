use Rattle.std.proofs.Common.{sym}
use Rattle.frame_start.proofs.ChangedSets.{register_in, register_off}
use Rattle.frame_start.proofs.changed.changes_register.Goals as goal

pub returns-then-number-lt32 : goal.returns-then-number-lt32
returns-then-number-lt32 c = sym (register_in c.args.changed c.args.number c.if-number-lt32.true)

pub returns : goal.returns
returns c = sym (register_off c.args.changed c.args.number c.if-number-lt32.false)
