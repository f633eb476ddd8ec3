use Rattle.call_text.proofs.Pieces.{no_flag}
use Rattle.call_text.proofs.changes.flag_bit.Goals as goal

pub returns-then-flag-ge8 : goal.returns-then-flag-ge8
returns-then-flag-ge8 c = no_flag c.args.flag c.args.set c.if-flag-ge8.true c.ranges.set.fits
