use Rattle.std.proofs.Common.{ap, sym}
use Rattle.std.specs.Prelude.{◌==◌}
use Rattle.table_run.proofs.GiftLists.{bit_above}
use Rattle.call_replay.proofs.blocks.is_in.Goals as goal

pub returns-then-n-ge32 : goal.returns-then-n-ge32
returns-then-n-ge32 c = sym (ap (λ b. b == 1) (bit_above c.args.n c.args.set 32 c.ranges.set.fits c.if-n-ge32.true))
