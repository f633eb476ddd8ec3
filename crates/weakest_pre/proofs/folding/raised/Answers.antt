use Rattle.std.proofs.Common.{arith}
use Rattle.weakest_pre.proofs.KnownRegisters.{raised_some}
use Rattle.weakest_pre.proofs.folding.raised.Goals as goal

pub returns : goal.returns
returns c =
    raised_some _ _ _ c.args.lower.0 c.args.place c.args.above _ _ (omega arith) c.requires.lower c.in_ok-upper.ensures c.in_ok-term.ensures
