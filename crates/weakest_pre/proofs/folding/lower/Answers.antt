use Rattle.weakest_pre.proofs.KnownRegisters.{lower_some}
use Rattle.weakest_pre.proofs.folding.lower.Goals as goal

pub returns : goal.returns
returns c =
    lower_some _ _ _ _ c.args.word.0 c.args.place c.args.count c.args.below _ _ _ c.requires.some c.requires.word.0 c.in_ok-upper.ensures c.in_ok-lower.ensures
    c.in_ok-term.ensures
