use Rattle.weakest_pre.proofs.KnownRegisters.{pieces_step}
use Rattle.weakest_pre.proofs.folding.pieced.Goals as goal

pub returns : goal.returns
returns c =
    pieces_step _ _ _ _ _ c.args.word.0 _ _ _ _ c.args.runs _ _ c.complement-below.ensures.bits c.complement-above.ensures.bits c.in_ok-turned.ensures
    c.in_ok-lower.ensures c.in_ok-whole.ensures c.in_ok-term.ensures
