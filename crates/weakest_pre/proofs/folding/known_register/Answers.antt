use Rattle.weakest_pre.proofs.KnownRegisters.{register_pieces}
use Rattle.weakest_pre.proofs.folding.known_register.Goals as goal

pub returns : goal.returns
returns c =
    register_pieces _ _ _ c.args.register _ _ c.args.runs c.in_default.ensures.none c.requires.place c.in_ok-word.ensures c.in_ok-term-2.ensures
