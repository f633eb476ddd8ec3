use Rattle.pair_terms.proofs.WordTerms.{byte_step}
use Rattle.pair_terms.proofs.words.byte.Goals as goal

pub returns : goal.returns
returns c =
    byte_step _ _ _ c.args.memory.0 c.args.address c.in_ok-address.address.0 c.in_ok-term.term.0 c.ranges.address.fits c.requires.memory
    c.in_ok-address.ensures c.in_ok-term.ensures
