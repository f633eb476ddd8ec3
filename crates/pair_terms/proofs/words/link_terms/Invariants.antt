use Rattle.std.proofs.Common.{take}
use Rattle.pair_terms.proofs.WordTerms.{AreLinkTerms}
use Rattle.pair_terms.proofs.words.link_terms.Given as goal

abbrev pub invariant-loop-i : goal.invariant-loop-i
invariant-loop-i l = AreLinkTerms l.fn.dag l.dag l.names l.at_exit l.second (take l.i l.links) l.terms.items
