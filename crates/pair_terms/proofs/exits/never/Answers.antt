use Rattle.std.proofs.Common.{length}
use Rattle.pair_terms.proofs.Blank.{never_made}
use Rattle.pair_terms.proofs.exits.never.Goals as goal

pub returns : goal.returns
returns c = never_made _ _ _ c.in_ok-met.met.0 _ (length c.args.links.now) _ c.in_ok-met.ensures c.in_ok-words.ensures
