use Rattle.pair_terms.proofs.ByLink as proofs
use Rattle.pair_terms.proofs.places.unrolling_leaves_by_link.Goals as goal

pub returns : goal.returns
returns c = proofs.unrolling_leaves_by_link
