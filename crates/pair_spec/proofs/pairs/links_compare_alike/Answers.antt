use Rattle.pair_spec.proofs.LinkTexts.{links_compare_alike}
use Rattle.pair_spec.proofs.pairs.links_compare_alike.Goals as goal

pub returns : goal.returns
returns c = links_compare_alike
