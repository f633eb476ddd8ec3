use Rattle.pair_spec.proofs.LinkTexts.{one_links}
use Rattle.pair_spec.proofs.pairs.one_links.Goals as goal

pub returns : goal.returns
returns c = one_links
