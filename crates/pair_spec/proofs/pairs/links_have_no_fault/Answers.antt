use Rattle.pair_spec.proofs.LinkTexts.{links_have_no_fault}
use Rattle.pair_spec.proofs.pairs.links_have_no_fault.Goals as goal

pub returns : goal.returns
returns c = links_have_no_fault
