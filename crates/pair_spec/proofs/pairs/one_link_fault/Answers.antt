use Rattle.pair_spec.proofs.LinkTexts.{one_link_fault}
use Rattle.pair_spec.proofs.pairs.one_link_fault.Goals as goal

pub returns : goal.returns
returns c = one_link_fault
