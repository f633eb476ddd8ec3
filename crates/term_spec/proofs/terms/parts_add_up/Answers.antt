use Rattle.term_spec.proofs.PriceSums.{parts_add_up}
use Rattle.term_spec.proofs.terms.parts_add_up.Goals as goal

pub returns : goal.returns
returns c = parts_add_up
