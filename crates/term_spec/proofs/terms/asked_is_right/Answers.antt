use Rattle.term_spec.proofs.Asked.{asked_is_right}
use Rattle.term_spec.proofs.terms.asked_is_right.Goals as goal

pub returns : goal.returns
returns c = asked_is_right
