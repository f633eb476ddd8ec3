use Rattle.unroller.proofs.prices.times.Goals as goal
use Rattle.unroller.proofs.Capped.{times_is}

pub returns : goal.returns
returns c = λ x y p q. times_is _ _ x y _ p q c.saturating_mul.ensures
