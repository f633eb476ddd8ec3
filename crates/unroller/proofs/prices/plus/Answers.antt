use Rattle.unroller.proofs.prices.plus.Goals as goal
use Rattle.unroller.proofs.Capped.{plus_is}

pub returns : goal.returns
returns c = λ x y p q. plus_is _ _ x y _ p q c.saturating_add.ensures
