use Rattle.weakest_pre.proofs.KnownWords.{both_met}
use Rattle.weakest_pre.proofs.facts.both.Goals as goal

pub returns : goal.returns
returns c = λ w p q. both_met _ _ _ _ w c.max.ensures c.min.ensures p q
