use Rattle.turn_laws.proofs.Prices.{prices_rise}
use Rattle.turn_laws.proofs.evidence.prices_rise.Goals as goal

pub returns : goal.returns
returns c = prices_rise
