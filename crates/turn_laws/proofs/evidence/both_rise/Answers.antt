use Rattle.turn_laws.proofs.Raising.{both_rise}
use Rattle.turn_laws.proofs.evidence.both_rise.Goals as goal

pub returns : goal.returns
returns c = both_rise
