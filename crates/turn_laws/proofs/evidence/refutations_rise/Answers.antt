use Rattle.turn_laws.proofs.Raising.{refutations_rise}
use Rattle.turn_laws.proofs.evidence.refutations_rise.Goals as goal

pub returns : goal.returns
returns c = refutations_rise
