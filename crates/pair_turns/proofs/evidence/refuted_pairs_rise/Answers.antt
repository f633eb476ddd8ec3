use Rattle.pair_turns.proofs.PairsRaising.{refuted_pairs_rise}
use Rattle.pair_turns.proofs.evidence.refuted_pairs_rise.Goals as goal

pub returns : goal.returns
returns c = refuted_pairs_rise
