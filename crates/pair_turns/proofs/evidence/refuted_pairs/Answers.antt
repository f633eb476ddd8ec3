use Rattle.pair_turns.proofs.Refuted.{refuted_pair}
use Rattle.pair_turns.proofs.evidence.refuted_pairs.Goals as goal

pub returns : goal.returns
returns c = refuted_pair
