use Rattle.frame_turns.proofs.Raising.{frame_refutations_rise}
use Rattle.frame_turns.proofs.evidence.frame_refutations_rise.Goals as goal

pub returns : goal.returns
returns c = frame_refutations_rise
