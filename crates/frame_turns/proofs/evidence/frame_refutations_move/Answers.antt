use Rattle.frame_turns.proofs.Raising.{frame_refutations_move}
use Rattle.frame_turns.proofs.evidence.frame_refutations_move.Goals as goal

pub returns : goal.returns
returns c = frame_refutations_move
