use Rattle.frame_turns.proofs.Raising.{frame_refuted_never_true}
use Rattle.frame_turns.proofs.evidence.frame_refuted_never_true.Goals as goal

pub returns : goal.returns
returns c = frame_refuted_never_true
