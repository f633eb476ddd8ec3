use Rattle.frame_terms.proofs.PartStarts.{frame_starts_are_shown}
use Rattle.frame_terms.proofs.starts.frame_starts_are_shown.Goals as goal

pub returns : goal.returns
returns c = frame_starts_are_shown
