use Rattle.frame_terms.proofs.PartStarts.{frame_broken_is_new}
use Rattle.frame_terms.proofs.starts.frame_broken_is_new.Goals as goal

pub returns : goal.returns
returns c = frame_broken_is_new
