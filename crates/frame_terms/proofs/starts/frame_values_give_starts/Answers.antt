use Rattle.frame_terms.proofs.PartStarts.{frame_values_give_starts}
use Rattle.frame_terms.proofs.starts.frame_values_give_starts.Goals as goal

pub returns : goal.returns
returns c = frame_values_give_starts
