use Rattle.frame_terms.proofs.PartStarts.{frame_parts_break_none}
use Rattle.frame_terms.proofs.starts.frame_parts_break_none.Goals as goal

pub returns : goal.returns
returns c = frame_parts_break_none
