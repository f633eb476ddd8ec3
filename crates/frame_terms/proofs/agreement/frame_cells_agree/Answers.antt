use Rattle.frame_terms.proofs.PartValues.{frame_cells_agree}
use Rattle.frame_terms.proofs.agreement.frame_cells_agree.Goals as goal

pub returns : goal.returns
returns c = frame_cells_agree
