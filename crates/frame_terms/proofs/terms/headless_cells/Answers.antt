use Rattle.frame_terms.proofs.HeadlessCells.{headless_cells}
use Rattle.frame_terms.proofs.terms.headless_cells.Goals as goal

pub returns : goal.returns
returns c = headless_cells
