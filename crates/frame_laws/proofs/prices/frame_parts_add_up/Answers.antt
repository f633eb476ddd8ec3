use Rattle.frame_laws.proofs.FrameSums.{frame_parts_add_up}
use Rattle.frame_laws.proofs.prices.frame_parts_add_up.Goals as goal

pub returns : goal.returns
returns c = frame_parts_add_up
