use Rattle.frame_model.proofs.FrameDeclared.{declared_are_read}
use Rattle.frame_model.proofs.laws.declared_are_read.Goals as goal

pub returns : goal.returns
returns c = declared_are_read
