use Rattle.frame_laws.proofs.Among.{frames_are_among}
use Rattle.frame_laws.proofs.walks.frames_are_among.Goals as goal

pub returns : goal.returns
returns c = frames_are_among
