use Rattle.frame_texts_spec.proofs.ProgramBlocks.{written_is_shown}
use Rattle.frame_texts_spec.proofs.laws.written_is_shown.Goals as goal

pub returns : goal.returns
returns c = written_is_shown
