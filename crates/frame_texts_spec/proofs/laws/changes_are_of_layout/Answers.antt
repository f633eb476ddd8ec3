use Rattle.frame_texts_spec.proofs.ProgramBlocks.{changes_are_of_layout}
use Rattle.frame_texts_spec.proofs.laws.changes_are_of_layout.Goals as goal

pub returns : goal.returns
returns c = changes_are_of_layout
