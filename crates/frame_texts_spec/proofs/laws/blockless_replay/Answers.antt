use Rattle.frame_texts_spec.proofs.BlocklessReplays.{blockless_replay}
use Rattle.frame_texts_spec.proofs.laws.blockless_replay.Goals as goal

pub returns : goal.returns
returns c = blockless_replay
