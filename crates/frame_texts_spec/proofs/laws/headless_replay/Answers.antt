use Rattle.frame_texts_spec.proofs.HeadlessReplays.{headless_replay}
use Rattle.frame_texts_spec.proofs.laws.headless_replay.Goals as goal

pub returns : goal.returns
returns c = headless_replay
