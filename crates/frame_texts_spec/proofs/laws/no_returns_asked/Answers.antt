use Rattle.frame_texts_spec.proofs.HeadlessReplays.{no_returns_asked}
use Rattle.frame_texts_spec.proofs.laws.no_returns_asked.Goals as goal

pub returns : goal.returns
returns c = no_returns_asked
