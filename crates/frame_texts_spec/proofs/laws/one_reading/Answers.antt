use Rattle.frame_texts_spec.proofs.Once.{one_reading}
use Rattle.frame_texts_spec.proofs.laws.one_reading.Goals as goal

pub returns : goal.returns
returns c = one_reading
