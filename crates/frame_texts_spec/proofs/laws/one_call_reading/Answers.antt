use Rattle.frame_texts_spec.proofs.CallOnce.{one_call_reading}
use Rattle.frame_texts_spec.proofs.laws.one_call_reading.Goals as goal

pub returns : goal.returns
returns c = one_call_reading
