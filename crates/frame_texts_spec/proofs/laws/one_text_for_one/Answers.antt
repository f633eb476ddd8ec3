use Rattle.frame_texts_spec.proofs.CallsSaid.{one_text_for_one}
use Rattle.frame_texts_spec.proofs.laws.one_text_for_one.Goals as goal

pub returns : goal.returns
returns c = one_text_for_one
