use Rattle.frame_texts_spec.proofs.Headless.{headless_is_state_text}
use Rattle.frame_texts_spec.proofs.laws.headless_is_state_text.Goals as goal

pub returns : goal.returns
returns c = headless_is_state_text
