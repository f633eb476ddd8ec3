use Rattle.question_form.proofs.FrameValues.{headless_values}
use Rattle.question_form.proofs.laws.headless_values.Goals as goal

pub returns : goal.returns
returns c = headless_values
