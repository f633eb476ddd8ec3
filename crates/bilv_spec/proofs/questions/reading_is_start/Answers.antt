use Rattle.bilv_spec.proofs.ReadingRuns.{reading_is_start}
use Rattle.bilv_spec.proofs.questions.reading_is_start.Goals as goal

pub returns : goal.returns
returns c = reading_is_start
