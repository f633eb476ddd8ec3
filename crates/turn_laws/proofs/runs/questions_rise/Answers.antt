use Rattle.turn_laws.proofs.Alike.{questions_rise}
use Rattle.turn_laws.proofs.runs.questions_rise.Goals as goal

pub returns : goal.returns
returns c = questions_rise
