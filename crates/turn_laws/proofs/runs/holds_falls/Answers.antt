use Rattle.turn_laws.proofs.Alike.{holds_falls}
use Rattle.turn_laws.proofs.runs.holds_falls.Goals as goal

pub returns : goal.returns
returns c = holds_falls
