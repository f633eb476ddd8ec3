use Rattle.turn_laws.proofs.Points.{points_fall}
use Rattle.turn_laws.proofs.evidence.points_fall.Goals as goal

pub returns : goal.returns
returns c = points_fall
