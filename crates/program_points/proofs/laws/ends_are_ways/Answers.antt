use Rattle.program_points.proofs.Ways.{ways}
use Rattle.program_points.proofs.laws.ends_are_ways.Goals as goal

pub returns : goal.returns
returns c = ways
