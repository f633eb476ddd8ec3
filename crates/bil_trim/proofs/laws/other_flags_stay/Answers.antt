use Rattle.bil_trim.proofs.laws.other_flags_stay.Goals as goal
use Rattle.bil_trim.proofs.Leaves.{other_flags_stay}

pub returns : goal.returns
returns c = other_flags_stay
