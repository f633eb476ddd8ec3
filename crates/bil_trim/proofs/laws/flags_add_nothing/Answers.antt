use Rattle.bil_trim.proofs.laws.flags_add_nothing.Goals as goal
use Rattle.bil_trim.proofs.Fewer.{flags_add_nothing}

pub returns : goal.returns
returns c = flags_add_nothing
