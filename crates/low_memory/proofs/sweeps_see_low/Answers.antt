use Rattle.low_memory.proofs.Walks.{sweeps_see_low}
use Rattle.low_memory.proofs.sweeps_see_low.Goals as goal

pub returns : goal.returns
returns c = sweeps_see_low
