use Rattle.low_memory.proofs.Lists.{lists_see_low}
use Rattle.low_memory.proofs.lists_see_low.Goals as goal

pub returns : goal.returns
returns c = lists_see_low
