use Rattle.machine_spec.proofs.RvNarrow.{short_is_expansion}
use Rattle.machine_spec.proofs.machines.short_is_expansion.Goals as goal

pub returns : goal.returns
returns c = short_is_expansion
