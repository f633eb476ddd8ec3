use Rattle.machine_spec.proofs.ShortLawful.{short_is_lawful}
use Rattle.machine_spec.proofs.machines.short_is_lawful.Goals as goal

pub returns : goal.returns
returns c = short_is_lawful
