use Rattle.answer_laws.proofs.Upgraded.{upgrade_is_printed}
use Rattle.answer_laws.proofs.upgrades.upgrade_is_printed.Goals as goal

pub returns : goal.returns
returns c = upgrade_is_printed
