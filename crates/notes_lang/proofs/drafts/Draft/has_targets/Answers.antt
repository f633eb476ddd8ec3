use Rattle.std.proofs.Common.{◌∙◌}
use Rattle.notes_lang.proofs.Growing.{has_by}
use Rattle.notes_lang.proofs.drafts.Draft.has_targets.Goals as goal

pub returns : goal.returns
returns c says p = has_by says c.args.self.now.targets.items c.args.at c.contains.result (c.contains.ensures ∙ p.addresses c.args.at) p.targets
