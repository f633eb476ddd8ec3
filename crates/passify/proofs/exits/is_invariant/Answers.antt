use Rattle.std.proofs.Common.{◌∙◌}
use Rattle.passify.proofs.Checks.{among}
use Rattle.passify.proofs.exits.is_invariant.Goals as goal

pub returns : goal.returns
returns c = c.contains.ensures.value ∙ among c.args.line c.args.unrolled.now.invariants.now
