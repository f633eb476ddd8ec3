use Rattle.asked_bytes.proofs.Found.{absent, there}
use Rattle.asked_bytes.proofs.blocks.is_among.Goals as goal

pub returns-in-Ok-clause-there : goal.returns-in-Ok-clause-there
returns-in-Ok-clause-there c is = there c.args.added.now c.args.address c.requires c.in-Ok.field-0 c.in-Ok.ensures.position

pub returns-in-Err-clause-absent : goal.returns-in-Err-clause-absent
returns-in-Err-clause-absent c is = absent c.args.added.now c.args.address c.requires c.in-Err.field-0 c.in-Err.ensures.position
