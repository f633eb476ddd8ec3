use Rattle.unroller.proofs.Ordered.{absent}
use Rattle.unroller.proofs.keys.address_place.Goals as goal

pub returns-in-Err : goal.returns-in-Err
returns-in-Err c = absent c.args.addresses.now c.args.at c.in-Err.field-0 c.in-Err.ensures.position c.requires
