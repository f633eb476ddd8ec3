use Rattle.std.proofs.Common.{get_or}
use Rattle.std.proofs.lemmas.Map.Lookups.{exact_unsigned}
use Rattle.unroller.proofs.Ordered.{absent, place_is}
use Rattle.unroller.proofs.keys.place_in.Goals as goal

pub unreachable-requires : goal.unreachable-requires
unreachable-requires c = absent c.args.list.now c.args.number c.in-Err.field-0 c.in-Err.ensures.position c.requires.rise c.requires.among

pub returns-clause-value : goal.returns-clause-value
returns-clause-value c = place_is c.args.list.now c.in-Ok.place c.args.number c.requires.rise c.in-Ok.ensures.bound (exact_unsigned (get_or c.args.list.now
    c.in-Ok.place 0) c.args.number (c.in-Ok.ensures.ok 0))
