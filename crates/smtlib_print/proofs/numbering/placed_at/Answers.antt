use Rattle.std.proofs.Common.{refl}
use Rattle.smtlib_print.proofs.Placing.{is_placed}
use Rattle.smtlib_print.proofs.numbering.placed_at.Goals as goal

pub returns : goal.returns
returns c =
    is_placed c.args.unrolled.now c.args.steps c.args.roots.now c.args.place c.index-point.result.now _ c.requires c.index-point.ensures c.beginning.ensures refl
    refl c.address.ensures c.is_step.ensures refl
