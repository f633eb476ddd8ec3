use Rattle.std.proofs.Common.{ℕ, ap, sym, ◌∙◌}
use Rattle.program_points.specs.Tables.{is_among}
use Rattle.unroller.proofs.Ordered.{absent}
use Rattle.unroller.proofs.keys.aim.Goals as goal

pub returns-in-Err : goal.returns-in-Err
returns-in-Err c = (
  ap (λ (a : ℕ). is_among c.args.aims.now.heads.now a) (sym c.address_of-at.ensures) ∙ sym c.is_head.ensures ∙ c.if-is_head.false,
  absent c.args.aims.now.keys.now c.args.key c.in-Err.field-0 c.in-Err.ensures.position c.requires.rise,
)
