use Rattle.std.proofs.Common.{◌∙◌, sym, ap, None, Some}
use Rattle.std.specs.Prelude.{◌==◌, if◌then◌else◌}
use Rattle.machine_spec.specs.Arm.{listed_from}
use Rattle.arm_lift_blocks.specs.Lifted as lifts
use Rattle.arm_lift_blocks.proofs.Pushes.{placed_hit, placed_miss}
use Rattle.arm_lift_blocks.proofs.transfers.place_of.Goals as goal
use Rattle.arm_lift_blocks.proofs.transfers.place_of.Goals.{then-has, else-has}

pub loop-number-preserved : goal.loop-number-preserved
loop-number-preserved c =
    let b = c.args.registers.bits in
    let r = c.loop-number.number in
    let n = c.args.«end» in
    let p = c.args.register.number in
    let d = c.loop-number.distance in
    let f = c.loop-number.found in
    let t = lifts.place_of p c.args.first (listed_from b 0 n) None in
    elim c.if-has.branch [
      | then-has w ↦
          placed_hit b r n p d c.if-has.distance f c.if-has.found t c.loop-number-test.true (sym c.has.ensures ∙ w.if-has.true) w.distance-is
          (w.found-is ∙ w.found_at-found.ensures ∙ ap (λ z. if r == z then Some d else f) w.number.ensures.same) c.loop-number.invariant
      | else-has w ↦
          placed_miss b r n p d c.if-has.distance f c.if-has.found t c.loop-number-test.true (sym c.has.ensures ∙ w.if-has.false) w.distance-is
          w.found-is c.loop-number.invariant
    ]
