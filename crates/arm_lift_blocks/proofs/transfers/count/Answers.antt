use Rattle.std.proofs.Common.{◌∙◌, sym, arith, length}
use Rattle.machine_spec.specs.Arm.{listed_from}
use Rattle.arm_lift_blocks.proofs.Pushes.{counted_hit, counted_miss}
use Rattle.arm_lift_blocks.proofs.transfers.count.Goals as goal
use Rattle.arm_lift_blocks.proofs.transfers.count.Goals.{then-has, else-has}

pub loop-register-preserved : goal.loop-register-preserved
loop-register-preserved c =
    let b = c.args.registers.bits in
    let r = c.loop-register.register in
    let n = c.args.«end» in
    let k = c.loop-register.count in
    let t = length (listed_from b 0 n) in
    let i = c.loop-register.invariant in
    elim c.if-has.branch [
      | then-has w ↦ (
        counted_hit b r n k c.if-has.count t c.loop-register-test.true (sym c.has.ensures ∙ w.if-has.true) w.count-is i.0,
        let e = w.count-is in let l = i.1 in omega arith,
      )
      | else-has w ↦ (
        counted_miss b r n k c.if-has.count t c.loop-register-test.true (sym c.has.ensures ∙ w.if-has.false) w.count-is i.0,
        let e = w.count-is in let l = i.1 in omega arith,
      )
    ]
