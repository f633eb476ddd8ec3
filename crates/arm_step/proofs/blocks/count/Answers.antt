use Rattle.std.proofs.Common.{◌∙◌, ◌+◌, ◌-◌, ap, sym, arith, length}
use Rattle.machine_spec.specs.Arm.{listed_from}
use Rattle.arm_step.proofs.RegisterLists.{counted_hit, counted_miss}
use Rattle.arm_step.proofs.blocks.count.Goals as goal
use Rattle.arm_step.proofs.blocks.count.Goals.{then-has, else-has}

pub loop-register-preserved : goal.loop-register-preserved
loop-register-preserved c =
    let b = c.args.list.bits in
    let r = c.loop-register.register in
    let n = c.args.«end» in
    let t = length (listed_from b 0 n) in
    let i = c.loop-register.invariant in
    elim c.if-has.branch [
      | then-has w ↦ (
        ap (λ k. k + length (listed_from b (r + 1) (n - (r + 1)))) w.count-is
            ∙ counted_hit b r n c.loop-register.count t c.loop-register-test.true (sym c.has.ensures ∙ w.if-has.true) i.0,
        let e = w.count-is in let l = i.1 in omega arith,
      )
      | else-has w ↦ (
        ap (λ k. k + length (listed_from b (r + 1) (n - (r + 1)))) w.count-is
            ∙ counted_miss b r n c.loop-register.count t c.loop-register-test.true (sym c.has.ensures ∙ w.if-has.false) i.0,
        let e = w.count-is in let l = i.1 in omega arith,
      )
    ]
