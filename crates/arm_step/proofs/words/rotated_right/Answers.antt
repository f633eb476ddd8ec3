use Rattle.std.proofs.Common.{◌-◌, ◌%◌, arith}
use Rattle.arm_step.proofs.Bits.{power, rotated_fits}
use Rattle.arm_step.proofs.words.rotated_right.Goals as goal

pub overflow_mul-result : goal.overflow_mul-result
overflow_mul-result c =
    let k = c.args.amount % 32 in
    let f = rotated_fits c.args.value k c.ranges.value.fits (omega arith) in
    rw (power k (omega arith), power (32 - k) (omega arith)) (omega (arith, f))

pub overflow_cast-result-4 : goal.overflow_cast-result-4
overflow_cast-result-4 c =
    let k = c.args.amount % 32 in
    let f = rotated_fits c.args.value k c.ranges.value.fits (omega arith) in
    rw (power k (omega arith), power (32 - k) (omega arith)) (omega (arith, f))
