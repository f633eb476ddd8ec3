use Rattle.std.proofs.Common.{◌-◌, ◌*◌, ◌%◌, ◌^◌, ◌<◌, arith}
use Rattle.arm_lift_alu.proofs.Shifts.{power, turned_small}
use Rattle.arm_lift_alu.proofs.shifter.immediate.Goals as goal

pub overflow_mul-result : goal.overflow_mul-result
overflow_mul-result c =
    let k = 2 * c.args.rotation % 32 in
    let b : c.args.byte < 2 ^ 32 = let h = c.ranges.byte.fits in omega (arith, h) in
    let f = turned_small c.args.byte k b (omega arith) in
    rw (power k (omega arith), power (32 - k) (omega arith)) (omega (arith, f))

pub overflow_add-result : goal.overflow_add-result
overflow_add-result c =
    let k = 2 * c.args.rotation % 32 in
    let b : c.args.byte < 2 ^ 32 = let h = c.ranges.byte.fits in omega (arith, h) in
    let f = turned_small c.args.byte k b (omega arith) in
    rw (power k (omega arith), power (32 - k) (omega arith)) (omega (arith, f))

pub overflow_cast-result-4 : goal.overflow_cast-result-4
overflow_cast-result-4 c =
    let k = 2 * c.args.rotation % 32 in
    let b : c.args.byte < 2 ^ 32 = let h = c.ranges.byte.fits in omega (arith, h) in
    let f = turned_small c.args.byte k b (omega arith) in
    rw (power k (omega arith), power (32 - k) (omega arith)) (omega (arith, f))
