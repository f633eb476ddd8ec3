use Rattle.std.proofs.Common.{length, arith}
use Rattle.std.proofs.Math.Facts.{Fits-of_lt}
use Rattle.question_form.specs.Views.{unrolled_of}
use Rattle.bit_blast.proofs.Drawn.{drawn_few, few_flags, few_registers, points_length}
use Rattle.bit_blast.proofs.laying.free_inputs.Goals as goal

pub overflow_mul-result-2 : goal.overflow_mul-result-2
overflow_mul-result-2 c =
    let v = c.args.unrolled.now in
    let u = unrolled_of v in
    let few = drawn_few u (length u.points) in
    let points = points_length v v.points.items in
    Fits-of_lt (omega (arith, c.drawing_points-points.ensures, few, points, c.requires))

pub overflow_add-result-2 : goal.overflow_add-result-2
overflow_add-result-2 c =
    let v = c.args.unrolled.now in
    let u = unrolled_of v in
    let few = drawn_few u (length u.points) in
    let points = points_length v v.points.items in
    Fits-of_lt (omega (
      arith,
      c.drawing_points-points.ensures,
      few,
      points,
      c.requires,
      few_registers v.form,
      few_flags v.form,
      c.register_count-registers.ensures,
      c.flag_count-flags.ensures,
    ))
