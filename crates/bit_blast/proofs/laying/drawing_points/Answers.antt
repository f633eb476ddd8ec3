use Rattle.std.proofs.Common.{◌≡◌, ◌<◌, ◌∙◌, sym, subst, length, true, false, arith}
use Rattle.std.proofs.Math.Facts.{Fits-of_lt}
use Rattle.question_form.specs.Views.{unrolled_of}
use Rattle.term_spec.specs.ClauseForm.{drawn_below}
use Rattle.bit_blast.proofs.Drawn.{drawn_few, drawn_next, points_length, point_draws}
use Rattle.bit_blast.proofs.laying.drawing_points.Goals as goal
use Rattle.bit_blast.proofs.laying.drawing_points.Goals.{then-draws, else-draws}

pub overflow_add-count : goal.overflow_add-count
overflow_add-count c =
    let u = unrolled_of c.args.unrolled.now in
    Fits-of_lt (omega (arith, c.loop-i.invariant, drawn_few u c.loop-i.i, c.requires, c.len-i-end.ensures, c.loop-i-test.true))

pub loop-i-preserved : goal.loop-i-preserved
loop-i-preserved c =
    let v = c.args.unrolled.now in
    let l : c.loop-i.i < length v.points.items = omega (arith, c.len-i-end.ensures, c.loop-i-test.true) in
    let d = point_draws v v.points.items c.loop-i.i c.index.result.now c.draws.result l c.index.ensures c.draws.ensures in
    elim c.if-draws.branch [
      | then-draws w ↦ drawn_next (unrolled_of v) c.loop-i.i c.loop-i.count _ true c.loop-i.invariant (d ∙ w.if-draws.true) w.count-is
      | else-draws w ↦ drawn_next (unrolled_of v) c.loop-i.i c.loop-i.count _ false c.loop-i.invariant (d ∙ w.if-draws.false)
          (let e = w.count-is in omega arith)
    ]

pub returns : goal.returns
returns c =
    let v = c.args.unrolled.now in
    subst (λ n. c.loop-i.count ≡ drawn_below (unrolled_of v) n)
    (let e : c.loop-i.i ≡ length v.points.items = omega (arith, c.len-i-end.ensures, c.loop-i-test.false)
    in e ∙ sym (points_length v v.points.items)) c.loop-i.invariant
