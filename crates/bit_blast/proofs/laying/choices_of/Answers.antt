use Rattle.std.proofs.Common.{◌≡◌, ◌<◌, ◌∙◌, ap, sym, subst, length, arith}
use Rattle.std.proofs.Math.Facts.{Fits-of_lt}
use Rattle.question_form.specs.Views.{unrolled_of}
use Rattle.bit_blast.specs.Laid.{AreDrawn}
use Rattle.bit_blast.proofs.Drawn.{drawn_few, points_length, point_draws, draws_one, draws_none}
use Rattle.bit_blast.proofs.laying.choices_of.Goals as goal
use Rattle.bit_blast.proofs.laying.choices_of.Goals.{then-draws+in_ok-push, else-draws+in_ok-push-2}

pub overflow_add-count : goal.overflow_add-count
overflow_add-count c =
    let u = unrolled_of c.args.unrolled.now in
    Fits-of_lt (omega (arith, c.loop-i.invariant.all, drawn_few u c.loop-i.i, c.requires, c.len-i-end.ensures, c.loop-i-test.true))

pub loop-i-preserved : goal.loop-i-preserved
loop-i-preserved c =
    let v = c.args.unrolled.now in
    let l : c.loop-i.i < length v.points.items = omega (arith, c.len-i-end.ensures, c.loop-i-test.true) in
    let d = point_draws v v.points.items c.loop-i.i c.index.result.now c.draws.result l c.index.ensures c.draws.ensures in
    elim c.if-draws.branch [
      | then-draws+in_ok-push w ↦ draws_one (unrolled_of v) c.loop-i.i c.loop-i.drawn.items _ c.loop-i.count _ c.loop-i.invariant (d ∙ w.if-draws.true) (ap
          (λ z. z.items) w.drawn-is ∙ w.in_ok-push.ensures.items) w.count-is
      | else-draws+in_ok-push-2 w ↦ draws_none (unrolled_of v) c.loop-i.i c.loop-i.drawn.items _ c.loop-i.count _ c.loop-i.invariant (d ∙ w.if-draws.false) (ap
          (λ z. z.items) w.drawn-is ∙ w.in_ok-push-2.ensures.items) w.count-is
    ]

pub returns : goal.returns
returns c =
    let v = c.args.unrolled.now in
    subst (λ n. AreDrawn (unrolled_of v) n c.loop-i.drawn.items c.loop-i.count)
    (let e : c.loop-i.i ≡ length v.points.items = omega (arith, c.len-i-end.ensures, c.loop-i-test.false)
    in e ∙ sym (points_length v v.points.items)) c.loop-i.invariant
