use Rattle.std.proofs.Common.{◌<◌, string_bytes, length, refl, arith}
use Rattle.start_value.specs.Starts.{layout_of}
use Rattle.smtlib_print.specs.Scripted.{given_by, givens_of}
use Rattle.smtlib_print.proofs.GiftTexts.{given_there, givens_count, step_more}
use Rattle.smtlib_print.proofs.gifts.declare_steps.Goals as goal

pub loop-place-preserved : goal.loop-place-preserved
loop-place-preserved c =
    let u = c.args.unrolled.now in
    let i = c.loop-place.place in
    let l : i < length u.points.items = omega (arith, c.len-place-end.ensures, c.loop-place-test.true) in
    step_more (layout_of u.form) c.args.numbers.now (givens_of u) i _ (given_by u c.index.result.now.deed) (string_bytes c.loop-place.out)
    (string_bytes c.declare_step.new.out) _ (omega (arith, l, c.requires)) (omega (arith, l, givens_count u u.points.items)) refl
    (given_there u u.points.items i c.index.result.now l c.index.ensures) c.in_ok-declare_step.ensures c.loop-place.invariant
