use Rattle.std.proofs.Common.{◌<◌, string_bytes, length, refl, arith}
use Rattle.smtlib_print.specs.Scripted.{draws_of}
use Rattle.smtlib_print.proofs.Choices.{choice_more, choices_done, draws_count, point_draws}
use Rattle.smtlib_print.proofs.declarations.declare_choices.Goals as goal

pub loop-place-preserved : goal.loop-place-preserved
loop-place-preserved c =
    let u = c.args.unrolled.now in
    let i = c.loop-place.place in
    let l : i < length u.points.items = omega (arith, c.len-place-end.ensures, c.loop-place-test.true) in
    choice_more c.args.numbers.now (draws_of u) i _ c.draws-drawn.result (string_bytes c.loop-place.out)
    (string_bytes c.declare_choice.new.out) _
    (omega (arith, l, c.requires)) (omega (arith, l, draws_count u u.points.items)) refl
    (point_draws u u.points.items i c.index.result.now c.draws-drawn.result l c.index.ensures c.draws-drawn.ensures) c.in_ok-declare_choice.ensures
    c.loop-place.invariant

pub returns : goal.returns
returns c =
    choices_done c.args.numbers.now (draws_of c.args.unrolled.now) c.loop-place.place (string_bytes c.loop-place.out) _
    (omega (arith, c.len-place-end.ensures, c.loop-place-test.false, c.requires)) c.loop-place.invariant
