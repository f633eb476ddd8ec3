use Rattle.std.proofs.Common.{◌<◌, ◌^◌, ap, length, subst, arith}
use Rattle.bilv_spec.specs.Notes as notes
use Rattle.bilv_spec.proofs.PointsInGraph.{of_map}
use Rattle.notes_value.specs.NoteViews.{assert_of}
use Rattle.notes_value.specs.declared.notes.Assert.{Assert}
use Rattle.frame_verdict.proofs.ranks.places_are_words.Goals as goal

pub returns : goal.returns
returns c a h =
    let it = of_map assert_of c.args.notes.now.asserts.items a h in
    let past = c.loop-line-test.false in
    let of = ap length c.deref-line-items.ensures.value in
    let inside : it.1.0 < length c.args.notes.now.asserts.items = it.1.1 in
    subst (λ (z : notes.Assert). z.at < 2 ^ 32) it.2
    (subst (λ (z : Assert). z.at < 2 ^ 32) it.1.2 (c.loop-line.invariant it.1.0 it.0 (omega (arith, past, of, inside)) inside))
