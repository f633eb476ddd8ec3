use Rattle.std.proofs.Common.{◌≡◌, ◌≤◌, ◌<◌, ◌+◌, false, subst, arith}
use Rattle.bilv_spec.specs.LiftText.{is_word_at}
use Rattle.lift_text.proofs.Places.{end_place}
use Rattle.lift_text.proofs.Givens.{gap, before_part, empty_part, nothing_loaded, none_at}
use Rattle.lift_text.proofs.candidates.look_at.Goals as goal

pub returns-in_default : goal.returns-in_default
returns-in_default g c = nothing_loaded g.M.Machine.machine c.args.image.now c.args.at (omega arith) (end_place g.M.Machine.machine.narrow) c.in_default.ensures

pub returns-then-not-begins_given : goal.returns-then-not-begins_given
returns-then-not-begins_given g c =
    let part = c.in-Some.ensures in
    let behind = part.behind in
    let some = part.some in
    gap g.M.Machine.machine c.args.image.now c.is_narrow-narrow.result c.args.at (c.in-Some.part.last + 1) c.place_from.result c.is_narrow-narrow.ensures
    (omega arith) c.place_from.ensures
    (empty_part g.M.Machine.machine c.args.image.now c.args.at c.in-Some.part part c.if-not-begins_given.ensures)

pub returns-then-part-at : goal.returns-then-part-at
returns-then-part-at g c =
    let part = c.in-Some.ensures in
    let behind = part.behind in
    let other = c.if-part-at.true in
    gap g.M.Machine.machine c.args.image.now c.is_narrow-narrow.result c.args.at c.in-Some.part.first c.place_from-then-part-at.result
    c.is_narrow-narrow.ensures (omega arith) c.place_from-then-part-at.ensures
    (before_part g.M.Machine.machine c.args.image.now c.args.at c.in-Some.part part)

pub returns-in-None : goal.returns-in-None
returns-in-None g c =
    let here : is_word_at g.M.Machine.machine c.args.image.now c.args.at ≡ false =
    subst (λ n. is_word_at g.M.Machine.machine c.args.image.now n ≡ false) c.if-part-at.false c.in-None.ensures in
    gap g.M.Machine.machine c.args.image.now c.is_narrow-narrow.result c.args.at (c.args.at + 1) c.place_from-in-None.result c.is_narrow-narrow.ensures
    (omega arith) c.place_from-in-None.ensures (none_at g.M.Machine.machine c.args.image.now c.args.at here)
