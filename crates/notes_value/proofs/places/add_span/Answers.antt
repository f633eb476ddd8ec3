use Rattle.std.proofs.Common.{◌≡◌, suc, ◌+◌, ◌-◌, ◌%◌, ◌++◌, ap, ◌∙◌, arith}
use Rattle.word_spec.specs.Memory.{span}
use Rattle.notes_value.proofs.ReadPlaces.{span_more}
use Rattle.notes_value.proofs.places.add_span.Goals as goal

pub loop-preserved : goal.loop-preserved
loop-preserved c =
    let left : c.args.count - c.loop.counter ≡ suc (c.args.count - (c.loop.counter + 1)) = omega arith in
    ap (λ z. z ++ span ((c.loop.at + 1) % 4294967296) (c.args.count - (c.loop.counter + 1))) c.in_ok-push.ensures.items
    ∙ span_more c.loop.places.items c.loop.at (c.args.count - (c.loop.counter + 1)) (c.args.count - c.loop.counter) left
    ∙ c.loop.invariant
