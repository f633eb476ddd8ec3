use Rattle.std.proofs.Common.{◌+◌, ◌-◌, ◌%◌, ◌<◌, [], ◌∷◌, ◌++◌, ◌∙◌, ap, sym, arith, append_assoc}
use Rattle.word_spec.specs.Memory.{span}
use Rattle.table_run.proofs.Lists.{span_more}
use Rattle.table_run.proofs.observers.add_span.Goals as goal

pub loop-preserved : goal.loop-preserved
loop-preserved c =
    let less : c.loop.counter < c.args.span.count = omega arith in
    let rest = span ((c.loop.at + 1) % 4294967296) (c.args.span.count - (c.loop.counter + 1)) in
    ap (λ l. l ++ rest) c.in_ok-push.ensures.items ∙ append_assoc c.loop.places.items (c.loop.at ∷ []) rest
    ∙ ap (λ l. c.loop.places.items ++ l) (sym (span_more c.loop.at c.args.span.count c.loop.counter less)) ∙ c.loop.invariant
