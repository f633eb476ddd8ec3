use Rattle.std.proofs.Common.{◌+◌, ◌-◌, ◌%◌, ◌<◌, ◌∙◌, ap, sym, arith}
use Rattle.std.specs.Prelude.{◌≡◌, not, nat_eq, true, ◌||◌}
use Rattle.std.specs.List.{list_any}
use Rattle.word_spec.specs.Memory.{span}
use Rattle.table_run.specs.Spans.{bytes_of, has_other}
use Rattle.table_run.proofs.Lists.{span_more}
use Rattle.table_run.proofs.spans.is_outside.Goals as goal

pub loop-preserved : goal.loop-preserved
loop-preserved c =
    let less : c.loop.counter < c.args.span.count = omega arith in
    let next = ap (has_other c.args.own.now) (span_more c.loop.at c.args.span.count c.loop.counter less) in
    let rest = has_other c.args.own.now (span ((c.loop.at + 1) % 4294967296) (c.args.span.count - (c.loop.counter + 1))) in
    let here : list_any (nat_eq c.loop.at) (bytes_of c.args.own.now) ≡ true = sym c.if-not-covers.ensures in
    ap (λ b. not b || rest) (sym here) ∙ sym next ∙ c.loop.invariant
