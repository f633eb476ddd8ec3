use Rattle.std.proofs.Common.{◌+◌, ap, sym, subst, drop, get_or}
use Rattle.std.proofs.lemmas.List.{drop_all}
use Rattle.table_run.specs.CalledFrames.{IsFilledBy}
use Rattle.table_run.specs.Spans.{bytes_at, bytes_of}
use Rattle.table_run.specs.declared.spans.Span.{Span}
use Rattle.table_run.proofs.Given.{filled_both, filled_none}
use Rattle.table_run.proofs.SpanLists.{bytes_next}
use Rattle.table_run.proofs.gifts.fill.Goals as goal

pub loop-span-preserved : goal.loop-span-preserved
loop-span-preserved g c t h =
    let d : Span = record { first = 0; count = 0 } in
    c.loop-span.invariant t (subst (λ l. IsFilledBy c.args.bytes.now l (g.M.State.View.view c.loop-span.state) t)
    (sym (bytes_next c.args.spans.now c.loop-span.span-index d c.loop-span-test.true))
    (filled_both c.args.bytes.now (bytes_at (get_or c.args.spans.now c.loop-span.span-index d)) (bytes_of (drop (c.loop-span.span-index + 1) c.args.spans.now))
    (g.M.State.View.view c.loop-span.state) (g.M.State.View.view c.fill_span.new.state) t c.in_ok-fill_span.ensures h))

pub returns : goal.returns
returns g c =
    c.loop-span.invariant (g.M.State.View.view c.loop-span.state)
    (filled_none c.args.bytes.now (bytes_of (drop c.loop-span.span-index c.args.spans.now)) (g.M.State.View.view c.loop-span.state)
    (ap bytes_of (drop_all c.loop-span.span-index c.args.spans.now c.loop-span-test.false)))
