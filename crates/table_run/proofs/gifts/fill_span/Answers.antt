use Rattle.std.proofs.Common.{◌≡◌, ◌+◌, ◌-◌, ◌%◌, ◌<◌, ◌∙◌, ap, sym, subst, arith}
use Rattle.word_spec.specs.Memory.{Little, span, store}
use Rattle.word_spec.specs.State.{State}
use Rattle.machine_spec.specs.MachineLaws.{with_memory}
use Rattle.table_run.specs.CalledFrames.{IsFilledBy}
use Rattle.table_run.proofs.Given.{filled_none, filled_put, over_zero}
use Rattle.table_run.proofs.Lists.{span_more}
use Rattle.table_run.proofs.gifts.fill_span.Goals as goal

pub loop-preserved : goal.loop-preserved
loop-preserved g c t h =
    let less : c.loop.counter < c.args.span.count = omega arith in
    let rest = span ((c.loop.at + 1) % 4294967296) (c.args.span.count - (c.loop.counter + 1)) in
    c.loop.invariant t (subst (λ l. IsFilledBy c.args.bytes.now l (g.M.State.View.view c.loop.state) t)
    (sym (span_more c.loop.at c.args.span.count c.loop.counter less))
    (filled_put c.args.bytes.now c.loop.at c.byte_of.result rest (g.M.State.View.view c.loop.state) (g.M.State.View.view c.put.new.state) t
    c.loop.auto.at-fits.fits c.byte_of.type_inv (c.byte_of.ensures ∙ over_zero c.args.bytes.now c.loop.at)
    (c.put.ensures.view ∙ ap (λ (z : State). with_memory z (store Little 1 z.mem c.loop.at c.byte_of.result)) c.in_ok-reserve.ensures.same) h))

pub returns : goal.returns
returns g c =
    let past = c.loop-test.false in
    let left : c.args.span.count - c.loop.counter ≡ 0 = omega (arith, past) in
    c.loop.invariant (g.M.State.View.view c.loop.state)
    (filled_none c.args.bytes.now (span c.loop.at (c.args.span.count - c.loop.counter)) (g.M.State.View.view c.loop.state) (ap (span c.loop.at) left))
