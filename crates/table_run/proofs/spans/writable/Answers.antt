use Rattle.word_spec.specs.Memory.{endian}
use Rattle.table_run.proofs.SpanLists.{written_next}
use Rattle.table_run.proofs.spans.writable.Goals as goal

pub loop-line-preserved : goal.loop-line-preserved
loop-line-preserved g c =
    written_next (endian c.args.big) (g.V.View.view c.args.state.now) c.args.writes.now c.loop-line.line-index c.line-item.result c.loop-line.spans.items
    c.push.new.self.items c.value.result c.value.type_inv c.loop-line-test.true c.line-item.is c.value.ensures c.in_ok-push.ensures.items c.loop-line.invariant
