use Rattle.std.proofs.Common.{rules}
use Rattle.model_verdict.proofs.Made.{turned_all, turned_more, turned_none}
use Rattle.model_verdict.proofs.filling.turned_memory.Goals as goal

pub loop-i-init : goal.loop-i-init
loop-i-init c = turned_none c.args.fill c.args.bytes.now c.new-memory.result.entries c.new-memory.ensures

pub loop-i-preserved : goal.loop-i-preserved
loop-i-preserved c =
    turned_more c.args.fill c.args.bytes.now c.loop-i.memory.entries c.put.new.memory.entries c.loop-i.i _ c.loop-i-test.true c.loop-i.invariant
    c.in_ok-put.ensures

pub returns : goal.returns
returns c = turned_all c.args.fill c.args.bytes.now c.loop-i.memory.entries c.loop-i.i (search rules) c.loop-i.invariant
