use Rattle.std.proofs.Common.{ℕ, get_or}
use Rattle.passify.proofs.Pushed.{other_default}
use Rattle.passify.proofs.Writes.{run_at, touches_all, touches_more, touches_none}
use Rattle.passify.proofs.writing.touches_some.Goals as goal

pub loop-i-init : goal.loop-i-init
loop-i-init c = touches_none c.args.dag.now c.args.stored c.args.before.0 c.nodes-typed.ensures.typed c.requires.before

pub touches-requires-clause-run : goal.touches-requires-clause-run
touches-requires-clause-run c =
    let k : ℕ × ℕ = get_or c.args.kept.now c.loop-i.i (0, 0) in
    run_at c.args.kept.now c.loop-i.i k c.requires.runs c.loop-i-test.true (other_default c.args.kept.now c.loop-i.i (0, 0) k c.loop-i-test.true)

pub loop-i-preserved : goal.loop-i-preserved
loop-i-preserved c =
    let k : ℕ × ℕ = get_or c.args.kept.now c.loop-i.i (0, 0) in
    touches_more c.args.dag.now c.loop-i.dag c.touches.new.dag c.either.new.dag c.args.stored c.args.kept.now c.loop-i.i k c.args.before.0 c.loop-i.some.0
    c.in_ok-bit.bit.0
    c.in_ok-some.some.0 c.loop-i-test.true
    (other_default c.args.kept.now c.loop-i.i (0, 0) k c.loop-i-test.true) c.requires.store c.loop-i.invariant c.in_ok-bit.ensures c.in_ok-some.ensures

pub returns : goal.returns
returns c = touches_all c.args.dag.now c.loop-i.dag c.args.stored c.args.kept.now c.loop-i.i c.args.before.0 c.loop-i.some.0 c.loop-i-test.false
    c.loop-i.auto.i-end c.loop-i.invariant
