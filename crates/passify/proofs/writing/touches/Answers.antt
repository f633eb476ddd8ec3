use Rattle.std.proofs.Common.{◌+◌, ◌-◌, arith}
use Rattle.passify.proofs.Writes.{touches_far, touches_near}
use Rattle.passify.proofs.writing.touches.Goals as goal

pub returns-then-reach-ge4294967295 : goal.returns-then-reach-ge4294967295
returns-then-reach-ge4294967295 c =
    touches_far c.args.dag.now c.args.stored c.args.low c.args.high (c.args.stored.bytes - 1) c.nodes-typed.ensures.typed c.requires.store c.requires.run
    (omega (arith, c.ranges.high.fits))
    (omega (arith, c.requires.store.some))
    (omega (arith, c.from.ensures, c.from-2.ensures, c.if-reach-ge4294967295.true, c.requires.run))

pub returns : goal.returns
returns c =
    touches_near c.args.dag.now c.keep.new.self c.mk.new.self c.keep-2.new.self c.mk-2.new.self c.both.new.dag c.args.stored c.args.low c.args.high
    (c.args.stored.bytes - 1)
    c.from-3.result (c.from.result + c.from-2.result)
    c.in_ok-start.start.0 c.in_ok-distance.distance.0 c.in_ok-reach.reach.0 c.in_ok-near.near.0 c.in_ok-bit.bit.0 c.nodes-typed.ensures.typed c.requires.store
    c.requires.run
    (omega (arith, c.ranges.high.fits))
    (omega (arith, c.requires.store.some)) c.from-3.ensures
    (omega (arith, c.from.ensures, c.from-2.ensures)) c.in_ok-start.ensures c.in_ok-distance.ensures
    c.in_ok-reach.ensures c.in_ok-near.ensures
    c.in_ok-bit.ensures
