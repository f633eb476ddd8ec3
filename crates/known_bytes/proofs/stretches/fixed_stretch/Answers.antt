use Rattle.known_bytes.proofs.Reaches.{held_fixed, free_fixed}
use Rattle.std.proofs.Common.{arith}
use Rattle.known_bytes.proofs.stretches.fixed_stretch.Goals as goal

pub returns-then-s-clause-same : goal.returns-then-s-clause-same
returns-then-s-clause-same c x low high = held_fixed c.args.ranges.now c.args.a c.loop-range.s.high x (c.loop-range.invariant.held c.if-s.true) low high

pub returns-else-s-clause-same : goal.returns-else-s-clause-same
returns-else-s-clause-same c x low high =
    free_fixed c.args.ranges.now c.args.a c.loop-range.s.free x
    (λ k d w. c.loop-range.invariant.outside k d (omega arith))
    (λ k d w l m. let yes = c.loop-range.invariant.passed k d (omega arith) l m in absurd (cc (yes, c.if-s.false)))
    low high
