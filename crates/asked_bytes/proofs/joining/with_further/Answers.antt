use Rattle.std.proofs.Common.{arith}
use Rattle.asked_bytes.proofs.Merging.{begins, takes_first, takes_second, ends}
use Rattle.asked_bytes.proofs.joining.with_further.Goals as goal

pub loop-i-init : goal.loop-i-init
loop-i-init c = begins c.args.added.now c.args.further.now c.requires.added c.requires.further c.requires.apart c.new-joined.result.items
    c.new-joined.ensures.items

pub loop-i-preserved-then-comes_first : goal.loop-i-preserved-then-comes_first
loop-i-preserved-then-comes_first c =
    takes_first c.args.added.now c.args.further.now c.requires.added c.requires.further c.requires.apart c.loop-i.i c.loop-i.j c.loop-i.joined.items
    c.push.new.self.items
    c.loop-i.invariant c.in_ok-push.ensures.items (c.comes_first.ensures.first c.if-comes_first.true)

pub loop-i-smaller : goal.loop-i-smaller
loop-i-smaller c = let next = c.comes_first.ensures.second c.if-comes_first.false in let within = c.loop-i.invariant.first in omega (arith, next.0, within)

pub loop-i-preserved : goal.loop-i-preserved
loop-i-preserved c =
    takes_second c.args.added.now c.args.further.now c.requires.added c.requires.further c.requires.apart c.loop-i.i c.loop-i.j c.loop-i.joined.items
    c.push-else-comes_first.new.self.items c.loop-i.invariant c.in_ok-push-2.ensures.items (c.comes_first.ensures.second c.if-comes_first.false)

pub returns : goal.returns
returns c =
    ends c.args.added.now c.args.further.now c.requires.added c.requires.further c.requires.apart c.loop-i.i c.loop-i.j c.loop-i.joined.items c.loop-i.invariant
    (λ lt. let n = c.if-i-added.false in omega (arith, lt, n)) (λ lt. let n = c.if-j-further.false in omega (arith, lt, n))
