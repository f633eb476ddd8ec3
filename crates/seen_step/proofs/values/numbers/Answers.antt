use Rattle.seen_step.proofs.Lists.{all_numbers, next_number}
use Rattle.seen_step.proofs.values.numbers.Goals as goal

pub loop-i-preserved : goal.loop-i-preserved
loop-i-preserved c =
    next_number c.args.first c.loop-i.i c.args.count c.loop-i.out.items c.push.new.self.items _ c.loop-i-test.true c.in_ok-push.ensures.items
    c.loop-i.invariant

pub returns : goal.returns
returns c = all_numbers c.args.first c.loop-i.i c.args.count c.loop-i.out.items _ c.loop-i-test.false c.loop-i.invariant
