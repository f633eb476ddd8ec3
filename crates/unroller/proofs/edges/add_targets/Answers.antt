use Rattle.unroller.proofs.Adding.{added_more}
use Rattle.unroller.proofs.edges.add_targets.Goals as goal

pub loop-key-preserved : goal.loop-key-preserved
loop-key-preserved c =
    added_more c.args.aims.now.heads.now c.args.aims.now.asserts.now c.args.aims.now.keys.now c.args.next c.args.both c.args.targets.now
    c.loop-key.key-index c.args.edges.now.items c.loop-key.edges.items
    c.push.new.self.items c.edge.result c.loop-key-test.true
    c.edge.ensures c.loop-key.invariant c.in_ok-push.ensures.items
