use Rattle.std.proofs.Common.{take}
use Rattle.unroller.specs.Led.{AreAddedTo}
use Rattle.unroller.proofs.edges.add_targets.Given as goal

abbrev pub invariant-loop-key : goal.invariant-loop-key
invariant-loop-key l = AreAddedTo l.aims.heads.now l.aims.asserts.now l.aims.keys.now l.next l.both (take l.key-index l.targets) l.fn.edges.items l.edges.items
