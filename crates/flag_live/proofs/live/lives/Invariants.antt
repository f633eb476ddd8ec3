use Rattle.flag_live.specs.Meanings.{AreLiveBelow}
use Rattle.flag_live.proofs.live.lives.Given as goal

abbrev pub invariant-loop-i : goal.invariant-loop-i
invariant-loop-i l = AreLiveBelow l.graph.nodes.items l.marked.items l.flag l.i l.live.items
