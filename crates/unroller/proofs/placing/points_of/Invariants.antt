use Rattle.std.proofs.Common.{}
use Rattle.unroller.specs.Led.{ArePlaced}
use Rattle.unroller.proofs.placing.points_of.Given as goal

abbrev pub invariant-loop-place : goal.invariant-loop-place
invariant-loop-place l =
    ArePlaced l.graph l.aims.heads.now l.aims.stepped.now l.aims.asserts.now l.frames l.aims.keys.now l.coded.rows.now l.coded.steps.now l.called l.place
    l.points.items l.edges.items
