use Rattle.std.proofs.Common.{subst, Option, ℕ}
use Rattle.program_points.specs.Tables.{target, ends_of, frame_at, AreAdded}
use Rattle.program_points.specs.Walks.{somewhere}
use Rattle.program_points.proofs.Expanded.{expanded, ok_zero}
use Rattle.program_points.proofs.listing.expand.Goals as goal

pub returns-clause-listed : goal.returns-clause-listed
returns-clause-listed c =
    let limits = c.args.limits.now in
    (expanded (target limits.cuts.heads.now limits.cuts.stepped.now c.linked-linked.result c.args.point) limits.k limits.max c.args.point
    c.args.found.now.points.items c.add_ends.new.found.points.items c.args.found.now.seen c.add_ends.new.found.seen c.deref-2.result.now
    c.args.graph.now.narrow c.in-Some.node.now c.in_ok-called.called c.args.stacks.now.frames.items c.called.new.stacks.frames.items c.deref.result.now
    c.called.new.stacks.numbers c.in_ok-ends.ends.items c.in_ok-called.ensures.table c.requires.listed c.requires.point c.in_ok-called.ensures.called
    c.deref.ensures.value c.in_ok-ends.ensures c.deref-2.ensures.value c.in_ok-add_ends.ensures).0

pub returns-clause-step : goal.returns-clause-step
returns-clause-step c =
    let limits = c.args.limits.now in
    let heads = limits.cuts.heads.now in
    let stepped = limits.cuts.stepped.now in
    let node = c.in-Some.node.now in
    let frames = c.called.new.stacks.frames.items in
    let point = c.args.point in
    let old = c.args.found.now.points.items in
    let new = c.add_ends.new.found.points.items in
    somewhere node c.in_ok-called.called (cc) (cc) c.in-Some.ensures.0 c.in-Some.ensures.1 c.in_ok-called.ensures.called
    (λ h. ok_zero c.called.result c.in_ok-called.called c.in_ok-called.was (c.called.ensures.none h).0)
    (subst (λ (o : Option ℕ). AreAdded (target heads stepped o point) limits.k limits.max
    (ends_of c.args.graph.now.narrow node (frame_at frames point.stack) point.stack c.in_ok-called.called) old new) c.linked-linked.ensures
    (expanded (target heads stepped c.linked-linked.result point) limits.k limits.max point
    old new c.args.found.now.seen c.add_ends.new.found.seen c.deref-2.result.now
    c.args.graph.now.narrow node c.in_ok-called.called c.args.stacks.now.frames.items frames c.deref.result.now
    c.called.new.stacks.numbers c.in_ok-ends.ends.items c.in_ok-called.ensures.table c.requires.listed c.requires.point c.in_ok-called.ensures.called
    c.deref.ensures.value c.in_ok-ends.ensures c.deref-2.ensures.value c.in_ok-add_ends.ensures).1)

pub called-requires-clause-stack : goal.called-requires-clause-stack
called-requires-clause-stack c = (c.requires.listed.within c.args.point c.requires.point).stack

pub add_ends-requires : goal.add_ends-requires
add_ends-requires c = (c.requires.listed.within c.args.point c.requires.point).turns
