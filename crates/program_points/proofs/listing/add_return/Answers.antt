use Rattle.std.proofs.Common.{None}
use Rattle.program_points.specs.Tables.{target}
use Rattle.program_points.proofs.Expanded.{turned_back}
use Rattle.program_points.proofs.listing.add_return.Goals as goal

pub returns-clause-listed : goal.returns-clause-listed
returns-clause-listed c =
    let limits = c.args.limits.now in
    (turned_back (target limits.cuts.heads.now limits.cuts.stepped.now None c.args.point) limits.k limits.max c.args.point c.args.found.now.points.items
    c.add_ends.new.found.points.items c.args.found.now.seen c.add_ends.new.found.seen c.deref-2.result.now c.args.narrow c.args.stacks.now.frames.items
    c.deref.result.now c.args.stacks.now.numbers c.in_ok-ends.ends.items c.requires.table c.requires.listed c.requires.point c.deref.ensures.value
    c.in_ok-ends.ensures c.deref-2.ensures.value c.in_ok-add_ends.ensures).0

pub returns-clause-added : goal.returns-clause-added
returns-clause-added c =
    let limits = c.args.limits.now in
    (turned_back (target limits.cuts.heads.now limits.cuts.stepped.now None c.args.point) limits.k limits.max c.args.point c.args.found.now.points.items
    c.add_ends.new.found.points.items c.args.found.now.seen c.add_ends.new.found.seen c.deref-2.result.now c.args.narrow c.args.stacks.now.frames.items
    c.deref.result.now c.args.stacks.now.numbers c.in_ok-ends.ends.items c.requires.table c.requires.listed c.requires.point c.deref.ensures.value
    c.in_ok-ends.ensures c.deref-2.ensures.value c.in_ok-add_ends.ensures).1

pub add_ends-requires : goal.add_ends-requires
add_ends-requires c = (c.requires.listed.within c.args.point c.requires.point).turns
