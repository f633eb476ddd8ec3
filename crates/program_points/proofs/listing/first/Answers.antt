use Rattle.program_points.proofs.Added.{first_listed, first_one, first_two}
use Rattle.program_points.proofs.Expanded.{entry_within, head_within}
use Rattle.program_points.proofs.listing.first.Goals as goal

pub returns-then-not-contains-clause-listed : goal.returns-then-not-contains-clause-listed
returns-then-not-contains-clause-listed c =
    (c.in_ok-add.ensures 0 0 (first_listed c.new-2.result c.new-2.ensures.empty c.new.result.items c.new.ensures.items) (entry_within c.args.entry)).0

pub returns-then-not-contains-clause-first : goal.returns-then-not-contains-clause-first
returns-then-not-contains-clause-first c =
    let r = c.in_ok-add.ensures 0 0 (first_listed c.new-2.result c.new-2.ensures.empty c.new.result.items c.new.ensures.items) (entry_within c.args.entry) in
    first_one c.args.heads.now c.args.entry c.new.result.items c.add.new.found.points.items c.new.ensures.items (cc) r.1

pub returns-clause-listed : goal.returns-clause-listed
returns-clause-listed c =
    let r = c.in_ok-add.ensures 0 0 (first_listed c.new-2.result c.new-2.ensures.empty c.new.result.items c.new.ensures.items) (entry_within c.args.entry) in
    (c.in_ok-add-2.ensures 0 0 r.0 (head_within c.args.entry c.head_point-head.result c.head_point-head.ensures)).0

pub returns-clause-first : goal.returns-clause-first
returns-clause-first c =
    let r = c.in_ok-add.ensures 0 0 (first_listed c.new-2.result c.new-2.ensures.empty c.new.result.items c.new.ensures.items) (entry_within c.args.entry) in
    first_two c.args.heads.now c.args.entry c.head_point-head.result c.new.result.items c.add.new.found.points.items c.add-2.new.found.points.items
    c.head_point-head.ensures c.new.ensures.items (cc) r.1
    (c.in_ok-add-2.ensures 0 0 r.0 (head_within c.args.entry c.head_point-head.result c.head_point-head.ensures)).1
