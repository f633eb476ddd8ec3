use Rattle.program_points.proofs.Added.{was_absent, was_there, add_new, add_old}
use Rattle.program_points.proofs.adding.add.Goals as goal

pub returns-in_ok-push : goal.returns-in_ok-push
returns-in_ok-push c = λ k stacks is fits.
    add_new k stacks c.args.found.now.points.items c.args.found.now.seen c.insert.new.self c.args.point is fits c.root_key-root.result c.root_key-root.ensures c.in_ok-insert.ensures.updates.0
    (was_absent c.in_ok-insert.field-0 _ c.in_ok-insert.ensures.added c.if-branch.true) c.push.new.self.items c.in_ok-push.ensures.items

pub returns-else-branch : goal.returns-else-branch
returns-else-branch c = λ k stacks is fits.
    add_old k stacks c.args.found.now.points.items c.args.found.now.seen c.insert.new.self c.args.point is fits c.root_key-root.result c.root_key-root.ensures c.in_ok-insert.ensures.updates.0
    (was_there c.in_ok-insert.field-0 _ c.in_ok-insert.ensures.added c.if-branch.false)
