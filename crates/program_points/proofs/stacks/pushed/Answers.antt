use Rattle.std.proofs.Common.{arith, ap, sym, ◌∙◌}
use Rattle.std.specs.Option.{option_copied}
use Rattle.program_points.proofs.Tabled.{had, pushed_last, table_push}
use Rattle.program_points.proofs.Lists.{grown}
use Rattle.program_points.proofs.stacks.pushed.Goals as goal

pub returns-in-Some-clause-pushed : goal.returns-in-Some-clause-pushed
returns-in-Some-clause-pushed c = had c.args.stacks.now.frames.items c.args.stacks.now.numbers c.args.top c.args.below c.in-Some.number.now
    (sym c.in-Some.ensures.value) c.requires.table

pub returns-clause-table : goal.returns-clause-table
returns-clause-table c =
    let e = grown c.args.stacks.now.frames.items c.push.new.self.items _ c.in_ok-push.ensures.items in
    table_push c.args.stacks.now.frames.items c.args.stacks.now.numbers c.insert.new.self c.args.top c.args.below c.len-number.result c.requires.table
    c.requires.below
    (sym c.get.ensures.value ∙ ap option_copied c.in_default.is) (omega arith) c.in_ok-insert.ensures.updates.0 c.push.new.self.items c.in_ok-push.ensures.items

pub returns-clause-pushed : goal.returns-clause-pushed
returns-clause-pushed c =
    let e = grown c.args.stacks.now.frames.items c.push.new.self.items _ c.in_ok-push.ensures.items in
    pushed_last c.args.stacks.now.frames.items c.push.new.self.items c.args.top c.args.below c.len-number.result c.in_ok-push.ensures.items (omega arith)
