use Rattle.program_value.specs.Programs.{program_of}
use Rattle.verdict.proofs.Grounding.{function_is_read}
use Rattle.verdict.proofs.Endings.{failing, fails_somehow}
use Rattle.verdict.proofs.shown.failing.Goals as goal

pub unreachable-requires : goal.unreachable-requires
unreachable-requires g c =
    fails_somehow (program_of c.args.program.now) c.requires.lawful
    (function_is_read c.args.program.now g.met.M.Machine.lawful) g.M.Machine.form c.args.budget.now
    c.requires.within c.args.budget.now.in_range.points.0 c.args.start
    c.in_ok-event.field-0 c.in_ok-event.ensures c.requires.fails c.in_default.not-Failed

pub returns : goal.returns
returns g c =
    failing (program_of c.args.program.now) c.requires.lawful
    (function_is_read c.args.program.now g.met.M.Machine.lawful) g.M.Machine.form c.args.budget.now
    c.requires.within c.args.budget.now.in_range.points.0 c.args.start
    c.in_ok-event.field-0 c.in_ok-event.ensures c.requires.fails c.in-Failed.event c.in-Failed.at c.in-Failed.step c.in-Failed.is
