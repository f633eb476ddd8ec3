use Rattle.program_value.specs.Programs.{program_of}
use Rattle.verdict.proofs.Grounding.{function_is_read}
use Rattle.verdict.proofs.Endings.{turning, turns_somehow}
use Rattle.verdict.proofs.shown.turning.Goals as goal

pub unreachable-requires : goal.unreachable-requires
unreachable-requires g c =
    turns_somehow (program_of c.args.program.now) c.requires.lawful
    (function_is_read c.args.program.now g.met.M.Machine.lawful) g.M.Machine.form c.args.budget.now
    c.requires.within c.args.budget.now.in_range.points.0 c.args.start
    c.in_ok-at.field-0 c.in_ok-at.ensures c.requires.turns c.in_default.not-Turned

pub returns : goal.returns
returns g c =
    turning (program_of c.args.program.now) c.requires.lawful
    (function_is_read c.args.program.now g.met.M.Machine.lawful) g.M.Machine.form c.args.budget.now
    c.requires.within c.args.budget.now.in_range.points.0 c.args.start
    c.in_ok-at.field-0 c.in_ok-at.ensures c.requires.never c.requires.turns c.in-Turned.at c.in-Turned.step c.in-Turned.is
