use Rattle.std.proofs.Common.{string_bytes}
use Rattle.program_value.specs.Programs.{program_of}
use Rattle.verdict.proofs.ScriptLaws.{known_runs, points_apart, script_says}
use Rattle.verdict.proofs.scripting.script_passive.Goals as goal

pub script-requires-clause-runs : goal.script-requires-clause-runs
script-requires-clause-runs g c = known_runs c.args.passive.now c.in_ok-question.question c.in_ok-question.ensures.of.0 c.requires.askable

pub script-requires-clause-apart : goal.script-requires-clause-apart
script-requires-clause-apart g c =
    points_apart c.args.passive.now c.in_ok-question.question c.in_ok-question.ensures.of.0 (program_of c.args.program.now)
    c.args.budget.now.unroll g.M.Machine.form c.requires.ground

pub returns : goal.returns
returns g c =
    script_says c.args.passive.now c.in_ok-question.question c.in_ok-question.ensures.of.0 (program_of c.args.program.now)
    c.args.budget.now.unroll g.M.Machine.form c.requires.ground c.requires.form c.args.kind c.in_ok-question.ensures.of.1
    (string_bytes c.in_ok-text.text) c.in_ok-text.ensures
