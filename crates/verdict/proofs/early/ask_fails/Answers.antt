use Rattle.question_form.specs.Views.{unrolled_of}
use Rattle.program_value.specs.Programs.{program_of}
use Rattle.verdict.proofs.EarlyVerdicts.{early_fails, early_refuted, few_points}
use Rattle.verdict.proofs.Grounding.{function_is_read}
use Rattle.verdict.proofs.early.ask_fails.Goals as goal

pub free_inputs-inputs-requires : goal.free_inputs-inputs-requires
free_inputs-inputs-requires g c =
    few_points (program_of c.args.program.now) g.M.Machine.form c.args.budget.now c.args.whole.now c.requires.whole
    c.args.budget.now.in_range.points.1

pub returns-in-Refuted : goal.returns-in-Refuted
returns-in-Refuted g c =
    early_refuted (program_of c.args.program.now) g.M.Machine.form c.args.budget.now (unrolled_of c.args.passive.now.unrolled.now)
    c.requires.smaller c.args.whole.now c.requires.whole c.free_inputs-inputs.result c.free_inputs-inputs.ensures
    (function_is_read c.args.program.now g.met.M.Machine.lawful) c.args.asked.items _ c.args.turn
    c.in-Refuted.fail c.over_variables-turn.result c.over_variables-fail.result c.requires.turn c.in_ok-answered.ensures c.in-Refuted.is
    c.over_variables-turn.ensures c.over_variables-fail.ensures

pub returns-in-Sat : goal.returns-in-Sat
returns-in-Sat g c =
    early_fails (program_of c.args.program.now) g.M.Machine.form c.args.budget.now (unrolled_of c.args.passive.now.unrolled.now)
    c.requires.smaller (function_is_read c.args.program.now g.met.M.Machine.lawful) c.args.asked.items _ c.in-Sat.start
    c.in_ok-answered.ensures c.in-Sat.is
