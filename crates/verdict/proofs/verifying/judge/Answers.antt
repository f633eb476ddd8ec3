use Rattle.call_spec.specs.Calls.{FailQuestion, TurnQuestion}
use Rattle.question_form.specs.Views.{unrolled_of}
use Rattle.program_value.specs.Programs.{program_of}
use Rattle.verdict.specs.declared.verdicts.Answered.TheVariants.{Sat}
use Rattle.verdict.proofs.Grounding.{function_is_read}
use Rattle.verdict.proofs.ThreeQuestions.{is_answered, vacuous_verdict, spent_on_entry_verdict, spent_on_fail_verdict, none_fails, spent_on_turn_verdict, holds_verdict}
use Rattle.verdict.proofs.verifying.judge.Goals as goal

pub returns-in-Refuted : goal.returns-in-Refuted
returns-in-Refuted g c =
    vacuous_verdict (program_of c.args.program.now)
    (function_is_read c.args.program.now g.met.M.Machine.lawful) g.M.Machine.form c.args.budget.now
    c.requires.within c.args.budget.now.in_range.points.0
    (unrolled_of c.args.passive.now.unrolled.now) c.requires.ground c.in_ok-start.field-0 c.in-Refuted.proof c.in_ok-start.ensures c.in-Refuted.is

pub returns-in-Spent : goal.returns-in-Spent
returns-in-Spent g c =
    spent_on_entry_verdict (program_of c.args.program.now)
    (function_is_read c.args.program.now g.met.M.Machine.lawful) g.M.Machine.form c.args.budget.now
    c.requires.within c.args.budget.now.in_range.points.0
    (unrolled_of c.args.passive.now.unrolled.now) c.requires.ground c.in_ok-start.field-0 c.in-Spent.proof c.in_ok-start.ensures c.in-Spent.is

pub failing-requires-clause-fails : goal.failing-requires-clause-fails
failing-requires-clause-fails g c =
    is_answered (program_of c.args.program.now)
    (function_is_read c.args.program.now g.met.M.Machine.lawful) g.M.Machine.form c.args.budget.now
    c.requires.within c.args.budget.now.in_range.points.0
    (unrolled_of c.args.passive.now.unrolled.now) c.requires.ground FailQuestion c.in_ok-start-2.field-0
    (Sat c.in-Sat-2.start) c.in_ok-start-2.ensures c.in-Sat-2.is

pub returns-in-Spent-2 : goal.returns-in-Spent-2
returns-in-Spent-2 g c =
    spent_on_fail_verdict (program_of c.args.program.now)
    (function_is_read c.args.program.now g.met.M.Machine.lawful) g.M.Machine.form c.args.budget.now
    c.requires.within c.args.budget.now.in_range.points.0
    (unrolled_of c.args.passive.now.unrolled.now) c.requires.ground c.in_ok-start.field-0 c.in-Sat.start c.in_ok-start.ensures c.in-Sat.is
    c.in_ok-start-2.field-0 c.in-Spent-2.proof c.in_ok-start-2.ensures c.in-Spent-2.is

pub turning-requires-clause-never : goal.turning-requires-clause-never
turning-requires-clause-never g c =
    none_fails (program_of c.args.program.now)
    (function_is_read c.args.program.now g.met.M.Machine.lawful) g.M.Machine.form c.args.budget.now
    c.requires.within c.args.budget.now.in_range.points.0
    (unrolled_of c.args.passive.now.unrolled.now) c.requires.ground c.in_ok-start.field-0 c.in-Sat.start c.in_ok-start.ensures c.in-Sat.is
    c.in_ok-start-2.field-0 c.in-Refuted-2.proof c.in_ok-start-2.ensures c.in-Refuted-2.is

pub turning-requires-clause-turns : goal.turning-requires-clause-turns
turning-requires-clause-turns g c =
    is_answered (program_of c.args.program.now)
    (function_is_read c.args.program.now g.met.M.Machine.lawful) g.M.Machine.form c.args.budget.now
    c.requires.within c.args.budget.now.in_range.points.0
    (unrolled_of c.args.passive.now.unrolled.now) c.requires.ground TurnQuestion c.in_ok-start-3.field-0
    (Sat c.in-Sat-3.start) c.in_ok-start-3.ensures c.in-Sat-3.is

pub returns-in-Refuted-3 : goal.returns-in-Refuted-3
returns-in-Refuted-3 g c =
    holds_verdict (program_of c.args.program.now)
    (function_is_read c.args.program.now g.met.M.Machine.lawful) g.M.Machine.form c.args.budget.now
    c.requires.within c.args.budget.now.in_range.points.0
    (unrolled_of c.args.passive.now.unrolled.now) c.requires.ground c.in_ok-start.field-0 c.in-Sat.start c.in_ok-start.ensures c.in-Sat.is
    c.in_ok-start-2.field-0 c.in-Refuted-2.proof c.in_ok-start-2.ensures c.in-Refuted-2.is c.in_ok-start-3.field-0 c.in-Refuted-3.turn c.in_ok-start-3.ensures
    c.in-Refuted-3.is

pub returns-in-Spent-3 : goal.returns-in-Spent-3
returns-in-Spent-3 g c =
    spent_on_turn_verdict (program_of c.args.program.now)
    (function_is_read c.args.program.now g.met.M.Machine.lawful) g.M.Machine.form c.args.budget.now
    c.requires.within c.args.budget.now.in_range.points.0
    (unrolled_of c.args.passive.now.unrolled.now) c.requires.ground c.in_ok-start.field-0 c.in-Sat.start c.in_ok-start.ensures c.in-Sat.is
    c.in_ok-start-2.field-0 c.in-Refuted-2.proof c.in_ok-start-2.ensures c.in-Refuted-2.is c.in_ok-start-3.field-0 c.in-Spent-3.proof c.in_ok-start-3.ensures
    c.in-Spent-3.is
