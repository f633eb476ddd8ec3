use Rattle.call_spec.specs.Calls.{TurnQuestion}
use Rattle.question_form.specs.Views.{unrolled_of}
use Rattle.program_value.specs.Programs.{program_of}
use Rattle.verdict.specs.FewerTurns.{IsEnough}
use Rattle.verdict.proofs.EarlyVerdicts.{enough, none_by, refuted_asked}
use Rattle.verdict.proofs.Grounding.{function_is_read}
use Rattle.verdict.proofs.early.ask_turns.Goals as goal

pub ask_fails-requires-clause-turn : goal.ask_fails-requires-clause-turn
ask_fails-requires-clause-turn g c =
    refuted_asked (unrolled_of c.args.passive.now.unrolled.now) TurnQuestion c.args.budget.now.conflicts _ _ c.in-Refuted.turn
    c.in_ok-answered.ensures c.in-Refuted.is

pub returns-in-Refuted-clause-enough : goal.returns-in-Refuted-clause-enough
returns-in-Refuted-clause-enough g c =
    let u = unrolled_of c.args.passive.now.unrolled.now in
    none_by (IsEnough (program_of c.args.program.now) g.M.Machine.form u)
    (enough (program_of c.args.program.now) (function_is_read c.args.program.now g.met.M.Machine.lawful) g.M.Machine.form u c.in_ok-answered.field-0.asked.items
    c.args.budget.now.conflicts c.in-Refuted.turn
    (refuted_asked u TurnQuestion c.args.budget.now.conflicts _ _ c.in-Refuted.turn c.in_ok-answered.ensures c.in-Refuted.is))
    c.in_ok-no_turns-in-Refuted.no_turns
