use Rattle.std.proofs.Common.{arith, subst}
use Rattle.machine_spec.specs.Endings as endings
use Rattle.bilv_spec.specs.Verdict.{IsStart, RunTurns}
use Rattle.program_value.specs.Programs.{program_of}
use Rattle.verdict.specs.FewerTurns.{IsEarly, IsSettledBy}
use Rattle.verdict.proofs.EarlyVerdicts.{early_judged}
use Rattle.verdict.proofs.early.judge_early.Goals as goal

pub loop-turns-init : goal.loop-turns-init
loop-turns-init g c = (omega arith, omega (arith, c.min-most.ensures))

pub loop-turns-smaller : goal.loop-turns-smaller
loop-turns-smaller g c = omega (arith, c.loop-turns.invariant, c.loop-turns-test.true)

pub loop-turns-preserved : goal.loop-turns-preserved
loop-turns-preserved g c = (omega (arith, c.loop-turns.invariant), omega (arith, c.loop-turns.invariant))

pub returns-in-Settled : goal.returns-in-Settled
returns-in-Settled g c =
    let p = program_of c.args.program.now in
    early_judged p g.M.Machine.form c.args.budget.now c.loop-turns.turns c.in-Settled.verdict
    (subst (IsEarly p g.M.Machine.form c.args.budget.now) c.in-Settled.is c.in_ok-verdict.ensures.early)
    (omega (arith, c.loop-turns.invariant, c.loop-turns-test.true))
    (subst (IsSettledBy ((start : endings.Start) → IsStart p start → ¬ RunTurns p c.loop-turns.turns start)) c.in-Settled.is c.in_ok-verdict.ensures.enough)
