use Rattle.std.proofs.Common.{ap, arith, subst}
use Rattle.bilv_spec.specs.Verdict.{IsStart, RunTurns}
use Rattle.machine_spec.specs.Endings as endings
use Rattle.program_value.specs.Programs.{program_of}
use Rattle.question_form.specs.Views.{unrolled_of}
use Rattle.verdict.specs.FewerTurns.{IsEnough}
use Rattle.verdict.specs.Grounds.{IsGround}
use Rattle.verdict.proofs.EarlyVerdicts.{settled_by}
use Rattle.call_spec.specs.Calls.{Budget}
use Rattle.verdict.proofs.early.judge_within.Goals as goal

pub judge_smaller-requires-clause-smaller : goal.judge_smaller-requires-clause-smaller
judge_smaller-requires-clause-smaller g c =
    let same = ap (λ (b : Budget). b.unroll) c.with_unroll-smaller.ensures in
    let few = c.requires.turns in
    record { turns = c.with_unroll-smaller.result.unroll; few = omega (arith, same, few); ground = c.in-Ok.ensures.unrolled.ground }

pub returns-in_ok-early-in-Ok-clause-enough : goal.returns-in_ok-early-in-Ok-clause-enough
returns-in_ok-early-in-Ok-clause-enough g c =
    let p = program_of c.args.program.now in
    settled_by (IsEnough p g.M.Machine.form (unrolled_of c.in-Ok.unrolled))
    ((start : endings.Start) → IsStart p start → ¬ RunTurns p c.args.turns start)
    (λ e. e c.args.turns (subst (λ (b : Budget). IsGround p b.unroll g.M.Machine.form (unrolled_of c.in-Ok.unrolled)) c.with_unroll-smaller.ensures
    c.in-Ok.ensures.unrolled.ground)) c.in_ok-early-in-Ok.early c.in_ok-early-in-Ok.ensures.enough
