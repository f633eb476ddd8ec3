use Rattle.std.proofs.Common.{subst}
use Rattle.program_value.specs.Programs.{program_of}
use Rattle.question_form.specs.Views.{unrolled_of}
use Rattle.question_form.specs.declared.unrolled.Unrolled.{Unrolled}
use Rattle.verdict.specs.FewerTurns.{IsEnough, IsSettledBy}
use Rattle.verdict.proofs.Grounding.{decidable}
use Rattle.verdict.proofs.early.judge_smaller.Goals as goal

pub judge_passive-requires-clause-decidable : goal.judge_passive-requires-clause-decidable
judge_passive-requires-clause-decidable g c = decidable c.args.unrolled.now c.in_ok-passive.passive c.requires.measurable c.in_ok-passive.ensures

pub returns-clause-enough : goal.returns-clause-enough
returns-clause-enough g c =
    subst (λ (u : Unrolled). IsSettledBy (IsEnough (program_of c.args.program.now) g.M.Machine.form (unrolled_of u)) c.in_ok-early.early)
    c.in_ok-passive.ensures.of c.in_ok-early.ensures.enough
