use Rattle.std.proofs.Common.{arith}
use Rattle.program_value.specs.Programs.{program_of}
use Rattle.verdict.specs.Verdicts.{budget_of}
use Rattle.verdict.proofs.Grounding.{decidable, weighed_above, weighed_within}
use Rattle.verdict.proofs.verifying.judge_unrolled.Goals as goal

pub returns-in-Above : goal.returns-in-Above
returns-in-Above g c = record {
  verdict = weighed_above (budget_of c.args.budget.now) c.args.unrolled.now c.in_ok-price.field-0 c.in_ok-price.ensures c.in-Above.price c.in-Above.is
      (program_of c.args.program.now) g.M.Machine.form c.requires.unrolled;
  few = omega arith;
  holds = λ h. h;
}

pub returns : goal.returns
returns g c = record { verdict = c.in_ok-verdict.ensures; few = omega arith; holds = λ h. h }

pub judge_early-requires-clause-within : goal.judge_early-requires-clause-within
judge_early-requires-clause-within g c =
    weighed_within (budget_of c.args.budget.now) c.args.unrolled.now c.in_ok-price.field-0 c.in_ok-price.ensures c.in-Within.price c.in-Within.is
    (program_of c.args.program.now) g.M.Machine.form c.requires.unrolled

pub judge-requires-clause-within : goal.judge-requires-clause-within
judge-requires-clause-within g c =
    weighed_within (budget_of c.args.budget.now) c.args.unrolled.now c.in_ok-price.field-0 c.in_ok-price.ensures c.in-Within.price c.in-Within.is
    (program_of c.args.program.now) g.M.Machine.form c.requires.unrolled

pub judge-requires-clause-decidable : goal.judge-requires-clause-decidable
judge-requires-clause-decidable g c = decidable c.args.unrolled.now c.in_ok-passive.passive c.requires.unrolled.measurable c.in_ok-passive.ensures
