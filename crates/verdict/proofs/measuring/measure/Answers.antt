use Rattle.verdict.specs.Verdicts.{budget_of}
use Rattle.verdict.proofs.Grounding.{weighed_above, measured_within}
use Rattle.verdict.proofs.measuring.measure.Goals as goal

pub returns-in-Above : goal.returns-in-Above
returns-in-Above c = weighed_above (budget_of c.args.budget.now) c.args.unrolled.now c.in_ok-price.field-0 c.in_ok-price.ensures c.in-Above.price c.in-Above.is

pub returns-in_ok-passive-in-Within : goal.returns-in_ok-passive-in-Within
returns-in_ok-passive-in-Within c =
    measured_within (budget_of c.args.budget.now) c.args.unrolled.now c.in_ok-price.field-0 c.in_ok-price.ensures c.in-Within.field-0 c.in-Within.is c.requires
    c.in_ok-passive-in-Within.passive c.in_ok-passive-in-Within.ensures
