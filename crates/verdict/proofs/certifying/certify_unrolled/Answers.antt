use Rattle.question_form.specs.Views.{kind_of}
use Rattle.verdict.specs.Verdicts.{budget_of}
use Rattle.verdict.proofs.Grounding.{came_above, came_within}
use Rattle.verdict.proofs.certifying.certify_unrolled.Goals as goal

pub returns-in-Above : goal.returns-in-Above
returns-in-Above c p layout reads h =
    came_above (budget_of c.args.budget.now) c.args.unrolled.now c.in_ok-price.field-0 c.in_ok-price.ensures c.in-Above.price c.in-Above.is p layout h

pub decide-requires-clause-decidable : goal.decide-requires-clause-decidable
decide-requires-clause-decidable c =
    let came = (came_within (budget_of c.args.budget.now) c.args.unrolled.now c.in_ok-price.field-0 c.in_ok-price.ensures c.in-Within.passive c.in-Within.is) in
    record { askable = came.0; frame = came.3 }

pub returns-in_ok-answered-in-Within : goal.returns-in_ok-answered-in-Within
returns-in_ok-answered-in-Within c p layout reads h =
    let ready = (came_within (budget_of c.args.budget.now) c.args.unrolled.now c.in_ok-price.field-0 c.in_ok-price.ensures c.in-Within.passive c.in-Within.is).1
    p layout h in
    c.certified.ensures p layout (budget_of c.args.budget.now) (kind_of c.args.kind) ready.1.lawful reads ready.0
    (c.in_ok-answered-in-Within.ensures p c.args.budget.now.unroll layout reads ready.1)
