use Rattle.std.proofs.Common.{◌∙◌, ap}
use Rattle.question_form.specs.declared.unrolled.Unrolled.{Unrolled}
use Rattle.start_value.specs.Starts.{layout_of}
use Rattle.program_value.specs.Programs.{program_of}
use Rattle.verdict.specs.Verdicts.{budget_of}
use Rattle.verdict.proofs.Grounding.{came_above, came_within}
use Rattle.verdict.proofs.scripting.script_unrolled.Goals as goal

pub returns-in-Above : goal.returns-in-Above
returns-in-Above g c =
    came_above (budget_of c.args.budget.now) c.args.unrolled.now c.in_ok-price.field-0 c.in_ok-price.ensures c.in-Above.price c.in-Above.is
    (program_of c.args.program.now) g.M.Machine.form c.requires.unrolled

pub script_passive-requires-clause-ground : goal.script_passive-requires-clause-ground
script_passive-requires-clause-ground g c =
    ((came_within (budget_of c.args.budget.now) c.args.unrolled.now c.in_ok-price.field-0 c.in_ok-price.ensures c.in-Within.passive c.in-Within.is).1
    (program_of c.args.program.now) g.M.Machine.form c.requires.unrolled).1

pub script_passive-requires-clause-askable : goal.script_passive-requires-clause-askable
script_passive-requires-clause-askable g c =
    (came_within (budget_of c.args.budget.now) c.args.unrolled.now c.in_ok-price.field-0 c.in_ok-price.ensures c.in-Within.passive c.in-Within.is).0

pub script_passive-requires-clause-form : goal.script_passive-requires-clause-form
script_passive-requires-clause-form g c =
    ap (λ (u : Unrolled). layout_of u.form)
    (came_within (budget_of c.args.budget.now) c.args.unrolled.now c.in_ok-price.field-0 c.in_ok-price.ensures c.in-Within.passive c.in-Within.is).2
    ∙ c.requires.form

pub returns-in_ok-text-in-Within : goal.returns-in_ok-text-in-Within
returns-in_ok-text-in-Within g c = (
  ((came_within (budget_of c.args.budget.now) c.args.unrolled.now c.in_ok-price.field-0 c.in_ok-price.ensures c.in-Within.passive c.in-Within.is).1
      (program_of c.args.program.now) g.M.Machine.form c.requires.unrolled).0,
  c.in_ok-text-in-Within.ensures,
)
