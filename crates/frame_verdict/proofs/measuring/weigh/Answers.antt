use Rattle.std.proofs.Common.{arith}
use Rattle.call_form.specs.Views.{budget_of}
use Rattle.frame_verdict.proofs.Measured.{above, all_within}
use Rattle.frame_verdict.proofs.measuring.weigh.Goals as goal

pub returns-then-left-budget : goal.returns-then-left-budget
returns-then-left-budget c w layout below is =
    above w layout (budget_of c.args.budget.now) c.args.measured is c.if-left.false c.if-left-budget.true

pub returns : goal.returns
returns c w layout below is = (
  all_within w layout (budget_of c.args.budget.now) c.args.measured is c.if-left.false (let cheap = c.if-left-budget.false in omega (arith, cheap)),
  record { contracts = below; own = is.unrolled },
)
