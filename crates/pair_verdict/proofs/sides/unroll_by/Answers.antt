use Rattle.std.specs.Prelude.{IfErr, IfOk}
use Rattle.bilv_spec.specs.Run.{Program}
use Rattle.machine_spec.specs.StateText.{Layout}
use Rattle.program_points.specs.Listed.{IsTooMany}
use Rattle.program_value.specs.Programs.{program_of}
use Rattle.verdict.specs.Measures.{IsUnrolledOf}
use Rattle.verdict.specs.Verdicts.{budget_of}
use Rattle.pair_verdict.proofs.MachineOfSide.{to_side}
use Rattle.pair_verdict.proofs.sides.unroll_by.Goals as goal

pub returns-clause-unrolled : goal.returns-clause-unrolled
returns-clause-unrolled g c =
    to_side c.args.side.now (program_of c.program-program.result) g.M.Machine.form c.program-program.ensures c.requires.form
    (λ (p : Program) (form : Layout). IfOk c.unroll_within.result (IsUnrolledOf p form (budget_of c.args.budget.now))) c.unroll_within.ensures.unrolled

pub returns-clause-more : goal.returns-clause-more
returns-clause-more g c =
    to_side c.args.side.now (program_of c.program-program.result) g.M.Machine.form c.program-program.ensures c.requires.form
    (λ (p : Program) (form : Layout). IfErr c.unroll_within.result (IsTooMany p c.args.budget.now.unroll c.args.budget.now.points))
    c.unroll_within.ensures.more
