use Rattle.bilv_spec.specs.Run.{Program}
use Rattle.machine_spec.specs.StateText.{Layout}
use Rattle.program_value.specs.Programs.{program_of}
use Rattle.verdict.specs.FewerTurns.{IsJudged}
use Rattle.verdict.specs.Measures.{IsUnrolledOf}
use Rattle.verdict.specs.Verdicts.{budget_of}
use Rattle.pair_verdict.proofs.MachineOfSide.{from_side, to_side}
use Rattle.pair_verdict.proofs.sides.verdict_by.Goals as goal

pub judge_unrolled-requires : goal.judge_unrolled-requires
judge_unrolled-requires g c = record {
  unrolled =
      from_side c.args.side.now (program_of c.program-program.result) g.M.Machine.form c.program-program.ensures c.requires.form
      (λ (p : Program) (form : Layout). IsUnrolledOf p form (budget_of c.args.budget.now) c.args.unrolled.now) c.requires.unrolled;
}

pub returns : goal.returns
returns g c =
    to_side c.args.side.now (program_of c.program-program.result) g.M.Machine.form c.program-program.ensures c.requires.form
    (λ (p : Program) (form : Layout). IsJudged p form c.args.budget.now c.in_ok-judged.judged) c.in_ok-judged.ensures
