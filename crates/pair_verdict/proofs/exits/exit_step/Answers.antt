use Rattle.bilv_spec.specs.Points.{is_known_at}
use Rattle.bilv_spec.specs.Run.{Program}
use Rattle.machine_spec.specs.StateText.{IsWritten, Layout}
use Rattle.program_value.specs.Programs.{program_of}
use Rattle.start_value.specs.Starts.{written_of}
use Rattle.pair_verdict.proofs.MachineOfSide.{from_side}
use Rattle.pair_verdict.proofs.ExitRuns.{ends_by_exit, exit_early, exit_exits}
use Rattle.pair_verdict.proofs.exits.exit_step.Goals as goal

pub run-requires-clause-start : goal.run-requires-clause-start
run-requires-clause-start g c =
    from_side c.args.side.now (program_of c.program-program.result) g.M.Machine.form c.program-program.ensures c.requires.form
    (λ (p : Program) (form : Layout). IsWritten form (is_known_at p) (written_of c.args.start.now)) c.requires.written

pub unreachable-requires : goal.unreachable-requires
unreachable-requires g c =
    ends_by_exit c.args.side.now (program_of c.program-program.result) g.M.Machine.form c.program-program.ensures c.requires.form c.requires.sided c.args.start.now
    c.args.budget.now c.requires.within c.requires.holds c.requires.start c.in_ok-step.field-0
    c.in_ok-step.ensures c.in_default.not-Exit

pub returns-clause-few : goal.returns-clause-few
returns-clause-few g c =
    exit_early c.args.side.now (program_of c.program-program.result) g.M.Machine.form c.program-program.ensures c.requires.form c.requires.sided c.args.start.now
    c.args.budget.now c.requires.within c.requires.holds c.requires.start c.in_ok-step.field-0
    c.in_ok-step.ensures c.in-Exit.at c.in-Exit.step c.in-Exit.is

pub returns-clause-exits : goal.returns-clause-exits
returns-clause-exits g c =
    exit_exits c.args.side.now (program_of c.program-program.result) g.M.Machine.form c.program-program.ensures c.requires.form c.requires.sided c.args.start.now
    c.args.budget.now c.requires.within c.requires.holds c.requires.start c.in_ok-step.field-0
    c.in_ok-step.ensures c.in-Exit.at c.in-Exit.step c.in-Exit.is
