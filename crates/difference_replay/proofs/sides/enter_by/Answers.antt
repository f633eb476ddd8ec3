use Rattle.std.proofs.Common.{ℕ, ◌==◌, ap, subst}
use Rattle.word_spec.specs.State.{State}
use Rattle.bilv_spec.specs.EntryFaults.{IsEntryStateFault}
use Rattle.program_value.specs.Programs.{program_at, program_of}
use Rattle.table_run.specs.Endings.{fault_of}
use Rattle.difference_replay.specs.Sides.{IsEntered}
use Rattle.difference_replay.specs.declared.sides.Entered.TheVariants.{Values, Faulty}
use Rattle.difference_replay.proofs.OneSide.{entered_by, written_here}
use Rattle.difference_replay.proofs.sides.enter_by.Goals as goal

pub start_state-requires : goal.start_state-requires
start_state-requires g c = written_here c.args.side.now c.args.start.now (program_of c.program-program.result) g.M.Machine.form c.program-program.ensures c.requires.form c.requires.begun.written

pub returns-in-Err : goal.returns-in-Err
returns-in-Err g c =
    entered_by c.args.side.now c.args.start.now (program_of c.program-program.result) g.M.Machine.form c.program-program.ensures c.requires.form c.args.half c.args.probes.now
    (Faulty c.in-Err.fault) (
      c.in-Err.ensures.kind,
      subst (λ (s : State). IsEntryStateFault (program_at c.program-program.result s.pc) s (fault_of c.in-Err.fault)) c.in_ok-state.ensures c.in-Err.ensures.fault,
    )

pub returns : goal.returns
returns g c =
    entered_by c.args.side.now c.args.start.now (program_of c.program-program.result) g.M.Machine.form c.program-program.ensures c.requires.form c.args.half c.args.probes.now
    (Values c.in_ok-values.values)
    (subst (λ (s : State). IsEntered c.args.half (program_at c.program-program.result s.pc) s c.args.probes.now (Values c.in_ok-values.values)) c.in_ok-state.ensures (
      ap (λ (x : ℕ). x == 0) c.in_default.ensures.link,
      c.in_default.ensures.lines,
      c.in_ok-values.ensures,
    ))
