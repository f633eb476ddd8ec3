use Rattle.bilv_spec.specs.Points.{is_known_at}
use Rattle.bilv_spec.specs.Run.{Program}
use Rattle.machine_spec.specs.StateText.{IsWritten, Layout}
use Rattle.program_value.specs.Programs.{program_of}
use Rattle.start_value.specs.Starts.{written_of}
use Rattle.pair_verdict.proofs.MachineOfSide.{from_side}
use Rattle.pair_verdict.proofs.ExitRuns.{found_out, is_found}
use Rattle.pair_verdict.proofs.WordsOfStates.{words_of_links}
use Rattle.pair_verdict.proofs.exits.exit_by.Goals as goal

pub exit_state-requires-clause-start : goal.exit_state-requires-clause-start
exit_state-requires-clause-start g c =
    from_side c.args.side.now (program_of c.program-program.result) g.M.Machine.form c.program-program.ensures c.requires.form
    (λ (p : Program) (form : Layout). IsWritten form (is_known_at p) (written_of c.args.start.now)) c.requires.written

pub exit_words-requires : goal.exit_words-requires
exit_words-requires g c =
    words_of_links c.args.second c.args.side.now.layout g.M.Machine.machine c.requires.machine g.M.State.View.has_register g.met.M.Machine.same_registers
    c.args.links.now c.requires.links

pub unreachable-requires : goal.unreachable-requires
unreachable-requires g c =
    is_found c.args.side.now (program_of c.program-program.result) g.M.Machine.form c.program-program.ensures c.requires.form c.requires.sided c.args.start.now
    c.args.budget.now.unroll c.in_ok-step.step c.in_ok-step.ensures.exits (rw c.in-None.is at c.in_ok-state.ensures.none)

pub returns : goal.returns
returns g c =
    let state = g.M.State.View.view c.in-Some.state in
    let found = found_out c.args.side.now (program_of c.program-program.result) g.M.Machine.form c.program-program.ensures c.requires.form c.requires.sided c.args.start.now
    c.args.budget.now.unroll c.in_ok-step.step c.in_ok-step.ensures.exits state (rw c.in-Some.is at c.in_ok-state.ensures.some) in
    record { at = found.0; state = state; exits = found.1; words = c.in_ok-words-in-Some.ensures }
