use Rattle.std.proofs.Common.{◌≡◌, ℕ, ◌+◌, ◌-◌, arith, subst}
use Rattle.std.specs.Prelude.{None}
use Rattle.bilv_spec.specs.Answers.{start_in}
use Rattle.bilv_spec.specs.Reports.{found}
use Rattle.program_value.specs.Programs.{program_of}
use Rattle.start_value.specs.Starts.{written_of}
use Rattle.table_run.specs.Endings.{found_of}
use Rattle.difference_replay.proofs.OneSide.{ended_by, written_here}
use Rattle.difference_replay.proofs.sides.end_by.Goals as goal

pub run-requires-clause-start : goal.run-requires-clause-start
run-requires-clause-start g c = written_here c.args.side.now c.args.start.now (program_of c.program-program.result) g.M.Machine.form c.program-program.ensures c.requires.form c.requires.begun.written

pub returns : goal.returns
returns g c =
    let p = program_of c.program-program.result in
    let last : c.args.number + 1 - 1 ≡ c.args.number = omega arith in
    ended_by c.args.side.now c.args.start.now (program_of c.program-program.result) g.M.Machine.form c.program-program.ensures c.requires.form c.args.number
    (found_of c.in_ok-ending.ending)
    (subst (λ (n : ℕ). found_of c.in_ok-ending.ending ≡ found p None (start_in p g.M.Machine.form (written_of c.args.start.now)) n) last c.in_ok-ending.ensures)
