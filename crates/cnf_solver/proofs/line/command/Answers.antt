use Rattle.command_line.proofs.Made.{made_arg}
use Rattle.command_line.specs.Lines.{IsMade}
use Rattle.clap.specs.Words.{new_app}
use Rattle.std.proofs.Common.{codes}
use Rattle.cnf_solver.specs.Requests.{solve_app}
use Rattle.cnf_solver.proofs.line.command.Goals as goal

pub returns : goal.returns
unfolding solve_app
returns c =
    let bare : IsMade (new_app (codes "bilv_solve")) c.new.result = record { app = c.new.ensures.app; globals = c.new.ensures.local } in
    let first = made_arg bare c.in_ok-arg.ensures c.file.ensures.rule c.file.ensures.local in
    let second = made_arg first c.in_ok-arg-2.ensures c.conflicts.ensures.rule c.conflicts.ensures.local in
    made_arg second c.in_ok-command.ensures c.certificate.ensures.rule c.certificate.ensures.local
