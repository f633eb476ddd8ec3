use Rattle.clap.specs.Words.{new_app}
use Rattle.command_line.proofs.Made.{made_arg}
use Rattle.command_line.specs.Lines.{IsMade}
use Rattle.suite_line.proofs.program.over_files.Goals as goal

pub returns : goal.returns
returns c =
    let bare : IsMade (new_app c.args.name.now) c.new.result = record { app = c.new.ensures.app; globals = c.new.ensures.local } in
    let first = made_arg bare c.in_ok-arg.ensures c.file.ensures.rule c.file.ensures.local in
    let second = made_arg first c.in_ok-arg-2.ensures c.file-2.ensures.rule c.file-2.ensures.local in
    let third = made_arg second c.in_ok-arg-3.ensures c.arm.ensures.rule c.arm.ensures.local in
    made_arg third c.in_ok-command.ensures c.flag.ensures.rule c.flag.ensures.local
