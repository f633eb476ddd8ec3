use Rattle.command_line.specs.Commands.{options_of}
use Rattle.bilv_top.proofs.Refused.{found_alone}
use Rattle.bilv_top.proofs.pair.find_program_of.Goals as goal

pub returns-in-Go : goal.returns-in-Go
returns-in-Go c =
    let found = rw c.in-Go.is at c.in_ok-found.ensures in
    (found.0, found_alone (options_of c.args.options) c.args.image.now c.in-Go.found found.1)
