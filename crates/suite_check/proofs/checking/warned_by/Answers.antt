use Rattle.command_line.specs.Commands.{options_of}
use Rattle.program_value.specs.Programs.{program_of}
use Rattle.suite_check.proofs.Founds.{warned_whole}
use Rattle.suite_check.proofs.checking.warned_by.Goals as goal

pub program_on-program-requires-clause-machine : goal.program_on-program-requires-clause-machine
program_on-program-requires-clause-machine g c = (options_of c.args.options, c.requires.machine)

pub returns : goal.returns
returns g c =
    warned_whole c.args.options.compressed c.args.file.now c.args.image.now (options_of c.args.options) g.M.Machine.machine (program_of c.program_on-program.result)
    c.args.framed.now c.as_slice-invariants.result.now c.as_slice-contracts.result.now c.in_ok-found.found.items c.as_slice-invariants.ensures.value
    c.as_slice-contracts.ensures.value c.program_on-program.ensures c.requires.machine c.in_ok-found.ensures
