use Rattle.command_line.specs.Commands.{options_of}
use Rattle.pair_sides.specs.Sides.{machine_in}
use Rattle.bilv_top.specs.Chosen.{IsMachineOf}
use Rattle.bilv_top.proofs.Founds.{found_over, found_readable, machine_order}
use Rattle.bilv_top.proofs.pair.sided.Goals as goal

pub returns-clause-sided : goal.returns-clause-sided
returns-clause-sided c =
    let m = machine_in c.layout.result in
    let file = c.args.image.now in
    let of : IsMachineOf file m = (options_of c.args.options, c.layout.ensures.machine) in
    record {
      options = options_of c.args.options;
      machine = c.layout.ensures.machine;
      order = machine_order file m of;
      bytes = c.bytes.ensures;
      readable = found_readable file c.args.found.now m of c.requires.found;
      over = found_over file c.args.found.now m of c.requires.found;
    }
