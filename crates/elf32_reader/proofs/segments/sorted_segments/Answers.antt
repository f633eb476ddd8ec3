use Rattle.elf32_reader.proofs.Tied.{listed}
use Rattle.elf32_reader.proofs.segments.sorted_segments.Goals as goal

pub returns : goal.returns
returns c = listed c.args.file.now c.in_ok-read.read.items c.in_ok-found.found.items c.in_ok-read.ensures c.in_ok-found.ensures.moved
    c.in_ok-found.ensures.rising
