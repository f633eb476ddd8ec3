use Rattle.std.proofs.Common.{sym, ap}
use Rattle.bilv_spec.specs.Elf.{flags_in}
use Rattle.elf32_reader.proofs.Tied.{loaded_none, flags_some}
use Rattle.elf32_reader.proofs.image.flags_of.Goals as goal

pub returns-in-None : goal.returns-in-None
returns-in-None c = sym (ap flags_in (loaded_none c.args.file.now c.args.found.now c.args.a c.requires c.in-None.ensures))

pub returns-in-Some : goal.returns-in-Some
returns-in-Some c = sym (flags_some c.args.file.now c.args.found.now c.args.a c.in-Some.h c.requires c.in-Some.ensures)
