use Rattle.std.proofs.Common.{sym, ap}
use Rattle.bilv_spec.specs.Elf.{byte_in}
use Rattle.elf32_reader.proofs.Tied.{loaded_none, byte_in_file, byte_behind_file}
use Rattle.elf32_reader.proofs.image.byte_of.Goals as goal

pub returns-in-None : goal.returns-in-None
returns-in-None c = sym (ap byte_in (loaded_none c.args.file.now c.args.found.now c.args.a c.requires c.in-None.ensures))

pub returns-then-at-h : goal.returns-then-at-h
returns-then-at-h c = byte_in_file c.args.file.now c.args.found.now c.args.a c.in-Some.h c.requires c.in-Some.ensures c.if-at-h.true

pub returns-else-at-h : goal.returns-else-at-h
returns-else-at-h c = byte_behind_file c.args.file.now c.args.found.now c.args.a c.in-Some.h c.requires c.in-Some.ensures c.if-at-h.false
