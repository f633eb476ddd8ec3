use Rattle.std.proofs.Common.{sym, ap, ◌∙◌}
use Rattle.bilv_spec.specs.Elf.{is_kept}
use Rattle.elf32_reader.proofs.Tied.{loaded_none, kept_some}
use Rattle.elf32_reader.proofs.image.kept_of.Goals as goal

pub returns-in-None : goal.returns-in-None
returns-in-None c = sym (ap is_kept (loaded_none c.args.file.now c.args.found.now c.args.a c.requires c.in-None.ensures))

pub returns-in-Some : goal.returns-in-Some
returns-in-Some c = c.is_kept.ensures ∙ sym (kept_some c.args.file.now c.args.found.now c.args.a c.in-Some.h c.requires c.in-Some.ensures)
