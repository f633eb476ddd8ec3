use Rattle.elf32_reader.proofs.Portions.{beyond}
use Rattle.elf32_reader.proofs.image.ends_of.Goals as goal

pub returns : goal.returns
returns c x = beyond c.args.file.now c.args.found.now x c.requires
