use Rattle.std.proofs.Common.{arith}
use Rattle.elf32_reader.proofs.image.bytes_of.Goals as goal

pub returns : goal.returns
returns c i = omega (arith, c.type_inv.file i)
