use Rattle.std.proofs.Common.{arith}
use Rattle.elf32_reader.proofs.Least.{seen_all}
use Rattle.elf32_reader.proofs.symbols.least_addresses.Goals as goal

pub returns : goal.returns
returns c = seen_all c.args.narrow c.args.file.now c.args.name.now c.loop-i.i c.loop-i.found (omega arith) c.loop-i.invariant
