use Rattle.std.proofs.Common.{arith}
use Rattle.bilv_spec.specs.ElfFaults.{ShortFile}
use Rattle.elf32_reader.proofs.Tied.{long_enough}
use Rattle.elf32_reader.proofs.image.Image.big.Goals as goal

pub bounds-self-inside-5 : goal.bounds-self-inside-5
bounds-self-inside-5 c = let long = long_enough c.self.inside.file.now (c.self.invariant.image ShortFile) in omega arith
