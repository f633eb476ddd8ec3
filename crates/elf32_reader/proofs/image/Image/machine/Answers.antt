use Rattle.std.proofs.Common.{arith}
use Rattle.bilv_spec.specs.ElfFaults.{ShortFile}
use Rattle.elf32_reader.proofs.Tied.{long_enough}
use Rattle.elf32_reader.proofs.image.Image.machine.Goals as goal

pub half-requires-clause-order : goal.half-requires-clause-order
half-requires-clause-order c = let long = long_enough c.self.inside.file.now (c.self.invariant.image ShortFile) in omega arith

pub half-requires-clause-room : goal.half-requires-clause-room
half-requires-clause-room c = let long = long_enough c.self.inside.file.now (c.self.invariant.image ShortFile) in omega arith
