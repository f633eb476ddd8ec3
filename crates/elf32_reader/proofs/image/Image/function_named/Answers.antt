use Rattle.bilv_spec.specs.ElfFaults.{ShortFile, BadSymbolTable}
use Rattle.elf32_reader.proofs.Tied.{long_enough}
use Rattle.elf32_reader.proofs.image.Image.function_named.Goals as goal

pub find_function-requires-clause-order : goal.find_function-requires-clause-order
find_function-requires-clause-order c = long_enough c.self.inside.file.now (c.self.invariant.image ShortFile)

pub find_function-requires-clause-accepted : goal.find_function-requires-clause-accepted
find_function-requires-clause-accepted c = c.self.invariant.image BadSymbolTable
