use Rattle.bilv_spec.specs.ElfFaults.{ShortFile, BadSymbolTable}
use Rattle.elf32_reader.proofs.Tied.{long_enough}
use Rattle.symbol_table.proofs.reading.read_symbols.Goals as goal

pub all_symbols-requires-clause-order : goal.all_symbols-requires-clause-order
all_symbols-requires-clause-order c = long_enough c.args.file.now (c.in_ok-_image.ensures.accepted ShortFile)

pub all_symbols-requires-clause-accepted : goal.all_symbols-requires-clause-accepted
all_symbols-requires-clause-accepted c = c.in_ok-_image.ensures.accepted BadSymbolTable
