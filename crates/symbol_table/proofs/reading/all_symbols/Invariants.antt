use Rattle.std.proofs.Common.{◌≡◌}
use Rattle.symbol_table.specs.Symbols.{sections_to}
use Rattle.symbol_table.specs.Views.{table_of}
use Rattle.symbol_table.proofs.reading.all_symbols.Given as goal

abbrev pub invariant-loop-i : goal.invariant-loop-i
invariant-loop-i l = table_of l.out.items ≡ sections_to l.file l.i
