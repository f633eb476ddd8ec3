use Rattle.std.proofs.Common.{◌≡◌, ◌++◌}
use Rattle.symbol_table.specs.Symbols.{symbols_to}
use Rattle.symbol_table.specs.Views.{table_of}
use Rattle.symbol_table.proofs.reading.push_entries.Given as goal

abbrev pub invariant-loop-k : goal.invariant-loop-k
invariant-loop-k l = table_of l.out.items ≡ table_of l.initial.out.items ++ symbols_to l.file l.names l.start l.k
