use Rattle.std.proofs.Common.{◌≡◌, max, drop}
use Rattle.symbol_table.specs.Symbols.{most_shared}
use Rattle.symbol_table.specs.Views.{table_of}
use Rattle.symbol_table.proofs.table.most_shared.Given as goal

abbrev pub invariant-loop-symbol : goal.invariant-loop-symbol
invariant-loop-symbol l = most_shared l.name (table_of l.symbols) ≡ max l.most (most_shared l.name (table_of (drop l.symbol-index l.symbols)))
