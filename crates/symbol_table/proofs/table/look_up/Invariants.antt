use Rattle.std.proofs.Common.{◌≡◌, drop}
use Rattle.symbol_table.specs.Symbols.{named, nearest, said}
use Rattle.symbol_table.specs.Views.{table_of}
use Rattle.symbol_table.proofs.Finding.{behind_first}
use Rattle.symbol_table.proofs.table.look_up.Given as goal

abbrev pub invariant-loop-symbol : goal.invariant-loop-symbol
invariant-loop-symbol l =
    said (nearest l.name (table_of l.symbols)) (named l.name (table_of l.symbols))
    ≡ said (nearest l.name (table_of l.symbols)) (behind_first l.first (named l.name (table_of (drop l.symbol-index l.symbols))))
