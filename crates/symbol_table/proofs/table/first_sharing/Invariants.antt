use Rattle.std.proofs.Common.{◌≡◌, drop}
use Rattle.std.specs.Prelude.{◌==◌, find}
use Rattle.symbol_table.specs.Symbols.{shared}
use Rattle.symbol_table.specs.Views.{table_of}
use Rattle.symbol_table.proofs.table.first_sharing.Given as goal

abbrev pub invariant-loop-symbol : goal.invariant-loop-symbol
invariant-loop-symbol l =
    find (λ s. shared l.name s.name == l.most) (table_of l.symbols) ≡ find (λ s. shared l.name s.name == l.most) (table_of (drop l.symbol-index l.symbols))
