use Rattle.std.proofs.Common.{◌≡◌, drop}
use Rattle.std.specs.Option.{option_map}
use Rattle.symbol_table.specs.Labels.{label_at, nearest_from}
use Rattle.symbol_table.specs.Views.{symbol_of, table_of}
use Rattle.symbol_table.proofs.labels.nearest_below.Given as goal

abbrev pub invariant-loop-symbol : goal.invariant-loop-symbol
invariant-loop-symbol l =
    label_at l.address (table_of l.symbols) ≡ nearest_from l.address (option_map symbol_of l.found) (table_of (drop l.symbol-index l.symbols))
