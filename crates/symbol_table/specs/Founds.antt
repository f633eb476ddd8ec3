-- What the code answers for a name.
use Rattle.std.specs.Prelude.{ℕ, List}
use Rattle.std.specs.Option.{option_map}
use Rattle.symbol_table.specs.declared.table.Found.{Found}
use Rattle.symbol_table.specs.declared.table.Found.TheVariants.{Missing, One, Ambiguous}
use Rattle.symbol_table.specs.declared.labels.Label.{Label}
use Rattle.symbol_table.specs.Symbols as symbols

-- what was found
abbrev pub found_of : Found → symbols.Lookup
found_of (Missing near) = symbols.Missing (option_map (λ n. n.now) near)
found_of (One value size) = symbols.One value size
found_of Ambiguous = symbols.Ambiguous

-- the symbol that tells an address, by its name and its value
abbrev pub label_of : Label → List ℕ × ℕ
label_of l = (l.name.now, l.value)
