-- The symbols that the code holds.
use Rattle.std.specs.Prelude.{List, map}
use Rattle.symbol_table.specs.declared.symbol.Symbol.{Symbol}
use Rattle.symbol_table.specs.Symbols as symbols
use Rattle.symbol_table.specs.Symbols.{name_of}

-- the symbol whose name begins in front of a text
abbrev pub symbol_of : Symbol → symbols.Symbol
symbol_of s = record { name = name_of s.text.now; value = s.value; size = s.size }

abbrev pub table_of : List Symbol → List symbols.Symbol
table_of ss = map symbol_of ss
