-- What a name finds, symbol by symbol.
use Rattle.std.proofs.Common.{List, ◌∷◌, Option, Some, None}
use Rattle.symbol_table.specs.declared.symbol.Symbol.{Symbol}
use Rattle.symbol_table.specs.Symbols as symbols
use Rattle.symbol_table.specs.Views.{symbol_of}

-- the symbols of a name, the first of which may be known
abbrev pub behind_first : Option Symbol → List symbols.Symbol → List symbols.Symbol
behind_first None rest = rest
behind_first (Some s) rest = symbol_of s ∷ rest
