use Rattle.std.proofs.Common.{◌≡◌, drop}
use Rattle.std.specs.Str.{bytes_eq}
use Rattle.symbol_table.specs.Symbols.{name_of}
use Rattle.symbol_table.proofs.names.is_named.Given as goal

abbrev pub invariant-loop-i : goal.invariant-loop-i
invariant-loop-i l = bytes_eq (name_of l.text) l.name ≡ bytes_eq (name_of (drop l.i l.text)) (drop l.i l.name)
