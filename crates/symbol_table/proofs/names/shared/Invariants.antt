use Rattle.std.proofs.Common.{◌≡◌, ◌+◌, drop}
use Rattle.symbol_table.specs.Symbols.{name_of, shared}
use Rattle.symbol_table.proofs.names.shared.Given as goal

abbrev pub invariant-loop-i : goal.invariant-loop-i
invariant-loop-i l = shared l.name (name_of l.text) ≡ l.i + shared (drop l.i l.name) (name_of (drop l.i l.text))
