use Rattle.std.proofs.Common.{◌≡◌, map, drop}
use Rattle.notes_spec.specs.RvNames.{name_in}
use Rattle.notes_lang.specs.Named.{named_of}
use Rattle.notes_lang.proofs.names.find.Given as goal

-- no row before names the word
abbrev pub invariant-loop-name : goal.invariant-loop-name
invariant-loop-name l = name_in (map named_of (drop l.name-index l.table)) l.word ≡ name_in (map named_of l.table) l.word
