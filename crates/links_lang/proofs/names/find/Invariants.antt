use Rattle.std.proofs.Common.{◌≡◌, map, drop}
use Rattle.notes_spec.specs.RvNames.{name_in}
use Rattle.links_lang.specs.Naming.{row_of}
use Rattle.links_lang.proofs.names.find.Given as goal

-- no row before names the word
abbrev pub invariant-loop-name : goal.invariant-loop-name
invariant-loop-name l = name_in (map row_of (drop l.name-index l.table)) l.word ≡ name_in (map row_of l.table) l.word
