use Rattle.std.proofs.Common.{◌≡◌, map, drop}
use Rattle.notes_spec.specs.Scopes.{const_of}
use Rattle.notes_lang.specs.Scoping.{constant_of}
use Rattle.notes_lang.proofs.scopes.const_number.Given as goal

-- no constant before has the word
abbrev pub invariant-loop-constant : goal.invariant-loop-constant
invariant-loop-constant l = const_of (map constant_of (drop l.constant-index l.consts)) l.word ≡ const_of (map constant_of l.consts) l.word
