use Rattle.std.proofs.Common.{map, take}
use Rattle.notes_spec.specs.NotesGrammar.{AreChanged}
use Rattle.notes_lang.specs.Reading.{tokens_view}
use Rattle.notes_lang.specs.Scoping.{changed_of, scope_of}
use Rattle.notes_lang.proofs.sayings.changes.Given as goal

-- the tokens so far are the registers and flags so far
abbrev pub invariant-loop-token : goal.invariant-loop-token
invariant-loop-token l = AreChanged (scope_of l.scope) (tokens_view (take l.token-index l.tokens)) (map changed_of l.changes.items)
