use Rattle.std.proofs.Common.{take}
use Rattle.notes_spec.specs.NotesGrammar.{AreNumbers}
use Rattle.notes_lang.specs.Reading.{tokens_view}
use Rattle.notes_lang.specs.Scoping.{scope_of}
use Rattle.notes_lang.proofs.sayings.numbers.Given as goal

-- the tokens so far are the numbers so far
abbrev pub invariant-loop-token : goal.invariant-loop-token
invariant-loop-token l = AreNumbers (scope_of l.scope) (tokens_view (take l.token-index l.tokens)) l.numbers.items
