use Rattle.std.proofs.Common.{ap}
use Rattle.line_tokens.specs.Tokens.{token_of}
use Rattle.notes_lang.specs.Reading.{tokens_view}
use Rattle.notes_lang.specs.Scoping.{scope_of}
use Rattle.notes_lang.proofs.Forms.{has_word, no_word}
use Rattle.notes_lang.proofs.faults.begins_badly.Goals as goal

pub returns-in-Some-line_word : goal.returns-in-Some-line_word
returns-in-Some-line_word c =
    has_word (scope_of c.args.scope) c.begins.result c.in-Some-line_word.word (token_of c.in-Some.first.now) _ _ (ap tokens_view c.in-Some.ensures.cases.0)
    c.in-Some-line_word.ensures.word c.begins.ensures

pub returns-in-None : goal.returns-in-None
returns-in-None c = no_word (scope_of c.args.scope) (token_of c.in-Some.first.now) _ _ (ap tokens_view c.in-Some.ensures.cases.0) c.in-None.ensures.none
