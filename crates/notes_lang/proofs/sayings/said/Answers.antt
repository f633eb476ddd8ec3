use Rattle.std.proofs.Common.{ap}
use Rattle.line_tokens.specs.Tokens.{token_of}
use Rattle.notes_lang.specs.Scoping.{scope_of}
use Rattle.notes_lang.specs.Reading.{tokens_view}
use Rattle.notes_lang.proofs.Forms.{not_said}
use Rattle.notes_lang.proofs.sayings.said.Goals as goal

pub returns-in_default-line_word : goal.returns-in_default-line_word
returns-in_default-line_word c =
    not_said (scope_of c.args.scope) (token_of c.in-Some.first.now) _ (tokens_view c.in-Some.rest.now)
    (ap tokens_view c.in-Some.ensures.cases.0) c.in_default-line_word.ensures.none
