use Rattle.notes_lang.specs.Scoping.{scope_of}
use Rattle.notes_lang.specs.Reading.{tokens_view}
use Rattle.notes_lang.proofs.Lists.{none_one}
use Rattle.notes_lang.proofs.sayings.one_number.Goals as goal

pub returns-in-None : goal.returns-in-None
returns-in-None c =
    none_one (scope_of c.args.scope) (tokens_view c.args.tokens.now) c.in-None.ensures.tells
