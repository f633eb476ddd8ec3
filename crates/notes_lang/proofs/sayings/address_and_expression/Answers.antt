use Rattle.notes_lang.specs.Scoping.{scope_of}
use Rattle.notes_lang.specs.Reading.{tokens_view}
use Rattle.notes_lang.proofs.Lists.{no_address, no_value_behind, an_address}
use Rattle.notes_lang.proofs.sayings.address_and_expression.Goals as goal

pub returns-in_default : goal.returns-in_default
returns-in_default c = no_address (scope_of c.args.scope) (tokens_view c.args.tokens.now) c.in_default.ensures.tells

pub returns-in_default-2 : goal.returns-in_default-2
returns-in_default-2 c =
    no_value_behind (scope_of c.args.scope) (tokens_view c.args.tokens.now) (tokens_view c.in-Some.behind.now) c.in-Some.at c.in_ok-says.field-0
    c.in-Some.ensures.tells c.in_ok-says.ensures c.in_default-2.is

pub returns : goal.returns
returns c =
    an_address (scope_of c.args.scope) (tokens_view c.args.tokens.now) (tokens_view c.in-Some.behind.now) c.in-Some.at c.in_ok-says.field-0 c.in-Some-2.says
    c.in-Some.ensures.tells c.in_ok-says.ensures c.in-Some-2.is
