use Rattle.notes_lang.specs.Scoping.{scope_of}
use Rattle.notes_lang.specs.Reading.{tokens_view}
use Rattle.notes_lang.proofs.Lists.{counted, counts_no_number, counts_no_value, counts_nothing, good_ends, told_expression, told_no_expression}
use Rattle.notes_lang.proofs.sayings.expression_and_number.Goals as goal

pub returns-in_default : goal.returns-in_default
returns-in_default c = counts_nothing (scope_of c.args.scope) c.args.tokens.now c.in_default.ensures.cases

pub number-requires : goal.number-requires
number-requires c = (good_ends c.args.tokens.now c.in-Some.before.now c.in-Some.last.now c.requires c.in-Some.ensures.cases.0).1

pub expression-requires : goal.expression-requires
expression-requires c = (good_ends c.args.tokens.now c.in-Some.before.now c.in-Some.last.now c.requires c.in-Some.ensures.cases.0).0

pub returns-in_default-number : goal.returns-in_default-number
returns-in_default-number c =
    counts_no_number (scope_of c.args.scope) c.args.tokens.now c.in-Some.before.now c.in-Some.last.now c.in-Some.ensures.cases.0 c.in_default-number.ensures

pub returns-in_default-2 : goal.returns-in_default-2
returns-in_default-2 c =
    counts_no_value (scope_of c.args.scope) c.args.tokens.now c.in-Some.before.now c.in-Some.last.now c.in-Some.ensures.cases.0
    (told_no_expression (scope_of c.args.scope) (tokens_view c.in-Some.before.now) c.in_ok-says.field-0 c.in_ok-says.ensures c.in_default-2.is)

pub returns : goal.returns
returns c =
    counted (scope_of c.args.scope) c.args.tokens.now c.in-Some.before.now c.in-Some.last.now _ _ c.in-Some.ensures.cases.0 c.in-Some-number.ensures
    (told_expression (scope_of c.args.scope) (tokens_view c.in-Some.before.now) c.in_ok-says.field-0 c.in-Some-2.says c.in_ok-says.ensures c.in-Some-2.is)
