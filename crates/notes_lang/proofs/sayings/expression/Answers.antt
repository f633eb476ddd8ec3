use Rattle.notes_lang.specs.Scoping.{scope_of}
use Rattle.notes_lang.proofs.Whole.{nothing_read, more_left, all_of_it, some_of, none_of}
use Rattle.notes_lang.proofs.sayings.expression.Goals as goal

pub returns-in_default : goal.returns-in_default
returns-in_default c = nothing_read (scope_of c.args.scope) _ c.in_ok-all.field-0 c.in_ok-all.ensures.read c.in_default.is

pub returns-then-not-is_empty : goal.returns-then-not-is_empty
returns-then-not-is_empty c =
    more_left (scope_of c.args.scope) _ c.in_ok-all.field-0 c.in-Some.all c.in_ok-all.ensures.read c.in-Some.is
    (some_of _ c.is_empty.result c.is_empty.ensures c.if-not-is_empty.true)

pub returns : goal.returns
returns c = all_of_it (scope_of c.args.scope) _ c.in_ok-all.field-0 c.in-Some.all c.in_ok-all.ensures.read c.in-Some.is
    (none_of _ c.is_empty.result c.is_empty.ensures c.if-not-is_empty.false)
