use Rattle.notes_lang.specs.Reading.{tokens_view}
use Rattle.notes_lang.specs.Saying.{says_of}
use Rattle.notes_lang.specs.Scoping.{scope_of}
use Rattle.notes_lang.proofs.Judged.{form_of, name_unknown, refusal_of, said_leniently}
use Rattle.notes_lang.proofs.faults.refusal.Goals as goal

pub returns-in_default-2 : goal.returns-in_default-2
returns-in_default-2 c = (
  form_of (scope_of c.args.scope) (scope_of c.loose.result) (tokens_view c.args.tokens.now) c.begins_badly.result c.in_ok-_says.field-0 c.in-Some._says
      c.begins_badly.ensures c.if-begins_badly.false c.loose.ensures c.in_ok-_says.ensures c.in-Some.is,
  name_unknown (scope_of c.args.scope) (scope_of c.lenient.result) (tokens_view c.args.tokens.now) c.in_ok-says.field-0 c.lenient.ensures c.in_ok-says.ensures
      c.in_default-2.is,
)

pub returns-in-Some-own_fault : goal.returns-in-Some-own_fault
returns-in-Some-own_fault c =
    refusal_of (scope_of c.args.scope) (tokens_view c.args.tokens.now)
    (form_of (scope_of c.args.scope) (scope_of c.loose.result) (tokens_view c.args.tokens.now) c.begins_badly.result c.in_ok-_says.field-0 c.in-Some._says
    c.begins_badly.ensures c.if-begins_badly.false c.loose.ensures c.in_ok-_says.ensures c.in-Some.is)
    (says_of c.in-Some-2.says)
    (said_leniently (scope_of c.args.scope) (scope_of c.lenient.result) (tokens_view c.args.tokens.now) c.in_ok-says.field-0 c.in-Some-2.says c.lenient.ensures
    c.in_ok-says.ensures c.in-Some-2.is)
    c.in-Some-own_fault.fault c.in-Some-own_fault.ensures

pub returns : goal.returns
returns c = (
  form_of (scope_of c.args.scope) (scope_of c.loose.result) (tokens_view c.args.tokens.now) c.begins_badly.result c.in_ok-_says.field-0 c.in-Some._says
      c.begins_badly.ensures c.if-begins_badly.false c.loose.ensures c.in_ok-_says.ensures c.in-Some.is,
  (
    says_of c.in-Some-2.says,
    said_leniently (scope_of c.args.scope) (scope_of c.lenient.result) (tokens_view c.args.tokens.now) c.in_ok-says.field-0 c.in-Some-2.says c.lenient.ensures
        c.in_ok-says.ensures c.in-Some-2.is,
    c.in-None.ensures,
  ),
)
