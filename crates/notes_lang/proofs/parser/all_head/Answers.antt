use Rattle.std.proofs.Common.{ap}
use Rattle.line_tokens.specs.Tokens.{token_of}
use Rattle.notes_lang.specs.Scoping.{scope_of}
use Rattle.notes_lang.proofs.Steps.{no_bracket, a_head, head_rest}
use Rattle.notes_lang.proofs.parser.all_head.Goals as goal

pub returns-in-None-clause-head : goal.returns-in-None-clause-head
returns-in-None-clause-head c =
    no_bracket (scope_of c.args.scope) c.in_ok-first.first.now c.in_ok-second.second.now c.in_ok-third.third.now c.args.tokens.now c.in_ok-first.behind.now
    c.in_ok-second.behind.now c.in_ok-third.behind.now c.in-Name.word.now c.in_ok-low.low c.in_ok-high.high c.may_bind.result c.in_ok-first.ensures.cases.0
    (ap token_of c.in-Name.is) c.in_ok-second.ensures.cases.0 c.in_ok-third.ensures.cases.0 c.in_ok-low.ensures c.in_ok-high.ensures c.may_bind.ensures
    c.if-not-may_bind.false c.in-None.ensures.found

pub returns-in-Some-clause-head : goal.returns-in-Some-clause-head
returns-in-Some-clause-head c =
    a_head (scope_of c.args.scope) c.in_ok-first.first.now c.in_ok-second.second.now c.in_ok-third.third.now c.args.tokens.now c.in_ok-first.behind.now
    c.in_ok-second.behind.now c.in_ok-third.behind.now c.in-Some.rest.now c.in-Name.word.now c.in_ok-low.low c.in_ok-high.high c.may_bind.result
    c.in_ok-first.ensures.cases.0 (ap token_of c.in-Name.is) c.in_ok-second.ensures.cases.0 c.in_ok-third.ensures.cases.0 c.in_ok-low.ensures
    c.in_ok-high.ensures c.may_bind.ensures c.if-not-may_bind.false c.in-Some.ensures.found c.in-Some.ensures.rest

pub returns-in-Some-clause-rest : goal.returns-in-Some-clause-rest
returns-in-Some-clause-rest c =
    head_rest c.in_ok-first.first.now c.in_ok-second.second.now c.in_ok-third.third.now c.args.tokens.now c.in_ok-first.behind.now
    c.in_ok-second.behind.now c.in_ok-third.behind.now c.in-Some.rest.now c.requires c.in_ok-first.ensures.cases.0 c.in_ok-second.ensures.cases.0
    c.in_ok-third.ensures.cases.0 c.in-Some.ensures.rest
