use Rattle.notes_lang.specs.Scoping.{scope_of}
use Rattle.notes_lang.specs.Reading.{tokens_view}
use Rattle.std.proofs.Common.{subst}
use Rattle.notes_lang.specs.Saying.{IsCounted}
use Rattle.notes_lang.proofs.Lists.{a_write_line, count_told, no_count_told, same_rest}
use Rattle.notes_lang.proofs.Forms.{no_writes}
use Rattle.notes_lang.proofs.sayings.writes.Goals as goal

pub returns-in_default : goal.returns-in_default
returns-in_default c = no_writes (scope_of c.args.scope) (tokens_view c.args.rest.now) (λ n us p begins counts. c.in_default.ensures.tells (n, us) begins)

pub returns-in_default-2 : goal.returns-in_default-2
returns-in_default-2 c =
    no_writes (scope_of c.args.scope) (tokens_view c.args.rest.now) (λ n us p begins counts.
    no_count_told (scope_of c.args.scope) (tokens_view c.in-Some.behind.now) c.in_ok-told.field-0 c.in_ok-told.ensures c.in_default-2.is p
    (subst (λ us. IsCounted (scope_of c.args.scope) us p)
    (same_rest (scope_of c.args.scope) (tokens_view c.args.rest.now) us (tokens_view c.in-Some.behind.now) n c.in-Some.at begins c.in-Some.ensures.tells)
    counts))

pub returns : goal.returns
returns c =
    a_write_line (scope_of c.args.scope) (tokens_view c.args.rest.now) (tokens_view c.in-Some.behind.now) c.in-Some.at _ _ c.in-Some.ensures.tells
    (count_told (scope_of c.args.scope) (tokens_view c.in-Some.behind.now) c.in_ok-told.field-0 c.in-Some-2.told c.in_ok-told.ensures c.in-Some-2.is)
    c.requires.framed
