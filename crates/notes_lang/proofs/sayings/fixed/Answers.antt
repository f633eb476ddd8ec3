use Rattle.notes_lang.specs.Scoping.{scope_of}
use Rattle.notes_lang.specs.Reading.{tokens_view}
use Rattle.std.proofs.Common.{subst}
use Rattle.notes_lang.specs.Saying.{IsOne}
use Rattle.notes_lang.proofs.Lists.{same_rest}
use Rattle.notes_lang.proofs.Forms.{no_fixed}
use Rattle.notes_lang.proofs.sayings.fixed.Goals as goal

pub returns-in_default : goal.returns-in_default
returns-in_default c = no_fixed (scope_of c.args.scope) (tokens_view c.args.rest.now) (λ low high us is one. c.in_default.ensures.tells (low, us) is)

pub returns-in-None : goal.returns-in-None
returns-in-None c =
    no_fixed (scope_of c.args.scope) (tokens_view c.args.rest.now) (λ low high us begins one.
    c.in-None.ensures high (subst (λ us. IsOne (scope_of c.args.scope) us high)
    (same_rest (scope_of c.args.scope) (tokens_view c.args.rest.now) us (tokens_view c.in-Some.behind.now) low c.in-Some.low begins c.in-Some.ensures.tells)
    one))
