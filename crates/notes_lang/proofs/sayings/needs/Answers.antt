use Rattle.std.proofs.Common.{codes}
use Rattle.notes_lang.specs.Scoping.{scope_of}
use Rattle.notes_lang.specs.Reading.{tokens_view}
use Rattle.notes_lang.proofs.Lists.{addressed, unaddressed}
use Rattle.notes_lang.proofs.Forms.{behind_address, no_needs}
use Rattle.notes_lang.proofs.sayings.needs.Goals as goal

pub returns-in_default : goal.returns-in_default
returns-in_default c =
    no_needs (scope_of c.args.scope) (tokens_view c.args.rest.now)
    (unaddressed (scope_of c.args.scope) (tokens_view c.args.rest.now) c.in_ok-told.field-0 c.in_ok-told.ensures c.in_default.is)

pub returns : goal.returns
returns c = (
  behind_address (scope_of c.args.scope) (codes "needs") (tokens_view c.args.rest.now) _ _
      (addressed (scope_of c.args.scope) (tokens_view c.args.rest.now) c.in_ok-told.field-0 c.in-Some.told c.in_ok-told.ensures c.in-Some.is),
  c.requires.framed,
)
