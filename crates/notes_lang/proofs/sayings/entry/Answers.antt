use Rattle.notes_lang.specs.Scoping.{scope_of}
use Rattle.notes_lang.specs.Reading.{tokens_view}
use Rattle.notes_lang.proofs.Forms.{no_entry}
use Rattle.notes_lang.proofs.sayings.entry.Goals as goal

pub returns-in-None : goal.returns-in-None
returns-in-None c =
    no_entry (scope_of c.args.scope) (tokens_view c.args.rest.now) c.in-None.ensures
