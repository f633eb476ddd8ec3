use Rattle.notes_lang.specs.Scoping.{scope_of}
use Rattle.notes_lang.specs.Reading.{tokens_view}
use Rattle.notes_lang.proofs.Forms.{no_const}
use Rattle.notes_lang.proofs.sayings.constant.Goals as goal

pub returns-in-None : goal.returns-in-None
returns-in-None c =
    no_const (scope_of c.args.scope) (tokens_view c.args.rest.now) (λ w v is second. c.in-None.ensures (w, v) is)
