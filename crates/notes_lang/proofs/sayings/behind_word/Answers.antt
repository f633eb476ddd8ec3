use Rattle.notes_lang.specs.Scoping.{scope_of}
use Rattle.notes_lang.proofs.sayings.behind_word.Goals as goal

pub returns-in-Function : goal.returns-in-Function
returns-in-Function c = rw c.in-Function.is (c.function.ensures (scope_of c.args.scope))
