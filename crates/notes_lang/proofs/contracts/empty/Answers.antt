use Rattle.std.proofs.Common.{refl}
use Rattle.notes_lang.proofs.Contracted.{empty_is}
use Rattle.notes_lang.proofs.contracts.empty.Goals as goal

pub returns-clause-none : goal.returns-clause-none
returns-clause-none c earlier none = empty_is earlier _ c.new.ensures.items c.new-2.ensures.items c.new-3.ensures.items refl refl none
