use Rattle.std.proofs.Common.{sym, arith}
use Rattle.model_text.proofs.Stored.{last_here}
use Rattle.model_text.proofs.stores.is_last.Goals as goal

pub returns-then-place-stores : goal.returns-then-place-stores
returns-then-place-stores c = sym (last_here c.args.stores.now c.args.place (omega arith) (omega arith))
