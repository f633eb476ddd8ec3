use Rattle.std.proofs.Common.{◌≡◌, ◌++◌, drop}
use Rattle.model_text.specs.Stores.{last_of_each}
use Rattle.model_text.proofs.stores.last_of_each.Given as goal

abbrev pub invariant-loop-place : goal.invariant-loop-place
invariant-loop-place l = l.last.items ++ last_of_each (drop l.place l.stores) ≡ last_of_each l.stores
