use Rattle.std.proofs.Common.{◌≡◌, ℕ, ◌<◌, get_or}
use Rattle.weakest_pre.specs.Known.{nothing}
use Rattle.weakest_pre.proofs.facts.Facts.are_none.Given as goal

abbrev pub invariant-loop-known : goal.invariant-loop-known
invariant-loop-known l = (r : ℕ) → r < l.known-index → get_or l.self.registers.items r nothing ≡ nothing
