use Rattle.std.proofs.Common.{ℕ, List, subst, arith}
use Rattle.std.specs.Prelude.{Contains, ◌↔◌}
use Rattle.unroller.proofs.Addressed.{addresses_all}
use Rattle.unroller.proofs.keys.addresses.Goals as goal

pub returns-clause-same : goal.returns-clause-same
returns-clause-same c =
    subst (λ (l : List ℕ). (x : ℕ) → Contains l x ↔ Contains c.in_ok-ordered.ordered.items x)
    (addresses_all c.args.contract c.args.keys.now c.loop-key.key-index c.loop-key.found.items (omega arith) c.loop-key.invariant.found)
    c.in_ok-ordered.ensures.same
