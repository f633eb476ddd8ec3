use Rattle.std.proofs.Common.{subst, arith}
use Rattle.notes_value.specs.Views.{expr_of}
use Rattle.unroller.specs.LineCosts.{HasParts}
use Rattle.unroller.proofs.Repeated.{joined_has, repeated_has}
use Rattle.unroller.proofs.costs.+parts_of.Goals as goal

pub returns-in-Binary : goal.returns-in-Binary
returns-in-Binary t c =
    rw (c.in-Binary.is, ← c.deref-in-Binary.ensures, ← c.deref-in-Binary-2.ensures)
    (joined_has c.in-Binary.op _ _ _ _ _ c.parts_of-in-Binary.ensures c.parts_of-in-Binary-2.ensures (rw (← c.product.ensures) c.joined.ensures))

pub returns-in-All : goal.returns-in-All
returns-in-All t c =
    rw c.in-All.is
    (repeated_has c.in-All.low c.in-All.high _ c.parts_of-in-All.result _ (expr_of c.in-All.inner.value) (omega (arith, c.saturating_sub.ensures))
    (omega (arith, c.saturating_sub.type_inv))
    (subst (λ z. HasParts c.parts_of-in-All.result (expr_of z)) c.deref-in-All.ensures c.parts_of-in-All.ensures) c.repeated.ensures)
