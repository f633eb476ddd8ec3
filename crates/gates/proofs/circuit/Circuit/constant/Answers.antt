use Rattle.std.proofs.Common.{sym, ◌∙◌, ap, not}
use Rattle.gates.proofs.Netlists.{one_value}
use Rattle.gates.proofs.circuit.Circuit.constant.Goals as goal

pub returns-then-value-clause-value : goal.returns-then-value-clause-value
returns-then-value-clause-value c = rw (← c.self.view_is) (λ v h. c.new-one.ensures.value v ∙ (one_value v _ _ h ∙ sym c.if-value.true))

pub returns-else-value-clause-value : goal.returns-else-value-clause-value
returns-else-value-clause-value c =
    rw (← c.self.view_is) (λ v h. c.negation.ensures.value v ∙ (ap not (c.new-one.ensures.value v ∙ one_value v _ _ h) ∙ sym c.if-value.false))
