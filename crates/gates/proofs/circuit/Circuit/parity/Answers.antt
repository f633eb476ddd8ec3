use Rattle.gates.specs.Circuits.{bit_value}
use Rattle.gates.proofs.Folds.{parity_signs}
use Rattle.gates.proofs.circuit.Circuit.parity.Goals as goal

pub returns-clause-value : goal.returns-clause-value
returns-clause-value c = λ v h.
    rw (
      c.negated_if-3.ensures.value v,
      c.negated_if-2.ensures.value v,
      c.negated_if.ensures.value v,
      c.in_ok-bit.ensures.value v h,
      c.split-x_negated.ensures.value v,
      c.split-y_negated.ensures.value v,
      c.split-z_negated.ensures.value v,
    )
    (parity_signs (bit_value v c.split-x_negated.result.0) (bit_value v c.split-y_negated.result.0) (bit_value v c.split-z_negated.result.0) _ _ _)
