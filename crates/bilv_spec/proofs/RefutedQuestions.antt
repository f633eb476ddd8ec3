-- A question that is refuted is true of no reading.
use Rattle.std.proofs.Common.{ℕ, zero, suc, Bool, false, List, Option, Some, None, ap, add-one}
use Rattle.std.specs.Prelude.{slice_get}
use Rattle.bilv_spec.specs.Run.{Program}
use Rattle.bilv_spec.specs.Questions.{Reading, IsTrueOver, IsSatisfiable}
use Rattle.call_spec.specs.Calls.{Question}
use Rattle.bilv_spec.specs.Evidence.{Input, Addresses, input_value, ComesFrom, Refutes}
use Rattle.clause_spec.specs.Refutation.{Proof}
use Rattle.bilv_spec.proofs.AskedBytes.{true_over}
use Rattle.clause_spec.proofs.RefutationSound.{refutation_sound}

abbrev value_if : Addresses → Reading → Option Input → Bool
value_if address r None = false
value_if address r (Some x) = input_value address r x

-- the valuation that has the reading's values of the inputs
abbrev values : List Input → Addresses → Reading → ℕ → Bool
values inputs address r zero = false
values inputs address r (suc i) = value_if address r (slice_get inputs i)

comes : (inputs : List Input) (address : Addresses) (r : Reading) → ComesFrom inputs address (values inputs address r) r
comes inputs address r i x h = rw (add-one) (ap (value_if address r) h)

-- a question that is refuted over some bytes of the file is true of no reading that has those
pub refuted_over : (p : Program) (k : ℕ) (question : Question) (proof : Proof) (h : Refutes p k question proof) (r : Reading) →
    ¬ IsTrueOver p h.of_question.asked k r question
refuted_over p k question proof h r t =
    let q = h.of_question in
    let v = q.extends.where_true (values q.inputs q.address r) (r, comes q.inputs q.address r, t) in
    refutation_sound proof.clauses.variables proof.clauses.clauses proof.log h.refutation v.0 v.2

pub refuted_is_false : (p : Program) (k : ℕ) (question : Question) (proof : Proof) → Refutes p k question proof → ¬ IsSatisfiable p k question
refuted_is_false p k question proof h s =
    refuted_over p k question proof h s.0 (true_over p h.of_question.asked k s.0 question h.of_question.asks_known s.1)
