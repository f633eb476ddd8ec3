-- A question of a frame that is refuted is true of no reading.
use Rattle.std.proofs.Common.{ℕ, zero, suc, Bool, false, List, Option, Some, None, ap, add-one}
use Rattle.std.specs.Prelude.{◌==◌, slice_get}
use Rattle.clause_spec.specs.Refutation.{Proof}
use Rattle.clause_spec.proofs.RefutationSound.{refutation_sound}
use Rattle.frame_spec.specs.Frames.{Frame}
use Rattle.frame_spec.specs.FrameQuestions.{Reading, Input, Addresses, Question, IsTrue, IsTrueOver, IsSatisfiable, input_value}
use Rattle.frame_spec.specs.FrameReports.{ComesFrom, Refutes}

abbrev value_if : Addresses → Reading → Option Input → Bool
value_if address r None = false
value_if address r (Some x) = input_value address r x == 1

-- the valuation that has the reading's values of the inputs
abbrev values : List Input → Addresses → Reading → ℕ → Bool
values inputs address r zero = false
values inputs address r (suc i) = value_if address r (slice_get inputs i)

comes : (inputs : List Input) (address : Addresses) (r : Reading) → ComesFrom inputs address (values inputs address r) r
comes inputs address r i x h = rw (add-one) (ap (value_if address r) h)

-- a question that is true of a reading is true over each set of known bytes
true_over : (f : Frame) (k : ℕ) (question : Question) (proof : Proof) (h : Refutes f k question proof) (r : Reading) → IsTrue f k r question →
    IsTrueOver f h.of_question.asked k r question
true_over f k question proof h r t = record {
  reading = t.reading;
  entry = record {
    state = t.entry.state;
    pc = t.entry.pc;
    link = t.entry.link;
    bytes = λ a c low at is. t.entry.bytes a c low at (h.of_question.asks_known a is);
    requires = t.entry.requires;
  };
  head = λ heads speaks a c low at is asked. t.head heads speaks a c low at is (h.of_question.asks_known a asked);
  ends = t.ends;
}

pub refuted_is_false : (f : Frame) (k : ℕ) (question : Question) (proof : Proof) → Refutes f k question proof → ¬ IsSatisfiable f k question
refuted_is_false f k question proof h s =
    let q = h.of_question in
    let v = q.extends.where_true (values q.inputs q.address s.0) (s.0, comes q.inputs q.address s.0, true_over f k question proof h s.0 s.1) in
    refutation_sound proof.clauses.variables proof.clauses.clauses proof.log h.refutation v.0 v.2
