-- Refutations over the bytes of the file that are asked.
use Rattle.std.proofs.Common.{◌≡◌, refl, sym, ◌∙◌, ℕ, Bool, true, false, List, Some, None}
use Rattle.std.specs.Prelude.{if◌then◌else◌, Contains}
use Rattle.clause_spec.specs.Refutation.{Proof}
use Rattle.clause_spec.proofs.RefutationSound.{refutation_sound}
use Rattle.machine_spec.specs.StateText.{Layout}
use Rattle.bilv_spec.specs.Run.{Program}
use Rattle.bilv_spec.specs.Points.{is_known_at, byte_of_cell}
use Rattle.bilv_spec.specs.Questions.{Reading, IsTrueOver}
use Rattle.bilv_spec.specs.Evidence.{Refutes}
use Rattle.call_spec.specs.Calls.{Question}
use Rattle.walk_spec.specs.Unrolled.{UnrolledProgram}
use Rattle.verdict.specs.Grounds.{IsGround, RefutesOver}
use Rattle.verdict.specs.Rounds.{AreAdded}

-- a byte that is known by a test is one where the test says so
known_test : (b : Bool) (x y : ℕ) → (if b then Some x else None) ≡ Some y → b ≡ true
known_test true x y h = refl
known_test false x y h = cc

-- what is added is known
pub asks : (p : Program) (k : ℕ) (layout : Layout) (u : UnrolledProgram) → IsGround p k layout u → (added : List ℕ) → AreAdded u added →
    (a : ℕ) → Contains added a → is_known_at p a ≡ true
asks p k layout u g added h a has =
    let known = h.known a has in
    known_test (is_known_at p a) (byte_of_cell (p.loaded a)) known.1.0 (sym (g.unrolling.known a known.0) ∙ known.1.1)

-- A refutation of a question is one over each set of known bytes over which no reading makes it true: its clauses are those of the question over these too.
pub refutes_over : (p : Program) (k : ℕ) (question : Question) (proof : Proof) → Refutes p k question proof → (asked : ℕ → Bool) →
    ((a : ℕ) → asked a ≡ true → is_known_at p a ≡ true) → ((r : Reading) → ¬ IsTrueOver p asked k r question) → RefutesOver p k question asked proof
refutes_over p k question proof h asked known none =
    let q = h.of_question in
    record {
      refutes = record {
        of_question = record {
          points = q.points;
          are_points = q.are_points;
          inputs = q.inputs;
          are_inputs = q.are_inputs;
          asked = asked;
          asks_known = known;
          address = q.address;
          decide = record { below = q.decide.below; by_earlier = q.decide.by_earlier; decides = λ r t is of same agrees first. absurd (none r is) };
          extends = record {
            over = q.extends.over;
            once = q.extends.once;
            only = λ v sat. absurd (refutation_sound proof.clauses.variables proof.clauses.clauses proof.log h.refutation v sat);
            where_true = λ v is. absurd (none is.0 is.2);
          };
          price = q.price;
          is_price = q.is_price;
          few_inputs = q.few_inputs;
          few_gates = q.few_gates;
        };
        refutation = h.refutation;
      };
      over = refl;
    }
