-- Refutations of questions within one bound on backward transfers as refutations of those within a greater one.
use Rattle.std.specs.Prelude.{ℕ, ◌≡◌, ◌≤◌, nat_le, max, Bool, true, List, filter}
use Rattle.clause_spec.specs.Refutation.{Proof}
use Rattle.bilv_spec.specs.Run.{Program}
use Rattle.bilv_spec.specs.Points.{Point, IsPoint, ArePoints, IsPrice}
use Rattle.bilv_spec.specs.Questions.{Reading, IsTrueOver}
use Rattle.bilv_spec.specs.Evidence.{Refutes}
use Rattle.call_spec.specs.Calls.{Question, EntryQuestion, FailQuestion, TurnQuestion}
use Rattle.walk_spec.specs.Unrolled.{UnrolledProgram}
use Rattle.walk_spec.specs.Unrolling.{IsUnrolling}
use Rattle.term_spec.specs.ClauseForm.{first_byte}
use Rattle.walk_laws.specs.Layers.{IsFitting}

-- the points within a bound are points within a greater one
abbrev pub PointsRise : Type 0
PointsRise = (p : Program) (k m : ℕ) → k ≤ m → (point : Point) → IsPoint p k point → IsPoint p m point

-- and those of them that are behind at most so many backward transfers are the points within the smaller bound
abbrev pub PointsFall : Type 0
PointsFall = (p : Program) (k m : ℕ) → k ≤ m → (points : List Point) → ArePoints p m points → ArePoints p k (filter (λ q. nat_le q.turns k) points)

-- so the price rises with the bound
abbrev pub PricesRise : Type 0
PricesRise = (p : Program) (k m : ℕ) → k ≤ m → (low high : ℕ) → IsPrice p k low → IsPrice p m high → low ≤ high

-- What a refutation of a question needs for it to be one within every greater bound: where it is the fail question's, no reading over the asked bytes makes one
-- backward transfer too many. A refutation of the turn question says that itself, and the entry question has no bound.
abbrev pub NoneTurns : Program → (asked : ℕ → Bool) → ℕ → Question → Type 0
NoneTurns p asked k EntryQuestion = Unit {0}
NoneTurns p asked k FailQuestion = (r : Reading) → ¬ IsTrueOver p asked k r TurnQuestion
NoneTurns p asked k TurnQuestion = Unit {0}

-- the proof over at least so many variables, with the same clauses and the same log
abbrev pub over_variables : ℕ → Proof → Proof
over_variables n proof = record { clauses = record { variables = max proof.clauses.variables n; clauses = proof.clauses.clauses }; log = proof.log }

-- A refutation of a question within a bound is one of the question within a greater bound, over at least as many variables as the program that is unrolled for
-- the greater one has bits of registers, flags and choices: no reading makes the question true, so those decide it without a byte of memory.
abbrev pub RefutationsRise : Type 0
RefutationsRise = (p : Program) (k m : ℕ) → k ≤ m → (question : Question) (proof : Proof) (h : Refutes p k question proof) →
    NoneTurns p h.of_question.asked k question → (u : UnrolledProgram) → IsUnrolling p m u → IsFitting u →
    Refutes p m question (over_variables (first_byte u) proof)

-- Refutations of the turn and of the fail question within a bound, of which the latter asks each byte that the former asks, are ones of the questions within a
-- greater bound: a reading that the fail question is over has the bytes that the turn question asks, so it does not make one backward transfer too many.
abbrev pub BothRise : Type 0
BothRise = (p : Program) (k m : ℕ) → k ≤ m → (turn fail : Proof) (t : Refutes p k TurnQuestion turn) (f : Refutes p k FailQuestion fail) →
    ((a : ℕ) → t.of_question.asked a ≡ true → f.of_question.asked a ≡ true) → (u : UnrolledProgram) → IsUnrolling p m u → IsFitting u →
    Refutes p m FailQuestion (over_variables (first_byte u) fail) × Refutes p m TurnQuestion (over_variables (first_byte u) turn)
