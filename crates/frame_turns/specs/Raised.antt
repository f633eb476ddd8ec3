-- Refutations of questions of a frame within one bound on backward transfers as refutations of those within a greater one.
use Rattle.std.specs.Prelude.{ℕ, ◌≡◌, ◌≤◌, max, Bool, true, List, [], Contains, length}
use Rattle.clause_spec.specs.Refutation.{Proof}
use Rattle.bilv_spec.specs.PointLaws.{HasLawfulRows}
use Rattle.frame_spec.specs.Frames.{Contract, Frame}
use Rattle.frame_spec.specs.FramePoints.{IsPrice, has_heads}
use Rattle.frame_spec.specs.FrameQuestions.{Question, EntryQuestion, FailQuestion, StepQuestion, TurnQuestion}
use Rattle.frame_spec.specs.FrameReports.{Refutes}
use Rattle.frame_spec.specs.FrameWalk.{UnrolledProgram}
use Rattle.frame_spec.specs.FrameUnrolling.{IsUnrolling}
use Rattle.term_spec.specs.WalkQuestions.{is_asked}
use Rattle.frame_laws.specs.RunOfFrame.{AsksKnown}
use Rattle.frame_terms.specs.FrameCells.{Cells}
use Rattle.frame_terms.specs.FrameClauseForm.{input_list}
use Rattle.frame_terms.specs.FrameLayers.{IsFitting}
use Rattle.frame_turns.specs.Bounds.{SameAnchors, NeverTrue}

-- the price rises with the bound
abbrev pub FramePricesRise : Type 0
FramePricesRise = (f : Frame) (k m : ℕ) → k ≤ m → (low high : ℕ) → IsPrice f k low → IsPrice f m high → low ≤ high

-- a question that is refuted is true of no reading that has the bytes which the refutation asks
abbrev pub FrameRefutedNeverTrue : Type 0
FrameRefutedNeverTrue = (f : Frame) (k : ℕ) (question : Question) (proof : Proof) (h : Refutes f k question proof) →
    NeverTrue f h.of_question.asked k question

-- a question that is true of no reading with some bytes is true of none with more
abbrev pub NeverTrueOfMore : Type 0
NeverTrueOfMore = (f : Frame) (few many : ℕ → Bool) → ((a : ℕ) → few a ≡ true → many a ≡ true) → (k : ℕ) (question : Question) →
    NeverTrue f few k question → NeverTrue f many k question

-- more addresses ask more bytes
abbrev pub AskedOfMore : Type 0
AskedOfMore = (few many literals : List ℕ) → ((a : ℕ) → Contains few a → Contains many a) → (a : ℕ) → is_asked few literals a ≡ true →
    is_asked many literals a ≡ true

-- cells that read no byte
abbrev pub no_cells : Cells
no_cells = record { nodes = []; addresses = []; reads = []; agrees = []; asked = []; root = 0 }

-- How many inputs the questions of an unrolled frame have besides the bytes of base reads: the bits of registers and flags of the entry, of the head where the
-- frame has one, and of what contract steps are given, and those of choices.
abbrev pub free_inputs : UnrolledProgram → (heads : Bool) → ℕ
free_inputs u heads = length (input_list u heads no_cells)

-- the proof over at least so many variables, with the same clauses and the same log
abbrev pub over_variables : ℕ → Proof → Proof
over_variables n proof = record { clauses = record { variables = max proof.clauses.variables n; clauses = proof.clauses.clauses }; log = proof.log }

-- The unrolled frame of a frame for a bound, with what is had of its machine and its contracts.
pub record IsWhole (f : Frame) (contracts : List Contract) (k : ℕ) (u : UnrolledProgram) : Type 0 where
  pub lawful : HasLawfulRows f.program
  pub unrolling : IsUnrolling f contracts k u
  pub fitting : IsFitting u

-- A refutation of a question within a bound is one of the question within a greater bound, over at least as many variables as the frame that is unrolled for the
-- greater one has inputs besides bytes, where no reading with some known bytes makes the question of the greater bound true: then those inputs decide it.
abbrev pub FrameRefutationsMove : Type 0
FrameRefutationsMove = (f : Frame) (contracts : List Contract) (k m : ℕ) → k ≤ m → (question : Question) (proof : Proof) → Refutes f k question proof →
    (asked : ℕ → Bool) → AsksKnown f asked → NeverTrue f asked m question → (u : UnrolledProgram) → IsWhole f contracts m u →
    Refutes f m question (over_variables (free_inputs u (has_heads f)) proof)

-- What a refutation of a question needs for it to be one within a greater bound: the greater one has no more anchors, and no reading with the bytes makes one
-- backward transfer too many. The entry question has no bound.
abbrev pub NoneTurns : Frame → (asked : ℕ → Bool) → (k m : ℕ) → Question → Type 0
NoneTurns f asked k m EntryQuestion = Unit {0}
NoneTurns f asked k m FailQuestion = SameAnchors f k m × NeverTrue f asked k TurnQuestion
NoneTurns f asked k m StepQuestion = SameAnchors f k m × NeverTrue f asked k TurnQuestion
NoneTurns f asked k m TurnQuestion = SameAnchors f k m

-- So a refutation of a question rises with the bound where no reading with some known bytes makes the question within the smaller bound true.
abbrev pub FrameRefutationsRise : Type 0
FrameRefutationsRise = (f : Frame) (contracts : List Contract) (k m : ℕ) → k ≤ m → (question : Question) (proof : Proof) → Refutes f k question proof →
    (asked : ℕ → Bool) → AsksKnown f asked → NeverTrue f asked k question → NoneTurns f asked k m question → (u : UnrolledProgram) →
    IsWhole f contracts m u → Refutes f m question (over_variables (free_inputs u (has_heads f)) proof)
