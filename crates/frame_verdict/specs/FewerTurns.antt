-- What the questions of a frame within a smaller bound on backward transfers come to for the budget's bound.
use Rattle.std.specs.Prelude.{ℕ, ◌≡◌, ◌≤◌, List, length}
use Rattle.call_spec.specs.Calls.{Budget}
use Rattle.machine_spec.specs.StateText.{Layout}
use Rattle.term_spec.specs.WalkQuestions.{is_asked}
use Rattle.frame_spec.specs.Frames.{Contract, Frame}
use Rattle.frame_spec.specs.FramePoints.{has_heads}
use Rattle.frame_spec.specs.FrameQuestions.{Question, FailQuestion, TurnQuestion}
use Rattle.frame_spec.specs.FrameReports.{Refutes}
use Rattle.frame_spec.specs.FrameVerdict.{Whole}
use Rattle.frame_turns.specs.Bounds.{NeverTrue}
use Rattle.frame_turns.specs.Raised.{free_inputs}
use Rattle.cnf_form.specs.Views.{proof_of}
use Rattle.cnf_form.specs.declared.form.Proof.{Proof}
use Rattle.question_form.specs.FrameViews.{frame_unrolled_of}
use Rattle.question_form.specs.declared.unrolled.Unrolled.{Unrolled}
use Rattle.frame_rounds.specs.FrameGrounds.{AreSegments, IsFrameGround}
use Rattle.frame_verdict.specs.FrameMeasures.{IsFrameUnrolled}
use Rattle.frame_verdict.specs.JudgedFrames.{IsJudged}
use Rattle.frame_verdict.specs.Questions.{IsStepRefuted}
use Rattle.frame_verdict.specs.declared.early.Early.{Early}
use Rattle.frame_verdict.specs.declared.early.Early.TheVariants as early
use Rattle.frame_verdict.specs.declared.smaller.NoTurns.{NoTurns}
use Rattle.frame_verdict.specs.declared.smaller.NoTurns.TheVariants.{Refuted, Fails, More, Open}

-- A frame is unrolled for a bound, and for one that is no smaller; both times it has equally many roots.
pub record IsSmaller (f : Frame) (contracts : List Contract) (k m : ℕ) (layout : Layout) (whole u : Unrolled) : Type 0 where
  pub few : k ≤ m
  pub small : IsFrameUnrolled f contracts k layout u
  pub great : IsFrameUnrolled f contracts m layout whole
  pub roots : length u.roots.items ≡ length whole.roots.items

-- so it is for each frame that is unrolled like this for a smaller bound, and has so many inputs besides bytes for the greater one
abbrev pub ForFrames : Unrolled → (inputs : ℕ) → (Frame → (k m : ℕ) → Layout → Type 0) → Type 0
ForFrames u inputs Is =
    (f : Frame) (contracts : List Contract) (k m : ℕ) (layout : Layout) (whole : Unrolled) → IsSmaller f contracts k m layout whole u →
    inputs ≡ free_inputs (frame_unrolled_of whole) (has_heads f) → Is f k m layout

-- the question within the greater bound is refuted
abbrev pub RefutesLater : Unrolled → (inputs : ℕ) → Question → Proof → Type 0
RefutesLater u inputs question proof = ForFrames u inputs (λ f k m layout. Refutes f m question (proof_of proof))

-- no reading that has the bytes of the file at these addresses, and those of literals, makes more backward transfers than the smaller bound
abbrev pub TurnsNever : Unrolled → (asked : List ℕ) → Type 0
TurnsNever u asked =
    (f : Frame) (contracts : List Contract) (k : ℕ) (layout : Layout) → IsFrameGround f contracts k layout u →
    NeverTrue f (is_asked asked (frame_unrolled_of u).literals) k TurnQuestion

-- where no segment makes more backward transfers than the smaller bound, the questions within the greater one are refuted, or the entry's segment fails
abbrev pub AreNoTurns : Frame → (k m : ℕ) → Layout → Unrolled → NoTurns → Type 0
AreNoTurns f k m layout u (Refuted fail step turn) =
    Refutes f m FailQuestion (proof_of fail) × IsStepRefuted f m step × Refutes f m TurnQuestion (proof_of turn)
AreNoTurns f k m layout u (Fails segments) = AreSegments f k layout FailQuestion u segments
AreNoTurns f k m layout u More = Unit {0}
AreNoTurns f k m layout u Open = Unit {0}

-- so for each frame
abbrev pub ComesTo : Unrolled → (inputs : ℕ) → NoTurns → Type 0
ComesTo u inputs n = ForFrames u inputs (λ f k m layout. AreNoTurns f k m layout u n)

-- what the questions within the budget's bound come to, if it is settled
abbrev pub IsEarly : Whole → (rank : ℕ) → Layout → Budget → Early → Type 0
IsEarly w rank layout b (early.Settled judged) = IsJudged w rank layout b judged
IsEarly w rank layout b early.More = Unit {0}
IsEarly w rank layout b early.Open = Unit {0}
