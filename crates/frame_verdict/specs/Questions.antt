-- What the questions before the last have come to.
use Rattle.std.specs.Prelude.{ℕ, ◌≡◌, true, false, Option, Some, None}
use Rattle.word_spec.specs.State.{Written}
use Rattle.word_spec.specs.Words.{word}
use Rattle.bilv_spec.specs.Answers.{known_byte}
use Rattle.bilv_spec.specs.Points.{is_known_at}
use Rattle.bilv_spec.specs.Run.{Program}
use Rattle.bilv_spec.specs.Verdict.{IsEntryState}
use Rattle.machine_spec.specs.StateText.{Layout, IsWritten, start_of}
use Rattle.frame_spec.specs.Frames.{Frame}
use Rattle.frame_spec.specs.FramePoints.{has_heads}
use Rattle.frame_spec.specs.FrameQuestions.{StepQuestion}
use Rattle.frame_spec.specs.FrameReports.{Refutes}
use Rattle.cnf_form.specs.Views.{proof_of}
use Rattle.cnf_form.specs.declared.form.Proof.{Proof}

-- an entry state is written
abbrev pub IsEntered : Program → Layout → Written → Type 0
IsEntered p layout w = IsWritten layout (is_known_at p) w × IsEntryState p (start_of layout p.entry (λ a. known_byte p (word 32 a)) w).state

-- no segment from a head state has an event: that is refuted, or there is no head
abbrev pub IsStepRefuted : Frame → ℕ → Option Proof → Type 0
IsStepRefuted f k (Some proof) = (has_heads f ≡ true) × Refutes f k StepQuestion (proof_of proof)
IsStepRefuted f k None = has_heads f ≡ false
