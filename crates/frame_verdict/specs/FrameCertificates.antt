-- What a question of a frame of a function whose notes may have invariants or contracts comes to, as the definitions say it.
use Rattle.std.specs.Prelude.{ℕ, ◌≡◌, ◌<◌, ◌+◌}
use Rattle.call_spec.specs.Calls.{Budget}
use Rattle.cnf_form.specs.Views.{proof_of}
use Rattle.frame_spec.specs.FrameQuestions.{Question, IsSatisfiable}
use Rattle.frame_spec.specs.FrameReports.{HasMore, IsWholePrice, IsWithin, Refutes, Spends}
use Rattle.frame_spec.specs.FrameVerdict.{Whole, frame_of}
use Rattle.verdict.specs.declared.verdicts.Certified.{Certified}
use Rattle.verdict.specs.declared.verdicts.Certified.TheVariants.{Exceeded, Conflicts, Satisfiable, Refuted}
use Rattle.verdict.specs.declared.verdicts.Exceeded as past
use Rattle.verdict.specs.declared.verdicts.Exceeded.TheVariants.{Points, Size}

-- the budget does not suffice for any question of any frame
abbrev pub IsFrameExceeded : Whole → Budget → past.Exceeded → Type 0
IsFrameExceeded w b (Points count) = HasMore w b.unroll b.points × (count ≡ b.points + 1)
IsFrameExceeded w b (Size price) = (¬ HasMore w b.unroll b.points) × IsWholePrice w b.unroll price × (b.size < price)

-- what the question of the frame of a rank comes to, with what shows it; whether it is due plays no part
abbrev pub IsFrameCertificate : Whole → (rank : ℕ) → Budget → Question → Certified → Type 0
IsFrameCertificate w rank b question (Exceeded e) = IsFrameExceeded w b e
IsFrameCertificate w rank b question (Conflicts proof) = IsWithin w b × Spends (frame_of w rank) b.unroll question b.conflicts (proof_of proof)
IsFrameCertificate w rank b question Satisfiable = IsWithin w b × IsSatisfiable (frame_of w rank) b.unroll question
IsFrameCertificate w rank b question (Refuted proof) =
    IsWithin w b × (¬ IsSatisfiable (frame_of w rank) b.unroll question) × Refutes (frame_of w rank) b.unroll question (proof_of proof)
