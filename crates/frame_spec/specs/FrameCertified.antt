-- What the command that certifies a question answers where notes have invariants or contracts: the question is one of a frame.
use Rattle.std.specs.Prelude.{ℕ, ◌<◌, ◌+◌, List, codes}
use Rattle.word_spec.specs.Texts.{line}
use Rattle.clause_spec.specs.Refutation.{Proof}
use Rattle.clause_spec.specs.Certificates.{certificate_text}
use Rattle.call_spec.specs.Calls.{Budget, Evidence, NoEvidence, SpentOnFrame, Count}
use Rattle.bilv_spec.specs.Answers.{budget_text}
use Rattle.frame_spec.specs.FrameVerdict.{Whole, frame_of}
use Rattle.frame_spec.specs.FrameQuestions.{Question, IsSatisfiable}
use Rattle.frame_spec.specs.FrameReports.{HasMore, IsWholePrice, IsWithin, Refutes, Spends}

-- The status, the text and the evidence for a question of the frame of a rank. The budgets are over all frames. Whether a question is due plays no part here.
pub data IsFrameCertified (w : Whole) (rank : ℕ) (b : Budget) (question : Question) : (status : ℕ) → (written : List ℕ) → Evidence → Type 0 where
  points : HasMore w b.unroll b.points → IsFrameCertified w rank b question 3 (budget_text (codes "points") b.points) (Count (b.points + 1))
  size : (price : ℕ) → ¬ HasMore w b.unroll b.points → IsWholePrice w b.unroll price → b.size < price →
      IsFrameCertified w rank b question 3 (budget_text (codes "size") b.size) (Count price)
  conflicts : (proof : Proof) → IsWithin w b → Spends (frame_of w rank) b.unroll question b.conflicts proof →
      IsFrameCertified w rank b question 3 (budget_text (codes "conflicts") b.conflicts) (SpentOnFrame rank question proof)
  satisfiable : IsWithin w b → IsSatisfiable (frame_of w rank) b.unroll question → IsFrameCertified w rank b question 1 (line (codes "satisfiable")) NoEvidence
  certified : (proof : Proof) → IsWithin w b → ¬ IsSatisfiable (frame_of w rank) b.unroll question → Refutes (frame_of w rank) b.unroll question proof →
      IsFrameCertified w rank b question 0 (certificate_text proof.clauses proof.log) NoEvidence
