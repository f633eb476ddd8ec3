-- What the command that certifies a question answers.
use Rattle.std.specs.Prelude.{ℕ, ◌<◌, ◌+◌, List, [], ◌∷◌, ◌++◌, codes}
use Rattle.bilv_spec.specs.Run.{Program}
use Rattle.bilv_spec.specs.Points.{HasMore, IsPrice}
use Rattle.call_spec.specs.Calls.{Question, Budget, Evidence, NoEvidence, SpentOn, Count}
use Rattle.bilv_spec.specs.Questions.{IsSatisfiable}
use Rattle.clause_spec.specs.Refutation.{Proof}
use Rattle.bilv_spec.specs.Evidence.{Refutes, Spends}
use Rattle.bilv_spec.specs.Answers.{IsWithin}
use Rattle.clause_spec.specs.Certificates.{certificate_text}
use Rattle.word_spec.specs.Texts.{line, number_text, spaced}

-- The status, the text and the evidence for a question. Whether a question is due plays no part here.
pub data IsCertified (p : Program) (b : Budget) (question : Question) : (status : ℕ) → (written : List ℕ) → Evidence → Type 0 where
  points : HasMore p b.unroll b.points →
      IsCertified p b question 3 (line (codes "unknown points" ++ spaced (number_text b.points ∷ []))) (Count (b.points + 1))
  size : (price : ℕ) → ¬ HasMore p b.unroll b.points → IsPrice p b.unroll price → b.size < price →
      IsCertified p b question 3 (line (codes "unknown size" ++ spaced (number_text b.size ∷ []))) (Count price)
  conflicts : (proof : Proof) → IsWithin p b → Spends p b.unroll question b.conflicts proof →
      IsCertified p b question 3 (line (codes "unknown conflicts" ++ spaced (number_text b.conflicts ∷ []))) (SpentOn question proof)
  satisfiable : IsWithin p b → IsSatisfiable p b.unroll question → IsCertified p b question 1 (line (codes "satisfiable")) NoEvidence
  certified : (proof : Proof) → IsWithin p b → ¬ IsSatisfiable p b.unroll question → Refutes p b.unroll question proof →
      IsCertified p b question 0 (certificate_text proof.clauses proof.log) NoEvidence
