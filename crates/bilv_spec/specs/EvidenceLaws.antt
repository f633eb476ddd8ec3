-- Laws of evidence.
use Rattle.std.specs.Prelude.{ℕ, ◌≤◌, ◌^◌, length, codes}
use Rattle.word_spec.specs.Texts.{line}
use Rattle.clause_spec.specs.Certificates.{certificate_text}
use Rattle.clause_spec.specs.Checks.{IsChecked}
use Rattle.bilv_spec.specs.Run.{Program}
use Rattle.call_spec.specs.Calls.{Question}
use Rattle.bilv_spec.specs.Questions.{IsSatisfiable}
use Rattle.clause_spec.specs.Refutation.{Proof}
use Rattle.bilv_spec.specs.Evidence.{Refutes}

-- a question that is refuted is true of no reading
abbrev pub RefutedIsFalse : Type 0
RefutedIsFalse = (p : Program) (k : ℕ) (question : Question) (proof : Proof) → Refutes p k question proof → ¬ IsSatisfiable p k question

-- the certificate of a question that is refuted is accepted
abbrev pub CertifiedIsAccepted : Type 0
CertifiedIsAccepted =
    (p : Program) (k : ℕ) (question : Question) (proof : Proof) → Refutes p k question proof → proof.clauses.variables ≤ 2 ^ 30 →
    length proof.clauses.clauses ≤ 2 ^ 30 → length (certificate_text proof.clauses proof.log) ≤ 268435456 →
    IsChecked (certificate_text proof.clauses proof.log) 0 (line (codes "accepted"))
