-- The certificate of a refuted question is accepted.
use Rattle.std.proofs.Common.{ℕ, ◌≤◌, ◌^◌, length}
use Rattle.std.specs.Prelude.{codes}
use Rattle.word_spec.specs.Texts.{line}
use Rattle.clause_spec.specs.Certificates.{certificate_text}
use Rattle.clause_spec.specs.Checks.{IsChecked}
use Rattle.bilv_spec.specs.Run.{Program}
use Rattle.call_spec.specs.Calls.{Question}
use Rattle.clause_spec.specs.Refutation.{Proof}
use Rattle.bilv_spec.specs.Evidence.{Refutes}
use Rattle.clause_spec.proofs.AcceptedCertificates.{printed_is_accepted}

pub certified_is_accepted : (p : Program) (k : ℕ) (question : Question) (proof : Proof) → Refutes p k question proof → proof.clauses.variables ≤ 2 ^ 30 →
    length proof.clauses.clauses ≤ 2 ^ 30 → length (certificate_text proof.clauses proof.log) ≤ 268435456 →
    IsChecked (certificate_text proof.clauses proof.log) 0 (line (codes "accepted"))
certified_is_accepted p k question proof h v m small =
    printed_is_accepted proof.clauses proof.log (record { variables = v; clauses = m; over = h.of_question.extends.over }) h.refutation small
