-- Without invariants and contracts what a question of a frame comes to, the question of its program comes to.
use Rattle.std.proofs.Common.{ℕ}
use Rattle.clause_spec.specs.Refutation.{Proof}
use Rattle.call_spec.specs.Calls as calls
use Rattle.bilv_spec.specs.Evidence as evidence
use Rattle.bilv_spec.specs.Run.{Program}
use Rattle.cnf_form.specs.Views.{proof_of}
use Rattle.frame_spec.specs.FrameReports.{Refutes, Spends}
use Rattle.frame_spec.specs.Theorems.{headless}
use Rattle.frame_laws.specs.HeadlessLaws.{as_question}
use Rattle.frame_laws.proofs.HeadlessInputs.{headless_clauses}
use Rattle.frame_laws.proofs.HeadlessReads.{headless_is_satisfiable}
use Rattle.verdict.specs.declared.verdicts.Certified.TheVariants.{Exceeded, Conflicts, Satisfiable, Refuted}
use Rattle.verdict.specs.declared.verdicts.Exceeded.TheVariants.{Points, Size}
use Rattle.frame_verdict.specs.PlainVerdicts.{PlainCertificates}
use Rattle.frame_verdict.proofs.PlainBudgets.{more_from, more_to, price_from, within_from}

module _ (p : Program) (k : ℕ) (question : calls.Question) (proof : Proof) where
  refutes_from : Refutes (headless p) k (as_question question) proof → evidence.Refutes p k question proof
  refutes_from h = record { of_question = (headless_clauses p k question proof.clauses).0 h.of_question; refutation = h.refutation }

  spends_from : (conflicts : ℕ) → Spends (headless p) k (as_question question) conflicts proof → evidence.Spends p k question conflicts proof
  spends_from conflicts h = record { of_question = (headless_clauses p k question proof.clauses).0 h.of_question; spent = h.spent }

pub plain_certificates : PlainCertificates
plain_certificates p rank b question (Exceeded (Points count)) (more, is) = (more_from p b more, is)
plain_certificates p rank b question (Exceeded (Size price)) (few, is_price, above) =
    ((λ m. few (more_to p b m)), price_from p b price is_price, above)
plain_certificates p rank b question (Conflicts proof) (within, spent) =
    (within_from p b within, spends_from p b.unroll question (proof_of proof) b.conflicts spent)
plain_certificates p rank b question Satisfiable (within, is) = (within_from p b within, ((headless_is_satisfiable p b.unroll).0 question).0 is)
plain_certificates p rank b question (Refuted proof) (within, never, refuted) =
    (within_from p b within, (λ is. never (((headless_is_satisfiable p b.unroll).0 question).1 is)), refutes_from p b.unroll question (proof_of proof) refuted)
