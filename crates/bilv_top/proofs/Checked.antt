-- What a check of a certificate answers.
use Rattle.std.proofs.Common.{◌≡◌, ℕ, ◌≤◌, List, [], ◌∷◌, ◌++◌, length, refl, ap, sym, subst, ◌∙◌, Option}
use Rattle.std.specs.Prelude.{codes, drop}
use Rattle.call_spec.specs.Outside.{Agrees, IsLonger}
use Rattle.clause_spec.specs.Clauses.{Cnf}
use Rattle.clause_spec.specs.Refutation.{LogLine, Cause, refusal}
use Rattle.clause_spec.specs.Certificates.{check_text}
use Rattle.clause_spec.specs.CertificateGrammar.{CnfFault, Clauses, RefusedAt, cnf_of, log_of, log_of_lines}
use Rattle.word_spec.specs.Texts.{split_lines, line, spaced, number_text}
use Rattle.clause_spec.specs.Checks.{IsChecked, large, refused, checked, check_status, log_refusal, cnf_fault_words, text_limit}
use Rattle.call_spec.specs.Calls.{NoEvidence, Answer, plain_answer, Surroundings, was_read}
use Rattle.command_spec.specs.Commands.{Check}
use Rattle.answer_spec.specs.Outcomes.{IsRightAnswer}

-- the clauses are refused
pub refused_by : (text words written : List ℕ) (n : ℕ) (f : CnfFault) → length text ≤ text_limit → cnf_of text ≡ RefusedAt n f → words ≡ cnf_fault_words f →
    written ≡ line (codes "cnf: line" ++ spaced (number_text n ∷ words ∷ [])) → IsChecked text 9 written
refused_by text words written n f le e w is =
    subst (λ x. IsChecked text 9 x) (sym (is ∙ ap (λ x. line (codes "cnf: line" ++ spaced (number_text n ∷ x ∷ []))) w)) (refused n f le e)

-- the lines behind the clauses are judged
pub checked_by : (text behind written : List ℕ) (cnf : Cnf) (n status : ℕ) (log : List LogLine) (r : Option (ℕ × Cause)) → length text ≤ text_limit →
    cnf_of text ≡ Clauses cnf n → split_lines behind ≡ drop n (split_lines text) → log ≡ log_of behind → r ≡ refusal cnf.variables cnf.clauses log →
    status ≡ check_status r → written ≡ check_text r → IsChecked text status written
checked_by text behind written cnf n status log r le e behind_is log_is r_is status_is written_is =
    let same : r ≡ log_refusal text cnf n = r_is ∙ ap (λ l. refusal cnf.variables cnf.clauses l) (log_is ∙ ap log_of_lines behind_is) in
    subst (λ s. IsChecked text s written) (sym (status_is ∙ ap check_status same))
    (subst (λ w. IsChecked text (check_status (log_refusal text cnf n)) w) (sym (written_is ∙ ap check_text same)) (checked cnf n le e))

-- the certificate is too large
pub too_large : (s : Surroundings) (name : List ℕ) (a : Answer) → IsLonger (s.held name) text_limit → a ≡ plain_answer 9 (line (codes "cert: TooLarge")) →
    IsRightAnswer s (Check name) a
too_large s name a longer is = subst (λ x. IsRightAnswer s (Check name) x) (sym is) (was_read longer.0 longer.1 (large longer.2, refl))

-- its text is judged
pub judged : (s : Surroundings) (name file : List ℕ) (a : Answer) → Agrees (s.held name) file → IsChecked file a.status a.text → a.evidence ≡ NoEvidence →
    IsRightAnswer s (Check name) a
judged s name file a agrees is bare = was_read file agrees (is, bare)
