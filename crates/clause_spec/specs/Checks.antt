-- What the check of a certificate answers.
use Rattle.std.specs.Prelude.{ℕ, ◌≡◌, ◌<◌, ◌≤◌, List, [], ◌∷◌, ◌++◌, codes, Option, Some, None, length, drop}
use Rattle.word_spec.specs.Texts.{split_lines, line, number_text, spaced}
use Rattle.clause_spec.specs.Clauses.{Cnf}
use Rattle.clause_spec.specs.Refutation.{Cause, refusal}
use Rattle.clause_spec.specs.Certificates.{check_text}
use Rattle.clause_spec.specs.CertificateGrammar.{CnfFault, TokenFault, HeaderFault, VariableFault, CountFault, ProofFault, Clauses, RefusedAt, cnf_of, log_of_lines}

-- the greatest length of a state text and of a certificate
abbrev pub text_limit : ℕ
text_limit = 268435456

-- the text of a fault of clauses
abbrev pub cnf_fault_words : CnfFault → List ℕ
cnf_fault_words TokenFault = codes "K1 Token"
cnf_fault_words HeaderFault = codes "K2 Header"
cnf_fault_words VariableFault = codes "K3 Variable"
cnf_fault_words CountFault = codes "K4 Count"
cnf_fault_words ProofFault = codes "K5 Proof"

-- accepted, or at the first refused line
abbrev pub check_status : Option (ℕ × Cause) → ℕ
check_status None = 0
check_status (Some refused) = 9

-- the first refused line of the proof behind the clauses
abbrev pub log_refusal : List ℕ → Cnf → ℕ → Option (ℕ × Cause)
log_refusal text cnf n = refusal cnf.variables cnf.clauses (log_of_lines (drop n (split_lines text)))

-- the status and the text for a certificate
pub data IsChecked (text : List ℕ) : (status : ℕ) → (written : List ℕ) → Type 0 where
  large : text_limit < length text → IsChecked text 9 (line (codes "cert: TooLarge"))
  refused : (n : ℕ) (f : CnfFault) → length text ≤ text_limit → cnf_of text ≡ RefusedAt n f →
      IsChecked text 9 (line (codes "cnf: line" ++ spaced (number_text n ∷ cnf_fault_words f ∷ [])))
  checked : (cnf : Cnf) (n : ℕ) → length text ≤ text_limit → cnf_of text ≡ Clauses cnf n →
      IsChecked text (check_status (log_refusal text cnf n)) (check_text (log_refusal text cnf n))
