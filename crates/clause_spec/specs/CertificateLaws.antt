-- Laws of refutations and of the texts of certificates.
use Rattle.std.specs.Prelude.{ℕ, ◌≡◌, ◌≤◌, ◌+◌, ◌⊎◌, ◌↔◌, true, List, Some, None, length, drop, codes, Contains}
use Rattle.std.specs.List.{list_all}
use Rattle.clause_spec.specs.Clauses.{Literal, Clause, Cnf, Unsatisfiable, has}
use Rattle.clause_spec.specs.Refutation.{LogLine, Cause, NoEmptyClause, IsRefutation, IsRefusedAt, is_of_grammar, Hint, Present, judge_hints}
use Rattle.clause_spec.specs.UnitPropagation.{negations, FollowsByUnits}
use Rattle.clause_spec.specs.Empowering.{IsEmpowering}
use Rattle.word_spec.specs.Texts.{split_lines, line}
use Rattle.clause_spec.specs.Certificates.{IsPrintable, certificate_text}
use Rattle.clause_spec.specs.CertificateGrammar.{CnfFault, Clauses, RefusedAt, cnf_of, log_of_lines}
use Rattle.clause_spec.specs.Checks.{IsChecked}

-- the clauses of a refutation have no satisfying values
abbrev pub RefutationIsSound : Type 0
RefutationIsSound = (n : ℕ) (cs : List Clause) (log : List LogLine) → IsRefutation n cs log → Unsatisfiable cs

-- one of the two holds, and not both
abbrev pub ExactlyOne : Type 0 → Type 0 → Type 0
ExactlyOne A B = (A ⊎ B) × (A → B → ⊥)

-- a log is a refutation, or it has a first refused line
abbrev pub OneRefusal : Type 0
OneRefusal =
    (n : ℕ) (cs : List Clause) (log : List LogLine) → ExactlyOne (IsRefutation n cs log) ((line : ℕ) × (cause : Cause) × IsRefusedAt n cs log line cause)

-- a refused line is one of the log, or, where no line added the empty clause, the one after the last
pub record RefusalAt (log : List LogLine) (line : ℕ) (cause : Cause) : Type 0 where
  pub from : 1 ≤ line
  pub to : line ≤ length log + 1
  pub at_end : (cause ≡ NoEmptyClause) ↔ (line ≡ length log + 1)

-- a refused line has its place in the log
abbrev pub RefusalHasPlace : Type 0
RefusalHasPlace = (n : ℕ) (cs : List Clause) (log : List LogLine) (line : ℕ) (cause : Cause) → IsRefusedAt n cs log line cause → RefusalAt log line cause

-- a log has at most one first refused line, with one cause
abbrev pub OneCause : Type 0
OneCause =
    (n : ℕ) (cs : List Clause) (log : List LogLine) (line other : ℕ) (cause why : Cause) → IsRefusedAt n cs log line cause → IsRefusedAt n cs log other why →
    (line ≡ other) × (cause ≡ why)

-- what is read of a certificate's clauses and of its proof
pub record IsReadAs (text : List ℕ) (cnf : Cnf) (log : List LogLine) : Type 0 where
  pub before : ℕ
  pub clauses : cnf_of text ≡ Clauses cnf before
  pub proof : log_of_lines (drop before (split_lines text)) ≡ log

-- a printed certificate is read again as what was printed, where each line of its log is of the grammar
abbrev pub ReadAgain : Type 0
ReadAgain = (cnf : Cnf) (log : List LogLine) → IsPrintable cnf → list_all is_of_grammar log ≡ true → IsReadAs (certificate_text cnf log) cnf log

-- a printed certificate of a refutation is accepted, within the bounds of its grammar and the limit of bytes
abbrev pub PrintedIsAccepted : Type 0
PrintedIsAccepted =
    (cnf : Cnf) (log : List LogLine) → IsPrintable cnf → IsRefutation cnf.variables cnf.clauses log → length (certificate_text cnf log) ≤ 268435456 →
    IsChecked (certificate_text cnf log) 0 (line (codes "accepted"))

-- a text of clauses has a reading, or a first refused line with its fault
abbrev pub OneCertificateReading : Type 0
OneCertificateReading =
    (text : List ℕ) →
    ExactlyOne ((cnf : Cnf) × (before : ℕ) × (cnf_of text ≡ Clauses cnf before)) ((n : ℕ) × (f : CnfFault) × (cnf_of text ≡ RefusedAt n f))

-- what is read is within the bounds, and over its variables
abbrev pub ReadIsPrintable : Type 0
ReadIsPrintable = (text : List ℕ) (cnf : Cnf) (before : ℕ) → cnf_of text ≡ Clauses cnf before → IsPrintable cnf

-- a certificate has one status and one text of its check
abbrev pub OneCheck : Type 0
OneCheck =
    (text : List ℕ) → ((status : ℕ) × (written : List ℕ) × IsChecked text status written)
    × ((status other : ℕ) (written text_of_other : List ℕ) → IsChecked text status written → IsChecked text other text_of_other →
    (status ≡ other) × (written ≡ text_of_other))

-- a clause whose hints lead to a conflict follows by unit propagation from the clauses that are present
abbrev pub AcceptedFollows : Type 0
AcceptedFollows =
    (cs : List Clause) (present : Present) (c : Clause) (hints : List Hint) → ((i : ℕ) (d : Clause) → present i ≡ Some d → Contains cs d) →
    judge_hints present (negations c) hints ≡ None → FollowsByUnits cs c

-- the literals of one clause are among those of another
abbrev pub IsPartOf : Clause → Clause → Type 0
IsPartOf d c = (l : Literal) → has d l ≡ true → has c l ≡ true

-- an empowering clause is new: no clause that is there already is a part of it, or is itself
abbrev pub EmpoweringIsNew : Type 0
EmpoweringIsNew = (cs : List Clause) (c d : Clause) → IsEmpowering cs c → Contains cs d → ¬ IsPartOf d c
