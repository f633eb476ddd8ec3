-- What a solver says of clauses.
use Rattle.std.specs.Prelude.{ℕ, ◌≡◌, ◌<◌, ◌≤◌, ◌+◌, ◌-◌, ◌%◌, ◌==◌, Bool, true, false, if◌then◌else◌, List, [], ◌∷◌, ◌++◌, codes, length, slice_index_or}
use Rattle.clause_spec.specs.Clauses.{Cnf, Satisfies, Unsatisfiable, valuation}
use Rattle.clause_spec.specs.Refutation.{LogLine, IsRefutation}
use Rattle.clause_spec.specs.Empowering.{IsSpent}
use Rattle.clause_spec.specs.Certificates.{certificate_text, literal_text}
use Rattle.clause_spec.specs.CertificateGrammar.{CnfFault, Clauses, RefusedAt, cnf_of}
use Rattle.clause_spec.specs.Checks.{cnf_fault_words, text_limit}
use Rattle.call_spec.specs.Calls.{Answer, plain_answer}
use Rattle.word_spec.specs.Texts.{line, spaced, number_text, line_feed, blank}
use Rattle.cnf_solver.specs.Requests.{Request}

-- the last line of a text has its line feed, or there is no line
abbrev pub ends_in_line_feed : List ℕ → Bool
ends_in_line_feed text = slice_index_or text (length text - 1) line_feed == line_feed

-- The text of a file as that of a certificate: a line `proof` behind its lines. Where the file has such a line itself, its clauses end there.
abbrev pub as_certificate : List ℕ → List ℕ
as_certificate text = (if ends_in_line_feed text then text else line text) ++ line (codes "proof")

-- what stands behind the literal of a variable: a blank, and behind each sixth the start of a new line
abbrev pub break_behind : ℕ → List ℕ
break_behind n = if n % 6 == 0 then line_feed ∷ codes "v " else blank ∷ []

-- the literals that the values of the variables from n on make true, ended by 0
abbrev pub values_from : (n : ℕ) → List Bool → List ℕ
values_from n [] = line (codes "0")
values_from n (b ∷ bs) = literal_text (record { variable = n; positive = b }) ++ break_behind n ++ values_from (n + 1) bs

-- there are satisfying values: these
abbrev pub satisfiable_text : List Bool → List ℕ
satisfiable_text vs = line (codes "s SATISFIABLE") ++ codes "v " ++ values_from 1 vs

-- there are none; behind that the certificate, where it is asked for
abbrev pub unsatisfiable_text : (certificate : Bool) → Cnf → List LogLine → List ℕ
unsatisfiable_text false cnf log = line (codes "s UNSATISFIABLE")
unsatisfiable_text true cnf log = line (codes "s UNSATISFIABLE") ++ certificate_text cnf log

-- What is said of clauses: a value for each variable, so that every clause is true; or that no values make every clause true, with a refutation; or that so
-- many clauses were learned, each of them new to unit propagation.
pub data IsSaid (cnf : Cnf) (conflicts : ℕ) (certificate : Bool) (a : Answer) : Type 0 where
  satisfiable : (vs : List Bool) → length vs ≡ cnf.variables → Satisfies (valuation vs) cnf.clauses → a ≡ plain_answer 10 (satisfiable_text vs) →
      IsSaid cnf conflicts certificate a
  unsatisfiable : (log : List LogLine) → Unsatisfiable cnf.clauses → IsRefutation cnf.variables cnf.clauses log →
      a ≡ plain_answer 20 (unsatisfiable_text certificate cnf log) → IsSaid cnf conflicts certificate a
  unknown : (log : List LogLine) → IsSpent cnf.clauses conflicts log → a ≡ plain_answer 0 (line (codes "s UNKNOWN")) → IsSaid cnf conflicts certificate a

-- the answer to the text of a file: it is too large, or its clauses are refused, or what is said of them
pub data IsSolved (text : List ℕ) (r : Request) (a : Answer) : Type 0 where
  large : text_limit < length text → a ≡ plain_answer 9 (line (codes "cnf: TooLarge")) → IsSolved text r a
  refused : (n : ℕ) (f : CnfFault) → length text ≤ text_limit → cnf_of (as_certificate text) ≡ RefusedAt n f →
      a ≡ plain_answer 9 (line (codes "cnf: line" ++ spaced (number_text n ∷ cnf_fault_words f ∷ []))) → IsSolved text r a
  said : (cnf : Cnf) (n : ℕ) → length text ≤ text_limit → cnf_of (as_certificate text) ≡ Clauses cnf n → IsSaid cnf r.conflicts r.certificate a →
      IsSolved text r a
