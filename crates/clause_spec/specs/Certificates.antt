-- The texts of clauses (DIMACS CNF), of proofs (LRAT), of certificates, and of what a check of one says.
use Rattle.std.specs.Prelude.{ℕ, ◌≤◌, ◌^◌, Bool, true, false, List, [], ◌∷◌, ◌++◌, Option, Some, None, codes, length, map}
use Rattle.clause_spec.specs.Clauses.{Literal, Clause, Cnf, AreOnVariables}
use Rattle.clause_spec.specs.Refutation.{LogLine, Add, Delete, Bad, Hint, ById, Negative, Cause, NotOfGrammar, IdNotAbove, VariableAbove, Tautology, NegativeHint, UnknownHint, NotUnit, NoConflict, NoEmptyClause}
use Rattle.word_spec.specs.Texts.{number_text, line, lines, spaced, joined}

-- clauses that are read again as they are printed: within the bounds of the grammar, and on their own variables
pub record IsPrintable (cnf : Cnf) : Type 0 where
  pub variables : cnf.variables ≤ 2 ^ 30
  pub clauses : length cnf.clauses ≤ 2 ^ 30
  pub over : AreOnVariables cnf.variables cnf.clauses

-- a number with its sign
abbrev pub signed_text : (positive : Bool) → ℕ → List ℕ
signed_text true n = number_text n
signed_text false n = codes "-" ++ number_text n

-- a literal
abbrev pub literal_text : Literal → List ℕ
literal_text l = signed_text l.positive l.variable

-- words, ended by 0
abbrev pub to_zero : List (List ℕ) → List (List ℕ)
to_zero ws = ws ++ codes "0" ∷ []

-- the line of a clause
abbrev pub clause_line : Clause → List ℕ
clause_line c = joined (to_zero (map literal_text c))

-- the line p cnf
abbrev pub cnf_header : Cnf → List ℕ
cnf_header cnf = joined (codes "p" ∷ codes "cnf" ∷ number_text cnf.variables ∷ number_text (length cnf.clauses) ∷ [])

-- the lines of clauses
abbrev pub cnf_lines : Cnf → List (List ℕ)
cnf_lines cnf = cnf_header cnf ∷ map clause_line cnf.clauses

-- the text of clauses
abbrev pub cnf_text : Cnf → List ℕ
cnf_text cnf = lines (cnf_lines cnf)

-- a hint
abbrev pub hint_text : Hint → List ℕ
hint_text (ById n) = signed_text true n
hint_text (Negative n) = signed_text false n

-- the line of an added clause with its hints, and of a deletion; what is no line has an empty one, which is none either
abbrev pub log_line : LogLine → List ℕ
log_line (Add id c hints) = joined (number_text id ∷ to_zero (map literal_text c) ++ to_zero (map hint_text hints))
log_line (Delete id ids) = joined (number_text id ∷ codes "d" ∷ to_zero (map number_text ids))
log_line Bad = []

-- the text of a proof
abbrev pub log_text : List LogLine → List ℕ
log_text log = lines (map log_line log)

-- a certificate: the clauses, the line proof, the log
abbrev pub certificate_text : Cnf → List LogLine → List ℕ
certificate_text cnf log = cnf_text cnf ++ line (codes "proof") ++ log_text log

-- the words of a cause
abbrev pub cause_words : Cause → List ℕ
cause_words NotOfGrammar = codes "L1 Line"
cause_words IdNotAbove = codes "L2 Id"
cause_words VariableAbove = codes "L3 Variable"
cause_words Tautology = codes "L4 Tautology"
cause_words NegativeHint = codes "L5 NegativeHint"
cause_words UnknownHint = codes "L6 UnknownHint"
cause_words NotUnit = codes "L7 NotUnit"
cause_words NoConflict = codes "L8 NoConflict"
cause_words NoEmptyClause = codes "L9 End"

-- what is written of a checked proof: that it is accepted, or its first refused line
abbrev pub check_text : Option (ℕ × Cause) → List ℕ
check_text None = line (codes "accepted")
check_text (Some refused) = line (codes "proof: line" ++ spaced (number_text refused.0 ∷ cause_words refused.1 ∷ []))
