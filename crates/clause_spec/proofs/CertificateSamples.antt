-- Worked certificates: what is read of texts, why they are refused, and which logs are accepted, by computation alone.
use Rattle.std.proofs.Common.{◌≡◌, ℕ, refl, List, [], ◌∷◌, ◌++◌, Option, Some, None, true, false}
use Rattle.std.specs.Prelude.{codes, drop}
use Rattle.std.specs.Fmt.{digits}
use Rattle.word_spec.specs.Texts.{split_lines, lines}
use Rattle.clause_spec.specs.Clauses.{Literal, Cnf}
use Rattle.clause_spec.specs.Refutation.{LogLine, Add, Delete, Bad, ById, Cause, refusal, NotOfGrammar, IdNotAbove, VariableAbove, Tautology, NegativeHint, UnknownHint, NotUnit, NoEmptyClause}
use Rattle.clause_spec.specs.Certificates.{certificate_text, check_text}
use Rattle.clause_spec.specs.CertificateGrammar.{cnf_of, Clauses, RefusedAt, log_of, log_of_lines, TokenFault, HeaderFault, VariableFault, CountFault, ProofFault}

-- the literals of a variable
abbrev pos : ℕ → Literal
pos n = record { variable = n; positive = true }

abbrev neg : ℕ → Literal
neg n = record { variable = n; positive = false }

-- the four clauses over two variables, with a refutation
abbrev four : Cnf
four = record { variables = 2; clauses = (pos 1 ∷ pos 2 ∷ []) ∷ (pos 1 ∷ neg 2 ∷ []) ∷ (neg 1 ∷ pos 2 ∷ []) ∷ (neg 1 ∷ neg 2 ∷ []) ∷ [] }

abbrev log : List LogLine
log = Add 5 (pos 1 ∷ []) (ById 1 ∷ ById 2 ∷ []) ∷ Add 6 [] (ById 5 ∷ ById 3 ∷ ById 4 ∷ []) ∷ []

abbrev four_lines : List (List ℕ)
four_lines = codes "p cnf 2 4" ∷ codes "1 2 0" ∷ codes "1 -2 0" ∷ codes "-1 2 0" ∷ codes "-1 -2 0" ∷ codes "proof" ∷ []

abbrev certificate : List (List ℕ) → List ℕ
certificate proof = lines (four_lines ++ proof)

certificate_is : certificate_text four log ≡ certificate (codes "5 1 0 1 2 0" ∷ codes "6 0 5 3 4 0" ∷ [])
unfolding digits
certificate_is = refl

clauses_are : cnf_of (certificate (codes "5 1 0 1 2 0" ∷ [])) ≡ Clauses four 6
clauses_are = refl

-- the first refused line of a proof of the four clauses, by its text
abbrev judged : List (List ℕ) → Option (ℕ × Cause)
judged proof = refusal 2 four.clauses (log_of_lines (drop 6 (split_lines (certificate proof))))

accepted : judged (codes "5 1 0 1 2 0" ∷ codes "6 0 5 3 4 0" ∷ []) ≡ None
accepted = refl

accepted_text : check_text (judged (codes "5 1 0 1 2 0" ∷ codes "6 0 5 3 4 0" ∷ [])) ≡ lines (codes "accepted" ∷ [])
accepted_text = refl

-- too few hints give no conflict
no_conflict : check_text (judged (codes "5 1 0 1 0" ∷ codes "6 0 5 3 4 0" ∷ [])) ≡ lines (codes "proof: line 1 L8 NoConflict" ∷ [])
unfolding digits
no_conflict = refl

-- a blank line, a missing 0, a word, a third list, a negative id, a negative number that is deleted, and a number above 2 ^ 62 are not of the grammar
bad_lines : log_of (lines ([] ∷ [])) ≡ Bad ∷ []
bad_lines = refl

bad_1 : judged (codes "5 1 0 1 2" ∷ []) ≡ Some (1, NotOfGrammar)
bad_1 = refl

bad_2 : judged (codes "5 1 0 1 x 0" ∷ []) ≡ Some (1, NotOfGrammar)
bad_2 = refl

bad_3 : judged (codes "5 1 0 1 2 0 3 0" ∷ []) ≡ Some (1, NotOfGrammar)
bad_3 = refl

bad_4 : judged (codes "-5 1 0 1 2 0" ∷ []) ≡ Some (1, NotOfGrammar)
bad_4 = refl

bad_5 : judged (codes "5 d -1 0" ∷ []) ≡ Some (1, NotOfGrammar)
bad_5 = refl

bad_6 : judged (codes "5 1 0 1 4611686018427387905 0" ∷ []) ≡ Some (1, NotOfGrammar)
bad_6 = refl

bad_7 : judged (codes "c 1" ∷ []) ≡ Some (1, NotOfGrammar)
bad_7 = refl

-- 2 ^ 62 is of the grammar, blanks are any number of blanks, and -0 is 0
greatest : judged (codes "5 1 0 1 4611686018427387904 0" ∷ []) ≡ Some (1, UnknownHint)
greatest = refl

blanks : log_of (9 ∷ codes " 5  1 -0" ++ 9 ∷ codes "1 2 0  ") ≡ Add 5 (pos 1 ∷ []) (ById 1 ∷ ById 2 ∷ []) ∷ []
blanks = refl

-- lines that have no text are refused as those that are not of the grammar: a 0 among the hints, and a number above 2 ^ 62
no_text_1 : refusal 2 four.clauses (Add 5 (pos 1 ∷ []) (ById 1 ∷ ById 0 ∷ []) ∷ []) ≡ Some (1, NotOfGrammar)
no_text_1 = refl

no_text_2 : refusal 2 four.clauses (Delete 4611686018427387905 [] ∷ []) ≡ Some (1, NotOfGrammar)
no_text_2 = refl

-- each other cause; a line is refused for the first that applies
id_not_above : judged (codes "3 1 0 1 2 0" ∷ []) ≡ Some (1, IdNotAbove)
id_not_above = refl

id_zero : judged (codes "0 1 0 1 2 0" ∷ []) ≡ Some (1, IdNotAbove)
id_zero = refl

variable_above : judged (codes "5 3 0 1 2 0" ∷ []) ≡ Some (1, VariableAbove)
variable_above = refl

tautology : judged (codes "5 1 -1 0 1 0" ∷ []) ≡ Some (1, Tautology)
tautology = refl

negative_hint : judged (codes "5 1 0 -1 0" ∷ []) ≡ Some (1, NegativeHint)
negative_hint = refl

negative_behind : judged (codes "5 1 0 1 2 -1 0" ∷ []) ≡ Some (1, NegativeHint)
negative_behind = refl

unknown_hint : judged (codes "5 1 0 9 0" ∷ []) ≡ Some (1, UnknownHint)
unknown_hint = refl

not_unit : judged (codes "5 0 1 0" ∷ []) ≡ Some (1, NotUnit)
not_unit = refl

-- a hint whose literal is true already is no unit, so a second use of a clause is refused
used_twice : judged (codes "5 1 0 1 1 2 0" ∷ []) ≡ Some (1, NotUnit)
used_twice = refl

no_empty_clause : judged (codes "5 1 0 1 2 0" ∷ []) ≡ Some (2, NoEmptyClause)
no_empty_clause = refl

-- a deleted clause is absent
deleted : judged (codes "5 d 1 0" ∷ codes "6 1 0 1 2 0" ∷ []) ≡ Some (2, UnknownHint)
deleted = refl

-- deleting an absent clause does nothing; the id of a deletion may repeat one, and counts for later ids
absent : judged (codes "4 d 9 0" ∷ codes "5 1 0 1 2 0" ∷ codes "6 0 5 3 4 0" ∷ []) ≡ None
absent = refl

deletion_counts : judged (codes "5 d 9 0" ∷ codes "5 1 0 1 2 0" ∷ []) ≡ Some (2, IdNotAbove)
deletion_counts = refl

deletion_behind : judged (codes "7 1 0 1 2 0" ∷ codes "3 d 9 0" ∷ codes "6 0 7 3 4 0" ∷ []) ≡ Some (3, IdNotAbove)
deletion_behind = refl

-- a literal that stands twice in a hint's clause counts once
repeated : refusal 2 ((pos 1 ∷ pos 1 ∷ []) ∷ (neg 1 ∷ neg 1 ∷ []) ∷ []) (Add 3 [] (ById 1 ∷ ById 2 ∷ []) ∷ []) ≡ None
repeated = refl

-- behind the conflict hints are not looked at, and behind the empty clause lines must only be of the grammar
behind_conflict : judged (codes "5 1 0 1 2 99 0" ∷ codes "6 0 5 3 4 0" ∷ []) ≡ None
behind_conflict = refl

behind_empty : judged (codes "5 1 0 1 2 0" ∷ codes "6 0 5 3 4 0" ∷ codes "1 7 -7 0 -99 0" ∷ codes "0 d 0" ∷ []) ≡ None
behind_empty = refl

bad_behind_empty : judged (codes "5 1 0 1 2 0" ∷ codes "6 0 5 3 4 0" ∷ codes "7 8" ∷ []) ≡ Some (3, NotOfGrammar)
bad_behind_empty = refl

-- comments, blanks, and clauses that go over lines; leading zeros, and -0 for 0
abbrev one_clause : Cnf
one_clause = record { variables = 3; clauses = (pos 1 ∷ neg 3 ∷ []) ∷ [] }

loose : cnf_of (lines (codes "c proof" ∷ [] ∷ codes " p  cnf 03 1" ∷ codes "01" ∷ codes "  c 5 0" ∷ codes " -3 -0 " ∷ codes "proof" ∷ [])) ≡
    Clauses one_clause 7
loose = refl

no_clause : cnf_of (codes "p cnf 0 0" ++ 10 ∷ codes "proof") ≡ Clauses (record { variables = 0; clauses = [] }) 2
no_clause = refl

-- words that are no numbers, and malformed or signed headers
token_1 : cnf_of (lines (codes "p cnf 2 1" ∷ codes "1 +2 0" ∷ [])) ≡ RefusedAt 2 TokenFault
token_1 = refl

token_2 : cnf_of (lines (codes "p cnf 2 -1" ∷ [])) ≡ RefusedAt 1 TokenFault
token_2 = refl

token_3 : cnf_of (lines (codes "p cnf 2" ∷ [])) ≡ RefusedAt 1 TokenFault
token_3 = refl

token_4 : cnf_of (lines (codes "comment" ∷ [])) ≡ RefusedAt 1 TokenFault
token_4 = refl

token_5 : cnf_of (lines (codes "p cnf 2 1" ∷ codes "1 0" ∷ codes " proof" ∷ [])) ≡ RefusedAt 3 TokenFault
token_5 = refl

token_6 : cnf_of (lines (codes "p cnf 2 1" ∷ codes "9 x 0" ∷ [])) ≡ RefusedAt 2 TokenFault
token_6 = refl

-- a header that is missing, a second one, and one with a number above 2 ^ 30
header_1 : cnf_of (lines (codes "c none" ∷ codes "1 0" ∷ [])) ≡ RefusedAt 2 HeaderFault
header_1 = refl

header_2 : cnf_of (lines (codes "c none" ∷ codes "proof" ∷ [])) ≡ RefusedAt 2 HeaderFault
header_2 = refl

header_3 : cnf_of [] ≡ RefusedAt 1 HeaderFault
header_3 = refl

header_4 : cnf_of (lines (codes "p cnf 2 1" ∷ codes "1 0" ∷ codes "p cnf 2 1" ∷ [])) ≡ RefusedAt 3 HeaderFault
header_4 = refl

header_5 : cnf_of (lines (codes "p cnf 1073741825 0" ∷ [])) ≡ RefusedAt 1 HeaderFault
header_5 = refl

header_6 : cnf_of (lines (codes "p cnf 1073741824 0" ∷ codes "proof" ∷ [])) ≡ Clauses (record { variables = 1073741824; clauses = [] }) 2
header_6 = refl

-- a variable above those of the header, however large
variable_1 : cnf_of (lines (codes "c a comment" ∷ codes "p cnf 2 1" ∷ codes "1 3 0" ∷ [])) ≡ RefusedAt 3 VariableFault
variable_1 = refl

variable_2 : cnf_of (lines (codes "p cnf 2 1" ∷ codes "-9999999999999999999999999" ∷ [])) ≡ RefusedAt 2 VariableFault
variable_2 = refl

-- too few clauses, too many, and one that isn't ended
count_1 : cnf_of (lines (codes "p cnf 2 2" ∷ codes "1 0" ∷ codes "proof" ∷ [])) ≡ RefusedAt 3 CountFault
count_1 = refl

count_2 : cnf_of (lines (codes "p cnf 2 1" ∷ codes "1 0 2 0" ∷ codes "c more" ∷ codes "proof" ∷ [])) ≡ RefusedAt 4 CountFault
count_2 = refl

count_3 : cnf_of (lines (codes "p cnf 2 1" ∷ codes "1" ∷ codes "proof" ∷ [])) ≡ RefusedAt 3 CountFault
count_3 = refl

count_4 : cnf_of (lines (codes "p cnf 2 1" ∷ codes "1" ∷ [])) ≡ RefusedAt 3 CountFault
count_4 = refl

-- no line proof
proof_missing : cnf_of (lines (codes "p cnf 2 1" ∷ codes "1 0" ∷ [])) ≡ RefusedAt 3 ProofFault
proof_missing = refl
