-- What a text of clauses says, and why it is refused (DIMACS CNF: comments, the line p cnf, clauses that 0 ends, with blanks and line ends alike); and the
-- lines of a proof (LRAT). A certificate is a text of clauses, a line proof, and the lines of a proof.
use Rattle.std.specs.Prelude.{ℕ, ◌+◌, ◌^◌, Bool, true, false, ◌==◌, ◌&&◌, not, nat_lt, nat_le, if◌then◌else◌, List, [], ◌∷◌, ◌++◌, Option, Some, None, codes, length, map, filter}
use Rattle.std.specs.List.{list_all, list_any}
use Rattle.std.specs.Str.{bytes_eq}
use Rattle.std.specs.Str.Parse.{digits_value}
use Rattle.word_spec.specs.Texts.{is_blank, are_digits, split_lines}
use Rattle.clause_spec.specs.Clauses.{Literal, Clause, Cnf}
use Rattle.clause_spec.specs.Refutation.{LogLine, Add, Delete, Bad, Hint, ById, Negative, is_of_grammar}

-- an element before the first list
abbrev pub before_first : {A : Type 0} → A → List (List A) → List (List A)
before_first x [] = (x ∷ []) ∷ []
before_first x (xs ∷ rest) = (x ∷ xs) ∷ rest

-- the parts of a list: an element that passes a test ends a part, and belongs to none; what stands behind the last one is a part where it isn't empty
abbrev pub parts : {A : Type 0} → (ends : A → Bool) → List A → List (List A)
parts ends [] = []
parts ends (x ∷ xs) = if ends x then [] ∷ parts ends xs else before_first x (parts ends xs)

-- some byte stands there
abbrev pub is_word : List ℕ → Bool
is_word [] = false
is_word (b ∷ rest) = true

-- the words of a line stand between blanks
abbrev pub words_of : List ℕ → List (List ℕ)
words_of text = filter is_word (parts is_blank text)

-- a whole number: its absolute value, and whether it is below 0
pub record Integer : Type 0 where
  pub negative : Bool
  pub size : ℕ

-- the number of digits behind a minus sign or none; -0 is 0
abbrev pub number_if : (digits minus : Bool) → ℕ → Option Integer
number_if true minus n = Some (record { negative = minus && nat_lt 0 n; size = n })
number_if false minus n = None

-- the digits of a word, which may stand behind a minus sign
abbrev pub number_by : (minus : Bool) → (word : List ℕ) → Option Integer
number_by minus digits = number_if (are_digits 10 digits) minus (digits_value 10 digits)

-- the minus sign
abbrev pub minus_sign : ℕ
minus_sign = 45

-- the number that a word is: digits, which may stand behind a minus sign
abbrev pub integer_of : (word : List ℕ) → Option Integer
integer_of [] = None
integer_of (b ∷ rest) = if b == minus_sign then number_by true rest else number_by false (b ∷ rest)

-- a number before numbers
abbrev pub number_before : Option Integer → Option (List Integer) → Option (List Integer)
number_before (Some n) (Some ns) = Some (n ∷ ns)
number_before (Some n) None = None
number_before None ns = None

-- the numbers that words are, if each is one
abbrev pub numbers_of : (words : List (List ℕ)) → Option (List Integer)
numbers_of [] = Some []
numbers_of (w ∷ ws) = number_before (integer_of w) (numbers_of ws)

-- the number is 0, which ends a list
abbrev pub is_zero : Integer → Bool
is_zero n = n.size == 0

-- the last number is 0, or there is none
abbrev pub is_ended : List Integer → Bool
is_ended [] = true
is_ended (n ∷ []) = is_zero n
is_ended (n ∷ m ∷ ns) = is_ended (m ∷ ns)

-- the literal of a number
abbrev pub literal_of : Integer → Literal
literal_of n = record { variable = n.size; positive = not n.negative }

-- the lists of literals that 0 ends
abbrev pub clauses_in : List Integer → List Clause
clauses_in ns = map (map literal_of) (parts is_zero ns)

-- a number is a hint
abbrev pub hint_by : (negative : Bool) → ℕ → Hint
hint_by false n = ById n
hint_by true n = Negative n

-- the hint of a number
abbrev pub hint_of : Integer → Hint
hint_of n = hint_by n.negative n.size

-- LRAT's line that adds a clause: literals, 0, hints, 0
abbrev pub added_by : (id : ℕ) → (ended : Bool) → List (List Integer) → LogLine
added_by id true (literals ∷ hints ∷ []) = Add id (map literal_of literals) (map hint_of hints)
added_by id ended lists = Bad

-- LRAT's line that deletes clauses, behind the d: ids, none of them negative, and 0
abbrev pub deleted_by : (id : ℕ) → (lawful : Bool) → List (List Integer) → LogLine
deleted_by id true (ids ∷ []) = Delete id (map (λ n. n.size) ids)
deleted_by id lawful lists = Bad

-- some number is negative
abbrev pub some_below : List Integer → Bool
some_below ns = list_any (λ n. n.negative) ns

-- the numbers of a line that adds a clause, and of one that deletes clauses, behind its id
abbrev pub line_of_numbers : (deletes : Bool) → (id : ℕ) → Option (List Integer) → LogLine
line_of_numbers deletes id None = Bad
line_of_numbers false id (Some ns) = added_by id (is_ended ns) (parts is_zero ns)
line_of_numbers true id (Some ns) = deleted_by id (is_ended ns && not (some_below ns)) (parts is_zero ns)

-- the words of a line behind its id; the first may be d
abbrev pub line_behind_id : (id : ℕ) → List (List ℕ) → LogLine
line_behind_id id [] = Bad
line_behind_id id (w ∷ ws) =
    if bytes_eq w (codes "d") then line_of_numbers true id (numbers_of ws) else line_of_numbers false id (numbers_of (w ∷ ws))

-- a line behind its id, which is not negative
abbrev pub line_by_id : (negative : Bool) → (id : ℕ) → List (List ℕ) → LogLine
line_by_id false id ws = line_behind_id id ws
line_by_id true id ws = Bad

-- a line whose first word is a number
abbrev pub line_by_number : Option Integer → List (List ℕ) → LogLine
line_by_number None ws = Bad
line_by_number (Some n) ws = line_by_id n.negative n.size ws

-- the line of words
abbrev pub clauses_line : List (List ℕ) → LogLine
clauses_line [] = Bad
clauses_line (w ∷ ws) = line_by_number (integer_of w) ws

-- the line where it is of the grammar, whose numbers are bounded
abbrev pub bounded : (is_of_grammar : Bool) → LogLine → LogLine
bounded true l = l
bounded false l = Bad

-- a line of a proof
abbrev pub proof_line : List ℕ → LogLine
proof_line text = let l = clauses_line (words_of text) in bounded (is_of_grammar l) l

-- a line, and the rest where it is a line of the grammar
abbrev pub until_bad : LogLine → List LogLine → List LogLine
until_bad Bad rest = Bad ∷ []
until_bad (Add id c hints) rest = Add id c hints ∷ rest
until_bad (Delete id ids) rest = Delete id ids ∷ rest

-- the log of the lines of a proof, up to the first line that is not of the grammar
abbrev pub log_of_lines : List (List ℕ) → List LogLine
log_of_lines [] = []
log_of_lines (t ∷ ts) = until_bad (proof_line t) (log_of_lines ts)

-- the log of the text of a proof
abbrev pub log_of : List ℕ → List LogLine
log_of text = log_of_lines (split_lines text)

-- Why a text of clauses is refused: a word that can't stand there, a malformed line p cnf among them; no such line where it is needed, a second one, or one
-- with a number above 2 ^ 30; a variable above those of the line p cnf; not as many clauses as it says, or the last not ended; no line proof.
pub data CnfFault : Type 0 where
  TokenFault : CnfFault
  HeaderFault : CnfFault
  VariableFault : CnfFault
  CountFault : CnfFault
  ProofFault : CnfFault

-- the numbers of a line p cnf: of variables, and of clauses
pub record Header : Type 0 where
  pub variables : ℕ
  pub clauses : ℕ

-- a line of a text of clauses; a blank line is one of no numbers
pub data CnfLine : Type 0 where
  Comment : CnfLine
  HeaderLine : Header → CnfLine
  Numbers : List Integer → CnfLine
  NoCnfLine : CnfLine

-- a line of numbers, if its words are numbers
abbrev pub numbers_line : Option (List Integer) → CnfLine
numbers_line None = NoCnfLine
numbers_line (Some ns) = Numbers ns

-- the two words behind p cnf are digits
abbrev pub header_line : (lawful : Bool) → (variables clauses : ℕ) → CnfLine
header_line true v m = HeaderLine (record { variables = v; clauses = m })
header_line false v m = NoCnfLine

-- the words behind p
abbrev pub behind_p : List (List ℕ) → CnfLine
behind_p (w ∷ v ∷ m ∷ []) = header_line (bytes_eq w (codes "cnf") && are_digits 10 v && are_digits 10 m) (digits_value 10 v) (digits_value 10 m)
behind_p ws = NoCnfLine

-- the line of words: the first tells what it is
abbrev pub cnf_line_of_words : List (List ℕ) → CnfLine
cnf_line_of_words [] = Numbers []
cnf_line_of_words (w ∷ ws) =
    if bytes_eq w (codes "c") then Comment else if bytes_eq w (codes "p") then behind_p ws else numbers_line (numbers_of (w ∷ ws))

-- the line of a text
abbrev pub cnf_line : List ℕ → CnfLine
cnf_line text = cnf_line_of_words (words_of text)

-- the header that a line gives, where there was none before
abbrev pub header_after : Option Header → CnfLine → Option Header
header_after None (HeaderLine h) = Some h
header_after header l = header

-- the greatest number of variables, and of clauses
abbrev pub greatest_count : ℕ
greatest_count = 2 ^ 30

-- the header's numbers are within their bounds
abbrev pub is_small : Header → Bool
is_small h = nat_le h.variables greatest_count && nat_le h.clauses greatest_count

-- the fault where a test fails
abbrev pub fault_unless : Bool → CnfFault → Option CnfFault
fault_unless true f = None
fault_unless false f = Some f

-- numbers stand behind the header, and none is above its variables
abbrev pub numbers_fault : Option Header → List Integer → Option CnfFault
numbers_fault header [] = None
numbers_fault None (n ∷ ns) = Some HeaderFault
numbers_fault (Some h) (n ∷ ns) = fault_unless (list_all (λ i. nat_le i.size h.variables) (n ∷ ns)) VariableFault

-- why a line is refused behind the header of the lines before it; it is the least fault
abbrev pub line_fault : Option Header → CnfLine → Option CnfFault
line_fault header NoCnfLine = Some TokenFault
line_fault header Comment = None
line_fault None (HeaderLine h) = fault_unless (is_small h) HeaderFault
line_fault (Some h) (HeaderLine other) = Some HeaderFault
line_fault header (Numbers ns) = numbers_fault header ns

-- the numbers of a line
abbrev pub numbers_in : CnfLine → List Integer
numbers_in (Numbers ns) = ns
numbers_in l = []

-- the clauses of a certificate, with the number of lines up to the line proof; or the first refused line and its fault
pub data CnfAnswer : Type 0 where
  Clauses : Cnf → ℕ → CnfAnswer
  RefusedAt : ℕ → CnfFault → CnfAnswer

-- as many clauses as the header says, the last of them ended
abbrev pub is_counted : Header → List Integer → Bool
is_counted h ns = is_ended ns && (length (clauses_in ns) == h.clauses)

-- what the header and all numbers before a line proof say; n is that line's number
abbrev pub clauses_if : (counted : Bool) → (n : ℕ) → Header → List Integer → CnfAnswer
clauses_if true n h ns = Clauses (record { variables = h.variables; clauses = clauses_in ns }) n
clauses_if false n h ns = RefusedAt n CountFault

-- at the line proof
abbrev pub at_proof : (n : ℕ) → Option Header → List Integer → CnfAnswer
at_proof n None ns = RefusedAt n HeaderFault
at_proof n (Some h) ns = clauses_if (is_counted h ns) n h ns

-- where no line proof came; n is the number of the line after the last
abbrev pub at_end : (n : ℕ) → Option Header → List Integer → CnfAnswer
at_end n None ns = RefusedAt n HeaderFault
at_end n (Some h) ns = RefusedAt n (if is_counted h ns then ProofFault else CountFault)

-- the line's refusal, or the answer of the lines behind it
abbrev pub clauses_refused_or : Option CnfFault → (n : ℕ) → CnfAnswer → CnfAnswer
clauses_refused_or (Some f) n rest = RefusedAt n f
clauses_refused_or None n rest = rest

-- the answer of lines from number n on, behind lines with this header and these numbers
abbrev pub answer_from : (n : ℕ) → Option Header → List Integer → (lines : List (List ℕ)) → CnfAnswer
answer_from n header before [] = at_end n header before
answer_from n header before (t ∷ ts) =
    if bytes_eq t (codes "proof") then at_proof n header before
    else clauses_refused_or (line_fault header (cnf_line t)) n
    (answer_from (n + 1) (header_after header (cnf_line t)) (before ++ numbers_in (cnf_line t)) ts)

-- what the clauses of a certificate are, or the first refused line with its least fault
abbrev pub cnf_of : List ℕ → CnfAnswer
cnf_of text = answer_from 1 None [] (split_lines text)
