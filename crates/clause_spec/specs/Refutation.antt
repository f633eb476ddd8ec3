-- Refutations: the lines of a log in order, the clauses that are present, the first refused line and its first cause. The lines are those of LRAT: a line adds
-- a clause that follows from the present ones by unit propagation along its hints, or deletes clauses.
use Rattle.std.specs.Prelude.{◌≡◌, ℕ, zero, suc, ◌+◌, ◌^◌, max, Bool, true, false, not, ◌&&◌, ◌||◌, if◌then◌else◌, ◌==◌, nat_eq, nat_lt, nat_le, List, [], ◌∷◌, Option, Some, None, slice_get, length}
use Rattle.std.specs.List.{list_all, list_any}
use Rattle.clause_spec.specs.Clauses.{Literal, Clause, same, has, opposite, Cnf}
use Rattle.clause_spec.specs.UnitPropagation.{negations}

-- a hint: the id of a clause, or a negative number, which this profile refuses
pub data Hint : Type 0 where
  ById : ℕ → Hint
  Negative : ℕ → Hint

-- a line of a log: a clause that is added under an id with its hints, or ids that are deleted by a line with an id of its own, or what is no line
pub data LogLine : Type 0 where
  Add : ℕ → Clause → List Hint → LogLine
  Delete : ℕ → List ℕ → LogLine
  Bad : LogLine

-- Why a line is refused, in the order in which a line is judged: it is not of the grammar; its id is not above every id before; a variable is above those of
-- the clauses; a literal stands beside its opposite; a hint is negative; a hint names no present clause; the clause of a hint is neither a unit nor a conflict;
-- no hint led to a conflict. The last cause is that of the log's end: no line added the empty clause.
pub data Cause : Type 0 where
  NotOfGrammar : Cause
  IdNotAbove : Cause
  VariableAbove : Cause
  Tautology : Cause
  NegativeHint : Cause
  UnknownHint : Cause
  NotUnit : Cause
  NoConflict : Cause
  NoEmptyClause : Cause

-- the greatest number of a log's grammar
abbrev pub greatest_number : ℕ
greatest_number = 2 ^ 62

-- a number that can stand in a list, which a 0 would end
abbrev pub is_listed : ℕ → Bool
is_listed n = nat_lt 0 n && nat_le n greatest_number

-- the number of a hint, without its sign
abbrev pub hint_size : Hint → ℕ
hint_size (ById n) = n
hint_size (Negative n) = n

-- the line is one that the grammar has: no number is above the greatest, and none in a list is 0
abbrev pub is_of_grammar : LogLine → Bool
is_of_grammar (Add id c hints) =
    nat_le id greatest_number && list_all (λ l. is_listed l.variable) c && list_all (λ h. is_listed (hint_size h)) hints
is_of_grammar (Delete id ids) = nat_le id greatest_number && list_all is_listed ids
is_of_grammar Bad = false

-- what a clause is under a test of the literals that are true
pub data Look : Type 0 where
  Conflict : Look
  UnitOf : Literal → Look
  Other : Look

-- each literal is this one
abbrev pub all_same : Literal → Clause → Bool
all_same l [] = true
all_same l (m ∷ ms) = same m l && all_same l ms

-- the literals that are not false, where holds tells the true ones
abbrev pub left_over : (Literal → Bool) → Clause → Clause
left_over holds [] = []
left_over holds (m ∷ ms) = if holds (opposite m) then left_over holds ms else m ∷ left_over holds ms

-- what is left of a clause: nothing, one literal that isn't true yet, or something else
abbrev pub look_left : (Literal → Bool) → Clause → Look
look_left holds [] = Conflict
look_left holds (l ∷ ls) = if all_same l ls && not (holds l) then UnitOf l else Other

-- all false: a conflict; all false but one that is unassigned, however often it stands there: a unit
abbrev pub look_of : (Literal → Bool) → Clause → Look
look_of holds c = look_left holds (left_over holds c)

-- the clauses that are present, by their ids
abbrev pub Present : Type 0
Present = ℕ → Option Clause

-- the first ids are the clauses, from 1 on
abbrev pub at_start : List Clause → Present
at_start cs zero = None
at_start cs (suc i) = slice_get cs i

-- what is present after a line; deleting an absent clause does nothing
abbrev pub present_after : Present → LogLine → Present
present_after p (Add id c hints) i = if i == id then Some c else p i
present_after p (Delete id ids) i = if list_any (nat_eq i) ids then None else p i
present_after p Bad i = p i

-- after a hint's clause: the conflict, one more literal, or a refusal
abbrev pub after_look : Look → (Literal → Option Cause) → Option Cause
after_look Conflict go = None
after_look (UnitOf l) go = go l
after_look Other go = Some NotUnit

-- after a hint's id: its clause must be present
abbrev pub after_lookup : Option Clause → (Literal → Bool) → (Literal → Option Cause) → Option Cause
after_lookup None holds go = Some UnknownHint
after_lookup (Some c) holds go = after_look (look_of holds c) go

-- the literals of `holds`, and l
abbrev pub added : Literal → (Literal → Bool) → Literal → Bool
added l holds m = same l m || holds m

-- the hints, taken in order, where `holds` tells the literals that are true by now: a conflict ends them
abbrev pub judge_hints : Present → (Literal → Bool) → List Hint → Option Cause
judge_hints p holds [] = Some NoConflict
judge_hints p holds (Negative n ∷ hs) = Some UnknownHint
judge_hints p holds (ById i ∷ hs) = after_lookup (p i) holds (λ l. judge_hints p (added l holds) hs)

-- some literal's variable is above n
abbrev pub some_above : ℕ → Clause → Bool
some_above n [] = false
some_above n (l ∷ ls) = nat_lt n l.variable || some_above n ls

-- the clause has a literal and its opposite
abbrev pub is_tautology : Clause → Bool
is_tautology [] = false
is_tautology (l ∷ ls) = has ls (opposite l) || is_tautology ls

-- the hint is negative
abbrev pub is_negative_hint : Hint → Bool
is_negative_hint (ById i) = false
is_negative_hint (Negative n) = true

-- some hint is negative
abbrev pub some_negative : List Hint → Bool
some_negative [] = false
some_negative (h ∷ hs) = is_negative_hint h || some_negative hs

-- what is known before a line: the greatest id of the lines and clauses so far, the clauses that are present, and whether the empty clause was added
pub record Known : Type 0 where
  pub last : ℕ
  pub present : Present
  pub ended : Bool

-- before the first line
abbrev pub known_at_start : List Clause → Known
known_at_start cs = record { last = length cs; present = at_start cs; ended = false }

-- the clause has no literal
abbrev pub is_empty_clause : Clause → Bool
is_empty_clause [] = true
is_empty_clause (l ∷ ls) = false

-- after a line; the id of a deletion counts as the others do
abbrev pub known_after_line : Known → LogLine → Known
known_after_line k (Add id c hints) = record { last = max k.last id; present = present_after k.present (Add id c hints); ended = is_empty_clause c }
known_after_line k (Delete id ids) = record { last = max k.last id; present = present_after k.present (Delete id ids); ended = k.ended }
known_after_line k Bad = k

-- once the empty clause has come, nothing more is learned
abbrev pub known_after : Known → LogLine → Known
known_after k l = if k.ended then k else known_after_line k l

-- the cause where it applies, and else the first of the rest
abbrev pub first_of_two : Bool → Cause → Option Cause → Option Cause
first_of_two true e rest = Some e
first_of_two false e rest = rest

-- the first cause for which an added clause is refused
abbrev pub judge_added : ℕ → Known → ℕ → Clause → List Hint → Option Cause
judge_added n k id c hints =
    first_of_two (nat_le id k.last) IdNotAbove
    (first_of_two (some_above n c) VariableAbove
    (first_of_two (is_tautology c) Tautology
    (first_of_two (some_negative hints) NegativeHint
    (judge_hints k.present (negations c) hints))))

-- the first cause for which a line of the grammar is refused; once the empty clause has come, a line must only be of the grammar
abbrev pub judge_of_grammar : ℕ → Known → LogLine → Option Cause
judge_of_grammar n k (Add id c hints) = if k.ended then None else judge_added n k id c hints
judge_of_grammar n k (Delete id ids) = None
judge_of_grammar n k Bad = None

-- the first cause for which a line is refused, over clauses with n variables
abbrev pub judge : ℕ → Known → LogLine → Option Cause
judge n k l = first_of_two (not (is_of_grammar l)) NotOfGrammar (judge_of_grammar n k l)

-- the refusal of a line, or that of the rest
abbrev pub after_judge : Option Cause → ℕ → Option (ℕ × Cause) → Option (ℕ × Cause)
after_judge None line rest = rest
after_judge (Some e) line rest = Some (line, e)

-- the first refused line, by its number, with its first cause; `line` is the number of the first one given
abbrev pub first_refusal : ℕ → Known → ℕ → List LogLine → Option (ℕ × Cause)
first_refusal n k line [] = if k.ended then None else Some (line, NoEmptyClause)
first_refusal n k line (l ∷ ls) = after_judge (judge n k l) line (first_refusal n (known_after k l) (line + 1) ls)

-- the first refused line of a log over clauses with n variables
abbrev pub refusal : ℕ → List Clause → List LogLine → Option (ℕ × Cause)
refusal n cs ls = first_refusal n (known_at_start cs) 1 ls

-- no line of the log is refused
abbrev pub IsRefutation : ℕ → List Clause → List LogLine → Type 0
IsRefutation n cs ls = refusal n cs ls ≡ None

-- the log is refused: this is its first refused line, with its first cause
abbrev pub IsRefusedAt : ℕ → List Clause → List LogLine → (line : ℕ) → Cause → Type 0
IsRefusedAt n cs ls line cause = refusal n cs ls ≡ Some (line, cause)

-- clauses with a log
pub record Proof : Type 0 where
  pub clauses : Cnf
  pub log : List LogLine
