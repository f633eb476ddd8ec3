-- The lines of a template, and the notes that it stands for: one line of notes for each line.
use Rattle.std.specs.Prelude.{ℕ, ◌+◌, ◌-◌, ◌^◌, ◌==◌, ◌&&◌, ◌||◌, Bool, true, false, not, nat_lt, if◌then◌else◌, List, [], ◌∷◌, ◌++◌, Option, Some, None, Result, Ok, Err, length, codes, map, take, drop, take_while}
use Rattle.std.specs.List.{concat, list_all, prefix_len}
use Rattle.std.specs.Option.{option_map}
use Rattle.std.specs.Str.{bytes_eq}
use Rattle.std.specs.Str.Lossy.{utf8_lossy}
use Rattle.word_spec.specs.Texts.{word_text, joined, spaced, in_front, is_blank}
use Rattle.word_spec.specs.Tokens.{Token, NumberToken, NameToken, SignToken, BadByte, BadText}
use Rattle.symbol_table.specs.Symbols.{Symbol, Lookup, Missing, One, Ambiguous, lookup}
use Rattle.note_template.specs.Templates.{Refusal, UnknownSymbol, AmbiguousSymbol, WrongForm, LongLine, Fault, behind, tokens_in, spelled}

-- the machine that notes are for
pub data Machine : Type 0 where
  RiscV : Machine
  Arm : Machine

-- the registers that a call leaves as they were (RISC-V ELF psABI, "Integer Register Convention"; AAPCS, "Core registers")
abbrev pub saved : Machine → List (List ℕ)
saved RiscV =
    codes "sp" ∷ codes "gp" ∷ codes "tp" ∷ codes "s0" ∷ codes "s1" ∷ codes "s2" ∷ codes "s3" ∷ codes "s4" ∷ codes "s5" ∷ codes "s6" ∷ codes "s7" ∷
    codes "s8" ∷ codes "s9" ∷ codes "s10" ∷ codes "s11" ∷ []
saved Arm = codes "sp" ∷ codes "r4" ∷ codes "r5" ∷ codes "r6" ∷ codes "r7" ∷ codes "r8" ∷ codes "r9" ∷ codes "r10" ∷ codes "r11" ∷ []

-- the registers and flags that a call may change
abbrev pub changed : Machine → List (List ℕ)
changed RiscV =
    codes "ra" ∷ codes "t0" ∷ codes "t1" ∷ codes "t2" ∷ codes "t3" ∷ codes "t4" ∷ codes "t5" ∷ codes "t6" ∷ codes "a0" ∷ codes "a1" ∷ codes "a2" ∷
    codes "a3" ∷ codes "a4" ∷ codes "a5" ∷ codes "a6" ∷ codes "a7" ∷ []
changed Arm =
    codes "r0" ∷ codes "r1" ∷ codes "r2" ∷ codes "r3" ∷ codes "r12" ∷ codes "lr" ∷ codes "N" ∷ codes "Z" ∷ codes "C" ∷ codes "V" ∷ []

-- a register that is no argument: at entry it may have any value, and so stands for any address
abbrev pub spare : Machine → List ℕ
spare RiscV = codes "t6"
spare Arm = codes "r12"

-- the names of that register
abbrev pub is_spare : Machine → List ℕ → Bool
is_spare RiscV w = bytes_eq w (codes "t6") || bytes_eq w (codes "x31")
is_spare Arm w = bytes_eq w (codes "r12") || bytes_eq w (codes "ip")

-- the bits of an address that are 0 where the stack is aligned
abbrev pub stack_mask : Machine → List ℕ
stack_mask RiscV = codes "15"
stack_mask Arm = codes "3"

-- a token of an expression: no number is too large, and it isn't the register that stands for any address
abbrev pub is_word : Machine → Token → Bool
is_word m (NumberToken n) = nat_lt n (2 ^ 32)
is_word m (NameToken w) = not (is_spare m w)
is_word m (SignToken s) = true
is_word m BadByte = false
is_word m BadText = false

-- a number or a name
abbrev pub is_operand : Machine → Token → Bool
is_operand m (SignToken s) = false
is_operand m t = is_word m t

-- the text of a token
abbrev pub token_text : Token → List ℕ
token_text (NumberToken n) = word_text n
token_text (NameToken w) = w
token_text (SignToken s) = s
token_text BadByte = []
token_text BadText = []

-- brackets
abbrev pub is_opening : List ℕ → Bool
is_opening s = bytes_eq s (codes "(") || bytes_eq s (codes "[")

abbrev pub is_closing : List ℕ → Bool
is_closing s = bytes_eq s (codes ")") || bytes_eq s (codes "]")

-- each bracket is closed and none is closed twice, where so many stand open before
abbrev pub is_closed : ℕ → List Token → Bool
is_closed n [] = n == 0
is_closed n (NumberToken v ∷ ts) = is_closed n ts
is_closed n (NameToken w ∷ ts) = is_closed n ts
is_closed n (SignToken s ∷ ts) =
    if is_opening s then is_closed (n + 1) ts else if is_closing s then (not (n == 0) && is_closed (n - 1) ts) else is_closed n ts
is_closed n (BadByte ∷ ts) = is_closed n ts
is_closed n (BadText ∷ ts) = is_closed n ts

-- an expression, as far as it matters here: words with brackets that are closed
abbrev pub is_expression : Machine → List Token → Bool
is_expression m ts = nat_lt 0 (length ts) && list_all (is_word m) ts && is_closed 0 ts

-- the tokens but the last, and the last
abbrev pub front_of : List Token → List Token
front_of ts = take (length ts - 1) ts

abbrev pub last_of : List Token → List Token
last_of ts = drop (length ts - 1) ts

-- an expression and behind it the number of bytes
abbrev pub is_range : Machine → List Token → Bool
is_range m ts = is_expression m (front_of ts) && list_all (is_operand m) (last_of ts)

-- how far the spare register is at entry from an expression's value there
abbrev pub distance : Machine → List Token → List ℕ
distance m es = codes "old(" ++ spare m ++ codes " - (" ++ joined (map token_text es)

-- that it is in the range
abbrev pub range_text : Machine → List Token → List ℕ
range_text m ts = distance m (front_of ts) ++ codes ") <u " ++ joined (map token_text (last_of ts)) ++ codes ") or "

-- that its byte is as at entry
abbrev pub same_text : Machine → List ℕ
same_text m = codes "mem8[old(" ++ spare m ++ codes ")] = old(mem8[" ++ spare m ++ codes "])"

-- no byte but those of the ranges and of the stack differs from entry
abbrev pub only_text : Machine → (stack : List ℕ) → List (List Token) → List ℕ
only_text m stack ranges = codes "ensure " ++ concat (map (range_text m) ranges) ++ stack ++ same_text m

-- a register is as at entry
abbrev pub kept_text : List ℕ → List ℕ
kept_text r = r ++ codes " = old(" ++ r ++ codes ")"

-- that of several, with `and` between two
abbrev pub all_kept : List (List ℕ) → List ℕ
all_kept [] = []
all_kept (r ∷ []) = kept_text r
all_kept (r ∷ s ∷ rs) = kept_text r ++ codes " and " ++ all_kept (s ∷ rs)

-- a text, if the line is in form
abbrev pub in_form : Bool → List ℕ → Result (List ℕ) Refusal
in_form right text = if right then Ok text else Err WrongForm

-- the one token that there is
abbrev pub sole : List Token → Option Token
sole (t ∷ []) = Some t
sole other = None

-- the two tokens that there are
abbrev pub pair : List Token → Option (Token × Token)
pair (t ∷ u ∷ []) = Some (t, u)
pair other = None

-- the line `abi A`
abbrev pub abi_at : Machine → Option Token → Result (List ℕ) Refusal
abi_at m None = Err WrongForm
abi_at m (Some at) = in_form (is_operand m at) (codes "modifies " ++ token_text at ++ spaced (changed m))

-- the line `abi`, or `abi A`
abbrev pub abi_line : Machine → List Token → Result (List ℕ) Refusal
abi_line m ts = if length ts == 0 then Ok (codes "ensure " ++ all_kept (saved m)) else abi_at m (sole ts)

-- both bounds are operands
abbrev pub are_bounds : Machine → Token × Token → Bool
are_bounds m bounds = is_operand m bounds.0 && is_operand m bounds.1

-- that the stack is aligned
abbrev pub aligned : Machine → List ℕ
aligned m = codes " and (sp & " ++ stack_mask m ++ codes ") = 0"

-- the line `stack LOW HIGH`
abbrev pub stack_within : Machine → Option (Token × Token) → Result (List ℕ) Refusal
stack_within m None = Err WrongForm
stack_within m (Some bounds) = in_form (are_bounds m bounds)
    (codes "require " ++ token_text bounds.0 ++ codes " <=u sp and sp <=u " ++ token_text bounds.1 ++ aligned m)

abbrev pub stack_line : Machine → List Token → Result (List ℕ) Refusal
stack_line m ts = stack_within m (pair ts)

-- the register gp has the value of a symbol
abbrev pub pointer_text : Lookup → Result (List ℕ) Refusal
pointer_text (Missing near) = Err (UnknownSymbol (option_map utf8_lossy near))
pointer_text Ambiguous = Err AmbiguousSymbol
pointer_text (One value size) = Ok (codes "require gp = " ++ word_text value)

-- the line `global`, which ARM hasn't (RISC-V ELF psABI, "Global-pointer relaxation")
abbrev pub global_line : Machine → List Symbol → List Token → Result (List ℕ) Refusal
global_line RiscV table ts = if length ts == 0 then pointer_text (lookup (codes "__global_pointer$") table) else Err WrongForm
global_line Arm table ts = Err WrongForm

-- the line `only RANGE, RANGE ..`
abbrev pub only_line : Machine → (stack : List ℕ) → List (List Token) → Result (List ℕ) Refusal
only_line m stack ranges = in_form (list_all (is_range m) ranges) (only_text m stack ranges)

-- the answer for a line without commas
abbrev pub undivided : List (List Token) → Result (List ℕ) Refusal → Result (List ℕ) Refusal
undivided more answer = if length more == 0 then answer else Err WrongForm

-- the words that begin lines of a template's own
pub data OwnWord : Type 0 where
  Abi : OwnWord
  Stack : OwnWord
  Global : OwnWord
  Only : OwnWord

abbrev pub own_word : List ℕ → Option OwnWord
own_word w =
    if bytes_eq w (codes "abi") then Some Abi else
    if bytes_eq w (codes "stack") then Some Stack else
    if bytes_eq w (codes "global") then Some Global else
    if bytes_eq w (codes "only") then Some Only else None

-- what stands for such a line, by the tokens behind its word and those of the phrases behind commas
abbrev pub own_line : Machine → List Symbol → (stack : List ℕ) → OwnWord → List Token → List (List Token) → Result (List ℕ) Refusal
own_line m table stack Abi ts more = undivided more (abi_line m ts)
own_line m table stack Stack ts more = undivided more (stack_line m ts)
own_line m table stack Global ts more = undivided more (global_line m table ts)
own_line m table stack Only ts more = only_line m stack (ts ∷ more)

-- What stands for a line, by the tokens of its phrases, which commas part; none where it is not a template's own.
abbrev pub rewritten : Machine → List Symbol → (stack : List ℕ) → List (List Token) → Option (Result (List ℕ) Refusal)
rewritten m table stack ((NameToken w ∷ ts) ∷ more) = option_map (λ own. own_line m table stack own ts more) (own_word w)
rewritten m table stack other = None

-- the parts of a text that a byte parts, one more than there are such bytes
abbrev pub parts : ℕ → List ℕ → List (List ℕ)
parts c [] = [] ∷ []
parts c (b ∷ rest) = if b == c then [] ∷ parts c rest else in_front b (parts c rest)

-- the tokens of the phrases of a line
abbrev pub phrases : List ℕ → List (List Token)
phrases text = map tokens_in (parts 44 text)

-- a line up to its comment or to a carriage return, and what stands from there on
abbrev pub is_inside : ℕ → Bool
is_inside b = not ((b == 35) || (b == 13))

abbrev pub head : List ℕ → List ℕ
head text = take_while is_inside text

abbrev pub tail : List ℕ → List ℕ
tail text = drop (length (head text)) text

-- the column of a line's first word
abbrev pub first_column : List ℕ → ℕ
first_column text = prefix_len is_blank text + 1

-- the text of a line up to its comment: what stands for it, or itself
abbrev pub chosen : (column : ℕ) → (text : List ℕ) → Option (Result (List ℕ) Refusal) → Result (List ℕ) Fault
chosen column text None = Ok text
chosen column text (Some (Ok own)) = Ok own
chosen column text (Some (Err r)) = Err (record { column = column; refusal = r })

-- so of a line whose forms are spelled
abbrev pub written : Machine → List Symbol → (stack : List ℕ) → (column : ℕ) → Result (List ℕ) Fault → Result (List ℕ) Fault
written m table stack column (Ok text) = chosen column text (rewritten m table stack (phrases text))
written m table stack column (Err e) = Err e

-- The text with the line's end. A line of notes has 1,024 bytes at most, and its carriage return is none of them.
abbrev pub ended : (tail : List ℕ) → Result (List ℕ) Fault → Result (List ℕ) Fault
ended tail (Ok text) =
    if nat_lt 1024 (length text + prefix_len (λ b. not (b == 13)) tail) then Err (record { column = 1; refusal = LongLine }) else Ok (text ++ tail)
ended tail (Err e) = Err e

-- what a line stands for
abbrev pub line_for : Machine → List Symbol → (stack : List ℕ) → List ℕ → Result (List ℕ) Fault
line_for m table stack text = ended (tail text) (written m table stack (first_column text) (spelled table false 0 1 (head text)))

-- that the spare register is in the stack at entry, between the bounds' lower one and the pointer
abbrev pub in_stack : Machine → (low : List ℕ) → List ℕ
in_stack m low = codes "old(" ++ spare m ++ codes " - " ++ low ++ codes " <u sp - " ++ low ++ codes ") or "

-- so of bounds in form
abbrev pub stack_by : Machine → Option (Token × Token) → Option (List ℕ)
stack_by m None = None
stack_by m (Some bounds) = if are_bounds m bounds then Some (in_stack m (token_text bounds.0)) else None

-- so of a stack line in form, by its tokens
abbrev pub stack_said : Machine → List Token → Option (List ℕ)
stack_said m (NameToken w ∷ ts) = if bytes_eq w (codes "stack") then stack_by m (pair ts) else None
stack_said m other = None

-- so of a line whose forms are spelled
abbrev pub stack_spelled : Machine → Result (List ℕ) Fault → Option (List ℕ)
stack_spelled m (Ok text) = stack_said m (tokens_in text)
stack_spelled m (Err e) = None

-- what is found, or else what is found later
abbrev pub or_later : Option (List ℕ) → List ℕ → List ℕ
or_later None later = later
or_later (Some found) later = found

-- what the first stack line in form says, and nothing where there is none
abbrev pub stack_part : Machine → List Symbol → List (List ℕ) → List ℕ
stack_part m table [] = []
stack_part m table (text ∷ texts) = or_later (stack_spelled m (spelled table false 0 1 (head text))) (stack_part m table texts)

-- a refusal, and in which line
pub record Refused : Type 0 where
  pub line : ℕ
  pub fault : Fault

-- an answer for line n
abbrev pub at_line : ℕ → Result (List ℕ) Fault → Result (List ℕ) Refused
at_line n (Ok text) = Ok text
at_line n (Err e) = Err (record { line = n; fault = e })

-- the first answer, and behind it the second
abbrev pub in_turn : Result (List ℕ) Refused → Result (List ℕ) Refused → Result (List ℕ) Refused
in_turn (Ok text) later = behind text later
in_turn (Err e) later = Err e

-- lines from line n on, with line feeds between them
abbrev pub lines_for : Machine → List Symbol → (stack : List ℕ) → ℕ → List (List ℕ) → Result (List ℕ) Refused
lines_for m table stack n [] = Ok []
lines_for m table stack n (text ∷ []) = at_line n (line_for m table stack text)
lines_for m table stack n (text ∷ next ∷ texts) =
    in_turn (at_line n (line_for m table stack text)) (behind (10 ∷ []) (lines_for m table stack (n + 1) (next ∷ texts)))

-- The notes that a template stands for, or the first refusal: first the first line, then its forms from the front on, then the form of the line, then its length.
abbrev pub expanded : Machine → List Symbol → List ℕ → Result (List ℕ) Refused
expanded m table template =
    let texts = parts 10 template in
    lines_for m table (stack_part m table texts) 1 texts
