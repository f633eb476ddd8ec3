-- The values of a line of notes and of its parts, in the state in which it was judged.
use Rattle.std.specs.Prelude.{ℕ, ◌==◌, Bool, true, false, if◌then◌else◌, List, [], ◌∷◌, ◌++◌, Option, Some, None, codes, map}
use Rattle.word_spec.specs.Memory.{Endian}
use Rattle.word_spec.specs.State.{State}
use Rattle.word_spec.specs.Texts.{word_text, lines}
use Rattle.bilv_spec.specs.Notes.{NoteLine, Assert, Op, Each, Expr, Number, Register, Flag, Pc, Bound, Memory, Old, Not, Binary, value, is_true}
use Rattle.trace_texts_spec.specs.Names.{Names}
use Rattle.trace_texts_spec.specs.NoteTexts.{text_at}

-- an `all` by its first two parts, once the first is known to be true or not
abbrev pub first_false : Bool → (one rest : Expr) → Expr
first_false true one rest = rest
first_false false one rest = one

-- two parts with an operator; of an `all` the first that is false
abbrev pub shown_binary : Endian → (now entry : State) → Op → (a b : Expr) → Expr
shown_binary e now entry Each a b = first_false (is_true (value e a now entry)) a b
shown_binary e now entry op a b = Binary op a b

-- What is shown of an expression: for each `all` its first instance that is false, or 1 where there is none. The values are the same.
abbrev pub shown : Endian → (now entry : State) → Expr → Expr
shown e now entry (Number n) = Number n
shown e now entry (Register r) = Register r
shown e now entry (Flag f) = Flag f
shown e now entry Pc = Pc
shown e now entry Bound = Number 0
shown e now entry (Memory n a) = Memory n (shown e now entry a)
shown e now entry (Old a) = Old (shown e entry entry a)
shown e now entry (Not a) = Not (shown e now entry a)
shown e now entry (Binary op a b) = shown_binary e now entry op (shown e now entry a) (shown e now entry b)

-- within `old` a part is told as one at entry
abbrev pub within : (in_old : Bool) → Expr → Expr
within true a = Old a
within false a = a

-- the parts of two operands, but of the instances of an `all` none
abbrev pub operands : Op → List Expr → List Expr
operands Each inner = []
operands op inner = inner

-- the parts of an expression, each before its own parts, without numbers
abbrev pub parts : (in_old : Bool) → Expr → List Expr
parts o (Number n) = []
parts o (Register r) = within o (Register r) ∷ []
parts o (Flag f) = within o (Flag f) ∷ []
parts o Pc = within o Pc ∷ []
parts o Bound = []
parts o (Memory n a) = within o (Memory n a) ∷ parts o a
parts o (Old a) = parts true a
parts o (Not a) = within o (Not a) ∷ parts o a
parts o (Binary op a b) = within o (Binary op a b) ∷ operands op (parts o a ++ parts o b)

-- the line of a part
abbrev pub value_line : Names → Endian → (now entry : State) → Expr → List ℕ
value_line n e now entry a = codes "value " ++ word_text (value e a now entry) ++ codes " " ++ text_at n 1 a

-- the lines of parts
abbrev pub part_lines : Names → Endian → (now entry : State) → List Expr → List ℕ
part_lines n e now entry parts = lines (map (value_line n e now entry) parts)

-- the text of the values of an expression and of its parts, a line each
abbrev pub value_text : Names → Endian → (now entry : State) → Expr → List ℕ
value_text n e now entry a = part_lines n e now entry (parts false (shown e now entry a))

-- the line of a number among lines
abbrev pub note_at : (line : ℕ) → List NoteLine → Option Expr
note_at line [] = None
note_at line (l ∷ rest) = if l.line == line then Some l.says else note_at line rest

-- and among `assert` lines
abbrev pub assert_at : (line : ℕ) → List Assert → Option Expr
assert_at line [] = None
assert_at line (l ∷ rest) = if l.line == line then Some l.says else assert_at line rest

-- the text of the values of a line, if there is one
abbrev pub values_told : Names → Endian → (now entry : State) → Option Expr → List ℕ
values_told n e now entry None = []
values_told n e now entry (Some a) = value_text n e now entry a
