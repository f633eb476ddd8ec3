-- Worked notes: lines, tokens, an expression, a text and the values of operators.
use Rattle.std.proofs.Common.{◌≡◌, ℕ, zero, suc, refl, List, [], ◌∷◌, ◌++◌, Option, Some, None, Bool, false, true, arith, All, map, codes, lit<, lit≤, ◌%◌}
use Rattle.word_spec.specs.Memory.{Little, Big}
use Rattle.word_spec.specs.State.{State}
use Rattle.bilv_spec.specs.Notes.{Expr, BitOr, BitXor, BitAnd, Number, Register, Flag, Pc, Old, Not, Binary, Op, Or, And, Equal, Below, SignedBelow, SignedAtLeast, ShiftLeft, ShiftRight, ShiftSigned, Plus, Minus, Times, Each, Notes, At, apply, value}
use Rattle.bilv_spec.specs.Notes as notes
use Rattle.word_spec.specs.Tokens.{NumberToken, NameToken, SignToken, BadText, BadByte, tokens_of}
use Rattle.notes_spec.specs.NotesGrammar.{lines_of, Parses, IsGood, EntryIs, EnsureIs, IsLine, IsNotesText, is_second}
use Rattle.notes_spec.specs.Upgrades.{upgraded}
use Rattle.std.specs.Prelude.{is_some}
use Rattle.notes_spec.specs.Scopes.{Vocabulary, Scope, Plain, begin, declaring, lenient, loose}
use Rattle.notes_spec.specs.RvNames.{rv_names, rv_table}
use Rattle.notes_spec.specs.ArmNames.{arm_names, arm_table}
use Rattle.notes_spec.proofs.NotesTables.{Each as EachOf}
use Rattle.notes_spec.proofs.NotesParser.{Level, work, all_read}
use Rattle.notes_spec.proofs.ParserEnds.{by_reading}

-- the tokens of a line with a comment, of a comparison, and of what is no token
tokens_1 : tokens_of (codes "require a0 <=u 0x1F # 5") ≡ NameToken (codes "require") ∷ NameToken (codes "a0") ∷ SignToken (codes "<=u") ∷ NumberToken 31 ∷ []
tokens_1 = refl

tokens_2 : tokens_of (codes "a0 <ux") ≡ NameToken (codes "a0") ∷ BadText ∷ NameToken (codes "ux") ∷ []
tokens_2 = refl

tokens_3 : tokens_of (codes "12ab >>> -1") ≡ BadText ∷ NameToken (codes "ab") ∷ SignToken (codes ">>>") ∷ SignToken (codes "-") ∷ NumberToken 1 ∷ []
tokens_3 = refl

-- a number ends where its digits end; only a letter there is a fault
tokens_4 : tokens_of (codes "5_ 5.x 0x1_") ≡
    NumberToken 5 ∷ NameToken (codes "_") ∷ NumberToken 5 ∷ NameToken (codes ".x") ∷ NumberToken 1 ∷ NameToken (codes "_") ∷ []
tokens_4 = refl

tokens_5 : map (λ text. tokens_of text) (codes "0x" ∷ codes "0X1" ∷ codes "0x1g" ∷ codes "<=" ∷ codes ">" ∷ []) ≡
    (BadText ∷ NameToken (codes "x") ∷ []) ∷ (BadText ∷ NameToken (codes "X1") ∷ []) ∷ (BadText ∷ NameToken (codes "g") ∷ []) ∷
    (BadText ∷ SignToken (codes "=") ∷ []) ∷ (BadText ∷ []) ∷ []
tokens_5 = refl

-- a comment has any bytes; elsewhere 7F and bytes below 20 are faults but for the tab
tokens_6 : tokens_of (codes "sp" ++ 9 ∷ 127 ∷ 13 ∷ codes "#" ++ 0 ∷ 255 ∷ []) ≡ NameToken (codes "sp") ∷ BadByte ∷ BadByte ∷ []
tokens_6 = refl

-- the longest operator first; the letter of a comparison belongs to it only where no name goes on
tokens_7 : tokens_of (codes "<<u>>>>s<=s(>=u5") ≡
    SignToken (codes "<<") ∷ NameToken (codes "u") ∷ SignToken (codes ">>>") ∷ SignToken (codes ">s") ∷ SignToken (codes "<=s") ∷ SignToken (codes "(") ∷
    BadText ∷ SignToken (codes "=") ∷ NameToken (codes "u5") ∷ []
tokens_7 = refl

-- the lines of a text: a CR before LF is dropped and every other one stays, and nothing behind the last LF is a line
lines_1 : lines_of (codes "a" ++ 13 ∷ 10 ∷ 10 ∷ codes "b") ≡ codes "a" ∷ [] ∷ codes "b" ∷ []
lines_1 = refl

lines_2 : lines_of (13 ∷ 13 ∷ 10 ∷ codes "c" ++ 13 ∷ codes "d" ++ 10 ∷ 10 ∷ []) ≡ (13 ∷ []) ∷ (codes "c" ++ 13 ∷ codes "d") ∷ [] ∷ []
lines_2 = refl

lines_3 : (lines_of [] ≡ []) × (lines_of (10 ∷ []) ≡ [] ∷ []) × (lines_of (codes "e" ++ 13 ∷ []) ≡ (codes "e" ++ 13 ∷ []) ∷ [])
lines_3 = (refl, refl, refl)

-- what notes call the two machines, RISC-V without compressed instructions
abbrev pub rv_words : Vocabulary
rv_words = record { names = rv_names; narrow = false; dialect = Plain }

abbrev arm_words : Vocabulary
arm_words = record { names = arm_names; narrow = false; dialect = Plain }

-- expressions: the levels, the grouping to the left, `not`, loads, and the names of both machines
-- the scope of a line of version 1
abbrev pub first : Vocabulary → Bool → Scope
first v is_first = record (begin v false) { is_first = is_first }

abbrev read : Vocabulary → List ℕ → Option Expr
read v text = all_read (work (first v false) 60 (Level 1) (tokens_of text))

levels : read rv_words (codes "1 | 2 ^ 3 & 4 << 5 + 6 * 7") ≡
    Some (Binary BitOr (Number 1) (Binary BitXor (Number 2) (Binary BitAnd (Number 3)
    (Binary ShiftLeft (Number 4) (Binary Plus (Number 5) (Binary Times (Number 6) (Number 7)))))))
levels = refl

grouping : read rv_words (codes "1 - 2 + 3 - (4 - 5)") ≡
    Some (Binary Minus (Binary Plus (Binary Minus (Number 1) (Number 2)) (Number 3)) (Binary Minus (Number 4) (Number 5)))
grouping = refl

logic : read rv_words (codes "1 or not 2 = 3 and not not 4") ≡ Some
    (Binary Or (Number 1) (Binary And (Not (Binary Equal (Number 2) (Number 3))) (Not (Not (Number 4)))))
logic = refl

of_rv : read rv_words (codes "mem32[sp + 4] >=s old(mem8[pc] - x0)") ≡
    Some (Binary SignedAtLeast (notes.Memory 4 (Binary Plus (Register 2) (Number 4))) (Old (Binary Minus (notes.Memory 1 Pc) (Number 0))))
unfolding rv_table
of_rv = refl

of_arm : read arm_words (codes "N and r15 = lr") ≡ Some (Binary And (Flag 3) (Binary Equal Pc (Register 14)))
unfolding arm_table
of_arm = refl

-- a name of one machine is none of the other
other_machine : (read rv_words (codes "r0") ≡ None) × (read arm_words (codes "a0") ≡ None)
unfolding rv_table arm_table
other_machine = (refl, refl)

abbrev one_larger : Expr
one_larger = Binary Equal (Register 10) (Binary Plus (Old (Register 10)) (Number 1))

line_says : Parses (first rv_words false) 1 (tokens_of (codes "a0 = old(a0) + 1")) one_larger
unfolding rv_table
line_says = by_reading (first rv_words false) 40 (tokens_of (codes "a0 = old(a0) + 1")) one_larger refl

-- the value of an operator at some words
values : map (λ (o : Op). apply o 0x80000000 32) (ShiftLeft ∷ ShiftRight ∷ ShiftSigned ∷ SignedBelow ∷ Below ∷ Minus ∷ Times ∷ []) ≡ 0 ∷ 0 ∷ 0xffffffff ∷ 1 ∷ 0
    ∷ 0x7fffffe0 ∷ 0 ∷ []
values = refl

truths : map (λ (o : Op). apply o 5 0) (Or ∷ And ∷ Equal ∷ SignedAtLeast ∷ []) ≡ 1 ∷ 0 ∷ 0 ∷ 1 ∷ []
truths = refl

-- a load wraps, in the order of the image, and `old` takes the whole expression from the state at entry
abbrev now : State
now = record { pc = 0x10008; regs = λ r. 7; flags = λ f. 1; mem = λ a. a % 251 }

abbrev entry : State
entry = record { pc = 0x10000; regs = λ r. 9; flags = λ f. 0; mem = λ a. 0 }

loaded : value Little (notes.Memory 4 (Number 0xfffffffe)) now entry ≡ 0x01007a79
loaded = refl

loaded_big : value Big (notes.Memory 4 (Number 0xfffffffe)) now entry ≡ 0x797a0001
loaded_big = refl

at_entry : value Little (Old (Binary Plus Pc (Binary Plus (Register 10) (Flag 1)))) now entry ≡ 0x10009
at_entry = refl

at_now : value Little (Binary Plus Pc (Binary Plus (Register 10) (Flag 1))) now entry ≡ 0x10010
at_now = refl

-- two lines, and the notes that they are
abbrev two_lines : List ℕ
two_lines = codes "entry 0x10000" ++ 10 ∷ codes "ensure a0 = old(a0) + 1" ++ 10 ∷ []

abbrev one_more : Notes
one_more = record {
  entry = At 0x10000;
  requires = [];
  ensures = record { line = 2; says = one_larger } ∷ [];
  asserts = [];
  targets = [];
  fixed = [];
}

pub every : {X : Type 0} (P : X → Type 0) (xs : List X) → EachOf P xs → All P xs
every P [] each k d below = absurd (omega (arith, below))
every P (x ∷ xs) each zero d below = each.0
every P (x ∷ xs) each (suc k) d below = every P xs each.1 k d (omega (arith, below))

pub line_1 : IsLine (first rv_words true) (codes "entry 0x10000") (EntryIs (At 0x10000))
line_1 = record {
  short = lit≤ tt;
  good = every IsGood (tokens_of (codes "entry 0x10000")) (tt, (lit< tt, tt));
  depth = lit≤ tt;
  said = (NumberToken 0x10000, refl, refl);
  aligned = refl;
  range = tt;
  version = tt;
  new = tt;
  alone = λ e. refl;
}

line_2 : IsLine (first rv_words false) (codes "ensure a0 = old(a0) + 1") (EnsureIs one_larger)
line_2 = record {
  short = lit≤ tt;
  good = every IsGood (tokens_of (codes "ensure a0 = old(a0) + 1")) (tt, (tt, (tt, (tt, (tt, (tt, (tt, (tt, (lit< tt, tt)))))))));
  depth = lit≤ tt;
  said = (tokens_of (codes "a0 = old(a0) + 1"), refl, line_says);
  aligned = tt;
  range = tt;
  version = tt;
  new = tt;
  alone = λ e. refl;
}

notes_of_two_lines : IsNotesText rv_words two_lines one_more
notes_of_two_lines = record {
  short = lit≤ tt;
  says = EntryIs (At 0x10000) ∷ EnsureIs one_larger ∷ [];
  lines = (line_1, (line_2, tt));
  unmixed = refl;
  notes_are = (refl, refl, refl, refl, refl, refl, λ i j d less below. absurd (omega (arith, below)));
}

-- version 2: an `all` written out, a constant, and what is refused of an `all`
abbrev second : Scope
second = declaring (begin rv_words true) (codes "n") 3

abbrev read_second : Scope → List ℕ → Option Expr
read_second s text = all_read (work s 40 (Level 1) (tokens_of text))

each_of_four : read_second second (codes "all i 0 n (i)") ≡ Some
    (Binary Each (Number 0) (Binary Each (Number 1) (Binary Each (Number 2) (Binary Each (Number 3) (Number 1)))))
unfolding rv_table
each_of_four = refl

-- the constant within an `all`, and the bound name outside of it
within_all : read_second second (codes "all i n n (i = n + 1) and n = 3") ≡ Some
    (Binary And (Binary Each (Binary Equal (Number 3) (Binary Plus (Number 3) (Number 1))) (Number 1)) (Binary Equal (Number 3) (Number 3)))
unfolding rv_table
within_all = refl

abbrev alls : List (List ℕ)
alls = codes "all i 0 64 (i)" ∷ codes "all i 1 0 (i)" ∷ codes "all a0 0 3 (a0)" ∷ codes "all n 0 3 (n)" ∷ codes "all old 0 3 (1)"
    ∷ codes "all i 0 3 (all j 0 3 (i + j))" ∷ []

strictly_none : map (λ text. read_second second text) alls ≡ None ∷ None ∷ None ∷ None ∷ None ∷ None ∷ []
unfolding rv_table
strictly_none = refl

leniently_some : map (λ text. is_some (read_second (lenient second) text)) alls ≡ true ∷ true ∷ true ∷ true ∷ true ∷ true ∷ []
unfolding rv_table
leniently_some = refl

-- leniently none, and of the form: a name that nothing has, within an `all`, in its bounds, or outside of it
abbrev nameless : List (List ℕ)
nameless = codes "all i 0 3 (q)" ∷ codes "all i i 3 (i)" ∷ codes "all i 0 3 (i) and i = 1" ∷ codes "all i 0 old (i)" ∷ []

leniently_none : map (λ text. read_second (lenient second) text) nameless ≡ None ∷ None ∷ None ∷ None ∷ []
unfolding rv_table
leniently_none = refl

loosely_some : map (λ text. is_some (read_second (loose second) text)) nameless ≡ true ∷ true ∷ true ∷ true ∷ []
loosely_some = refl

-- no form: a reserved word in an expression, and an `all` in a text of version 1
loosely_none : (read_second (loose second) (codes "all old 0 3 (old)") ≡ None) × (read_second (loose (begin rv_words false)) (codes "all i 0 3 (i)") ≡ None)
loosely_none = (refl, refl)

-- the version of a text is that of its first line with tokens, whatever stands in the lines before it
versions : map (λ text. is_second (lines_of text))
    (codes "notes 2" ∷ (codes "# a" ++ 10 ∷ codes " notes 0x2 # b") ∷ codes "notes 2 x" ∷ codes "notes 3" ∷ (codes "entry 4" ++ 10 ∷ codes "notes 2") ∷ [] ∷ [])
    ≡ true ∷ true ∷ false ∷ false ∷ false ∷ false ∷ []
versions = refl

-- a line of notes in text
upgraded_1 : upgraded (codes "entry 4" ++ 10 ∷ []) ≡ codes "notes 2" ++ 10 ∷ codes "entry 4" ++ 10 ∷ []
upgraded_1 = refl

upgraded_2 : upgraded (codes "notes 2" ++ 10 ∷ codes "entry 4") ≡ codes "notes 2" ++ 10 ∷ codes "entry 4"
upgraded_2 = refl
