-- The text of a start with the ending that its report names: what is printed, what a text says, and why one is refused.
-- A text is what is printed of a state, whose last line feed may lack. It is refused at its first refused line, with the least fault that the line has there.
use Rattle.std.specs.Prelude.{ℕ, zero, suc, ◌≡◌, ◌≤◌, ◌<◌, ◌+◌, ◌-◌, ◌*◌, ◌^◌, Bool, true, false, ◌==◌, ◌&&◌, not, nat_lt, nat_le, if◌then◌else◌, List, [], ◌∷◌, ◌++◌, Option, Some, None, length, map, take, drop, codes, slice_index, slice_index_or, All, AllPairs}
use Rattle.std.specs.List.{list_any, list_all}
use Rattle.std.specs.Option.{option_map}
use Rattle.std.specs.Str.{bytes_eq}
use Rattle.word_spec.specs.Words.{bit_at}
use Rattle.word_spec.specs.Memory.{Endian, Little, Big, byte_in, memory_of}
use Rattle.word_spec.specs.Profiles.{Profile, V4, V4T, V5}
use Rattle.word_spec.specs.RowFiles.{from_to}
use Rattle.word_spec.specs.Texts.{word_text, byte_text, number_text, lines, joined, words_in, decimal_word, hex_word, at_most}
pub use Rattle.word_spec.specs.Texts.{split_lines}
use Rattle.machine_spec.specs.Endings.{NamedEnding, FailsBy, UnknownBy, named_words, Start, Event, AssertFails, FetchFails, NoRow, HalfwordFails, CodeWritten, Trapped, AlignFails, JumpFails, EnsureFails}
use Rattle.word_spec.specs.State.{Written}

-- what the text calls a machine, its registers from a first number on, and its flags, the one with the highest number first
pub record Layout : Type 0 where
  pub machine : List ℕ
  pub first : ℕ
  pub registers : List (List ℕ)
  pub flags : List (List ℕ)

-- a letter with each number
abbrev pub register_names : ℕ → ℕ → ℕ → List (List ℕ)
register_names letter first count = map (λ r. letter ∷ number_text r) (from_to first count)

-- what the text calls RV32IM, with the compressed instructions or without them
abbrev pub rv_name : (compressed : Bool) → List ℕ
rv_name true = codes "rv32imc"
rv_name false = codes "rv32im"

-- the layout of RV32IM: x1 to x31
abbrev pub rv_layout : (compressed : Bool) → Layout
rv_layout compressed = record { machine = rv_name compressed; first = 1; registers = register_names 120 1 31; flags = [] }

-- what the text calls ARM in a byte order and a profile
abbrev pub arm_name : Endian → Profile → List ℕ
arm_name Little V4 = codes "armv4-le"
arm_name Little V4T = codes "armv4t-le"
arm_name Little V5 = codes "armv5-le"
arm_name Big V4 = codes "armv4-be"
arm_name Big V4T = codes "armv4t-be"
arm_name Big V5 = codes "armv5-be"

-- the layout of ARM: r0 to r14 and the flags
abbrev pub arm_layout : Endian → Profile → Layout
arm_layout e profile = record {
  machine = arm_name e profile;
  first = 0;
  registers = register_names 114 0 15;
  flags = codes "N" ∷ codes "Z" ∷ codes "C" ∷ codes "V" ∷ [];
}

-- a named ending with its start
pub record StateText : Type 0 where
  pub named : NamedEnding
  pub start : Written

-- the greatest number of a step that a text names
abbrev pub last_step : ℕ
last_step = 16777215

-- the first of each pair is below that of each later one
abbrev pub AreRising : List (ℕ × ℕ) → Type 0
AreRising pairs = AllPairs (λ x y. x.0 < y.0) pairs

-- A start that can be written: a word for each register; bytes from 1 on at addresses whose byte isn't known, by a test, and choices 1 to 3, both in rising
-- order.
pub record IsWritten (layout : Layout) (known : ℕ → Bool) (w : Written) : Type 0 where
  pub count : length w.regs ≡ length layout.registers
  pub words : All (λ v. v < 2 ^ 32) w.regs
  pub flags : w.flags < 2 ^ length layout.flags
  pub bytes : All (λ b. (b.0 < 2 ^ 32) × (1 ≤ b.1) × (b.1 ≤ 255)) w.bytes
  pub bytes_rise : AreRising w.bytes
  pub unknown : All (λ b. known b.0 ≡ false) w.bytes
  pub choices : All (λ c. (c.0 ≤ last_step) × (1 ≤ c.1) × (c.1 ≤ 3)) w.choices
  pub choices_rise : AreRising w.choices

-- the number of a line of notes, where an event names one, has 64 bits
abbrev pub IsEvent : Event → Type 0
IsEvent (AssertFails n) = n < 2 ^ 64
IsEvent (EnsureFails n) = n < 2 ^ 64
IsEvent other = Unit {0}

-- an ending that can be written
abbrev pub IsNamed : NamedEnding → Type 0
IsNamed (FailsBy e at step) = IsEvent e × (at < 2 ^ 32) × (step ≤ last_step)
IsNamed (UnknownBy k at step) = (k ≤ 4096) × (at < 2 ^ 32) × (step ≤ last_step)

-- what a line of the grammar says; registers and then flags are named by their places
pub data StateLine : Type 0 where
  NamedLine : NamedEnding → StateLine
  MachineLine : StateLine
  RegisterLine : (place value : ℕ) → StateLine
  ByteLine : (at value : ℕ) → StateLine
  ChoiceLine : (step choice : ℕ) → StateLine
  EndLine : StateLine

-- the names of the registers and then of the flags
abbrev pub value_names : Layout → List (List ℕ)
value_names layout = layout.registers ++ layout.flags

-- a register's value is a word, a flag's a digit
abbrev pub value_text : Layout → (place value : ℕ) → List ℕ
value_text layout i v = if nat_lt i (length layout.registers) then word_text v else number_text v

-- the words of a line
abbrev pub words_of_line : Layout → StateLine → List (List ℕ)
words_of_line layout (NamedLine n) = named_words n
words_of_line layout MachineLine = codes "state" ∷ layout.machine ∷ []
words_of_line layout (RegisterLine i v) = slice_index_or (value_names layout) i [] ∷ value_text layout i v ∷ []
words_of_line layout (ByteLine a v) = codes "byte" ∷ word_text a ∷ byte_text v ∷ []
words_of_line layout (ChoiceLine s c) = codes "choice" ∷ number_text s ∷ number_text c ∷ []
words_of_line layout EndLine = codes "end" ∷ []

-- the lines of values, from a place on
abbrev pub register_lines : ℕ → List ℕ → List StateLine
register_lines i [] = []
register_lines i (v ∷ values) = RegisterLine i v ∷ register_lines (i + 1) values

-- the n lowest bits of a number, the highest first
abbrev pub flag_bits : ℕ → ℕ → List ℕ
flag_bits zero flags = []
flag_bits (suc n) flags = bit_at n flags ∷ flag_bits n flags

-- what stands behind the first line
abbrev pub lines_behind : Layout → Written → List StateLine
lines_behind layout w =
    MachineLine ∷ register_lines 0 (w.regs ++ flag_bits (length layout.flags) w.flags)
    ++ (map (λ b. ByteLine b.0 b.1) w.bytes ++ (map (λ c. ChoiceLine c.0 c.1) w.choices ++ EndLine ∷ []))

-- the text of a start without an ending
abbrev pub block_text : Layout → Written → List ℕ
block_text layout w = lines (map (λ l. joined (words_of_line layout l)) (lines_behind layout w))

-- the lines of the text
abbrev pub state_lines : Layout → StateText → List (List ℕ)
state_lines layout t = map (λ l. joined (words_of_line layout l)) (NamedLine t.named ∷ lines_behind layout t.start)

-- the text
unfoldable pub printed : Layout → StateText → List ℕ
printed layout t = lines (state_lines layout t)

-- The start that is written: a register that isn't written is 0.
abbrev pub register_at : Layout → List ℕ → ℕ → ℕ
register_at layout regs r = if nat_lt r layout.first then 0 else slice_index regs (r - layout.first)

-- the byte that is known, or the one that is written
abbrev pub known_or : Option ℕ → List (ℕ × ℕ) → ℕ → ℕ
known_or None bytes a = memory_of bytes a
known_or (Some b) bytes a = b

-- the start that is written, for an address at which the function begins and the bytes that are known
abbrev pub start_of : Layout → (entry : ℕ) → (known : ℕ → Option ℕ) → Written → Start
start_of layout entry known w = record {
  state = record { pc = entry; regs = register_at layout w.regs; flags = λ f. bit_at f w.flags; mem = λ a. known_or (known a) w.bytes a };
  choices = byte_in w.choices;
}

-- two things that are both there
abbrev pub both : Option ℕ → Option ℕ → Option (ℕ × ℕ)
both (Some a) (Some b) = Some (a, b)
both (Some a) None = None
both None b = None

-- the address and the number of a step that four words say
abbrev pub place_of : (at address step number : List ℕ) → Option (ℕ × ℕ)
place_of at a step n =
    if bytes_eq at (codes "at") && bytes_eq step (codes "step") then both (hex_word 8 a) (at_most last_step (decimal_word n)) else None

-- the event of one word
abbrev pub event_of_word : List ℕ → Option Event
event_of_word w =
    if bytes_eq w (codes "fetch") then Some FetchFails else if bytes_eq w (codes "norow") then Some NoRow else
    if bytes_eq w (codes "halfword") then Some HalfwordFails else if bytes_eq w (codes "codewrite") then Some CodeWritten else
    if bytes_eq w (codes "trap") then Some Trapped else if bytes_eq w (codes "align") then Some AlignFails else
    if bytes_eq w (codes "jump") then Some JumpFails else None

-- the event of a line of notes
abbrev pub event_of_line : List ℕ → Option ℕ → Option Event
event_of_line w None = None
event_of_line w (Some n) = if bytes_eq w (codes "assert") then Some (AssertFails n) else if bytes_eq w (codes "ensure") then Some (EnsureFails n) else None

-- an event at a place
abbrev pub fails_line : Option Event → Option (ℕ × ℕ) → Option StateLine
fails_line (Some e) (Some place) = Some (NamedLine (FailsBy e place.0 place.1))
fails_line (Some e) None = None
fails_line None place = None

-- a number of backward transfers at a place
abbrev pub unknown_line : Option ℕ → Option (ℕ × ℕ) → Option StateLine
unknown_line (Some k) (Some place) = Some (NamedLine (UnknownBy k place.0 place.1))
unknown_line (Some k) None = None
unknown_line None place = None

-- the line of a pair of numbers
abbrev pub pair_line : (ℕ → ℕ → StateLine) → Option (ℕ × ℕ) → Option StateLine
pair_line line None = None
pair_line line (Some pair) = Some (line pair.0 pair.1)

-- the line behind the word fails
abbrev pub after_fails : List (List ℕ) → Option StateLine
after_fails (e ∷ at ∷ a ∷ step ∷ n ∷ []) = fails_line (event_of_word e) (place_of at a step n)
after_fails (e ∷ m ∷ at ∷ a ∷ step ∷ n ∷ []) = fails_line (event_of_line e (at_most (2 ^ 64 - 1) (decimal_word m))) (place_of at a step n)
after_fails other = None

-- the line behind the word unknown
abbrev pub after_unknown : List (List ℕ) → Option StateLine
after_unknown (u ∷ k ∷ at ∷ a ∷ step ∷ n ∷ []) =
    if bytes_eq u (codes "unroll") then unknown_line (at_most 4096 (decimal_word k)) (place_of at a step n) else None
after_unknown other = None

-- the line behind the word state: another machine is no line
abbrev pub after_state : Layout → List (List ℕ) → Option StateLine
after_state layout (m ∷ []) = if bytes_eq m layout.machine then Some MachineLine else None
after_state layout other = None

-- the line behind the word byte
abbrev pub after_byte : List (List ℕ) → Option StateLine
after_byte (a ∷ v ∷ []) = pair_line ByteLine (both (hex_word 8 a) (hex_word 2 v))
after_byte other = None

-- the line behind the word choice; a choice may be any number here
abbrev pub after_choice : List (List ℕ) → Option StateLine
after_choice (s ∷ c ∷ []) = pair_line ChoiceLine (both (at_most last_step (decimal_word s)) (decimal_word c))
after_choice other = None

-- the line of the word end
abbrev pub after_end : List (List ℕ) → Option StateLine
after_end [] = Some EndLine
after_end other = None

-- the place of a name in a list
abbrev pub place_in : List (List ℕ) → List ℕ → Option ℕ
place_in [] w = None
place_in (n ∷ names) w = if bytes_eq w n then Some 0 else option_map (λ i. i + 1) (place_in names w)

-- the value of a register or a flag at a place
abbrev pub value_of : Layout → (place : ℕ) → List ℕ → Option ℕ
value_of layout i w = if nat_lt i (length layout.registers) then hex_word 8 w else at_most 1 (decimal_word w)

-- the line of a register or a flag
abbrev pub register_line : Layout → Option ℕ → List (List ℕ) → Option StateLine
register_line layout (Some i) (w ∷ []) = pair_line RegisterLine (both (Some i) (value_of layout i w))
register_line layout other ws = None

-- what a line says by its words, if it is of the grammar
abbrev pub line_of_words : Layout → List (List ℕ) → Option StateLine
line_of_words layout [] = None
line_of_words layout (w ∷ ws) =
    if bytes_eq w (codes "fails") then after_fails ws else if bytes_eq w (codes "unknown") then after_unknown ws else
    if bytes_eq w (codes "state") then after_state layout ws else if bytes_eq w (codes "byte") then after_byte ws else
    if bytes_eq w (codes "choice") then after_choice ws else if bytes_eq w (codes "end") then after_end ws else
    register_line layout (place_in (value_names layout) w) ws

-- what a line says
abbrev pub line_of : Layout → List ℕ → Option StateLine
line_of layout text = line_of_words layout (words_in text)

-- why a line is refused, in the order of the faults
pub data StateFault : Type 0 where
  StateLineFault : StateFault
  StateRegisterFault : StateFault
  StateByteFault : StateFault
  StateChoiceFault : StateFault
  StateEndFault : StateFault

-- the byte of a line is at a smaller address; so for a line of no byte
abbrev pub is_byte_below : ℕ → StateLine → Bool
is_byte_below a (ByteLine b v) = nat_lt b a
is_byte_below a other = true

-- the choice of a line is for a smaller step; so for a line of no choice
abbrev pub is_choice_below : ℕ → StateLine → Bool
is_choice_below s (ChoiceLine r c) = nat_lt r s
is_choice_below s other = true

-- the line is the end
abbrev pub is_end_line : StateLine → Bool
is_end_line EndLine = true
is_end_line other = false

-- the line stands behind all bytes: it is a choice's, or the end
abbrev pub is_behind_bytes : StateLine → Bool
is_behind_bytes (ChoiceLine s c) = true
is_behind_bytes other = is_end_line other

-- a fault where a test fails
abbrev pub unless : Bool → StateFault → Option StateFault
unless true f = None
unless false f = Some f

-- a fault, or else another
abbrev pub or_else : Option StateFault → Option StateFault → Option StateFault
or_else (Some f) other = Some f
or_else None other = other

-- how many lines stand before the bytes: the ending, the machine, the registers and the flags
abbrev pub lines_of_head : Layout → ℕ
lines_of_head layout = 2 + length (value_names layout)

-- what is missed by a line that stands behind all registers and flags, where so many lines stand before it
abbrev pub missed : Layout → ℕ → Option StateFault
missed layout count = or_else (unless (nat_le 2 count) StateLineFault) (unless (nat_le (lines_of_head layout) count) StateRegisterFault)

-- A line's least fault behind the lines of a list, of which the last stands first, where a test tells the addresses whose byte is known. The line of the ending
-- is the first, the machine's the second, then come registers and flags by their places, bytes, choices and the end.
abbrev pub line_refusal : Layout → (known : ℕ → Bool) → (before : List StateLine) → StateLine → Option StateFault
line_refusal layout known before (NamedLine n) = unless (length before == 0) StateLineFault
line_refusal layout known before MachineLine = unless (length before == 1) StateLineFault
line_refusal layout known before (RegisterLine i v) = or_else (unless (nat_le 2 (length before)) StateLineFault)
    (unless (length before == 2 + i) StateRegisterFault)
line_refusal layout known before (ByteLine a v) =
    or_else (missed layout (length before))
    (unless (not (list_any is_behind_bytes before) && list_all (is_byte_below a) before && nat_lt 0 v && not (known a)) StateByteFault)
line_refusal layout known before (ChoiceLine s c) =
    or_else (missed layout (length before))
    (unless (not (list_any is_end_line before) && list_all (is_choice_below s) before && nat_lt 0 c && nat_lt c 4) StateChoiceFault)
line_refusal layout known before EndLine = or_else (missed layout (length before)) (unless (not (list_any is_end_line before)) StateEndFault)

-- what a text is refused for that ends behind these lines
abbrev pub end_refusal : Layout → (before : List StateLine) → Option StateFault
end_refusal layout before = or_else (unless (nat_le (lines_of_head layout) (length before)) StateRegisterFault)
    (unless (list_any is_end_line before) StateEndFault)

-- a fault of a line, or else a later refusal
abbrev pub refused_or : ℕ → Option StateFault → Option (ℕ × StateFault) → Option (ℕ × StateFault)
refused_or n (Some f) later = Some (n, f)
refused_or n None later = later

-- The first refused line, by its number, with its fault. A line that is none of the grammar is a line fault; what is missed at the text's end is refused at the
-- line after the last.
abbrev pub first_refused : Layout → (known : ℕ → Bool) → (before : List StateLine) → List (Option StateLine) → Option (ℕ × StateFault)
first_refused layout known before [] = refused_or (length before + 1) (end_refusal layout before) None
first_refused layout known before (None ∷ rest) = Some (length before + 1, StateLineFault)
first_refused layout known before (Some l ∷ rest) =
    refused_or (length before + 1) (line_refusal layout known before l) (first_refused layout known (l ∷ before) rest)

-- the values of registers and flags that lines give
abbrev pub values_in : List (Option StateLine) → List ℕ
values_in [] = []
values_in (Some (RegisterLine i v) ∷ rest) = v ∷ values_in rest
values_in (other ∷ rest) = values_in rest

-- the bytes
abbrev pub bytes_in : List (Option StateLine) → List (ℕ × ℕ)
bytes_in [] = []
bytes_in (Some (ByteLine a v) ∷ rest) = (a, v) ∷ bytes_in rest
bytes_in (other ∷ rest) = bytes_in rest

-- the choices
abbrev pub choices_in : List (Option StateLine) → List (ℕ × ℕ)
choices_in [] = []
choices_in (Some (ChoiceLine s c) ∷ rest) = (s, c) ∷ choices_in rest
choices_in (other ∷ rest) = choices_in rest

-- the number of bits, the first the highest
abbrev pub number_of_bits : List ℕ → ℕ
number_of_bits [] = 0
number_of_bits (b ∷ bits) = b * 2 ^ length bits + number_of_bits bits

-- the start that lines give
abbrev pub written_in : Layout → List (Option StateLine) → Written
written_in layout ls = record {
  regs = take (length layout.registers) (values_in ls);
  flags = number_of_bits (drop (length layout.registers) (values_in ls));
  bytes = bytes_in ls;
  choices = choices_in ls;
}

-- what a text says: a state, or nothing, refused at a line
pub data Told : Type 0 where
  StateIs : StateText → Told
  StateRefused : ℕ → StateFault → Told

-- what lines say by their first refused line; a text that isn't refused begins with its ending
abbrev pub told_by : Layout → Option (ℕ × StateFault) → List (Option StateLine) → Told
told_by layout (Some refused) ls = StateRefused refused.0 refused.1
told_by layout None (Some (NamedLine n) ∷ rest) = StateIs (record { named = n; start = written_in layout rest })
told_by layout None other = StateRefused 1 StateLineFault

-- what lines say
abbrev pub told_of : Layout → (known : ℕ → Bool) → List (Option StateLine) → Told
told_of layout known ls = told_by layout (first_refused layout known [] ls) ls

-- what a text says, where a test tells the addresses whose byte is known; a reader that has no file takes the test that knows none
unfoldable pub state_of : Layout → (known : ℕ → Bool) → List ℕ → Told
state_of layout known text = told_of layout known (map (line_of layout) (split_lines text))
