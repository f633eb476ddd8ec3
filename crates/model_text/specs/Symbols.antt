-- The symbols that a script declares, by the registers and flags of a layout and the points whose rows read the choice; and those of a head state and of what
-- contract steps are given.
use Rattle.std.specs.Prelude.{ℕ, suc, ◌≡◌, ◌<◌, ◌+◌, ◌-◌, ◌==◌, ◌↔◌, Bool, true, false, nat_lt, if◌then◌else◌, List, [], ◌∷◌, Option, Some, None, length, codes, take, drop, slice_get, slice_index_or, Contains}
use Rattle.std.specs.Str.{bytes_eq}
use Rattle.word_spec.specs.Texts.{decimal_word}
use Rattle.machine_spec.specs.StateText.{Layout, value_names, place_in}
use Rattle.bilv_spec.specs.Scripts.{choice_name}
use Rattle.frame_spec.specs.FrameScripts.{of_given, of_head}
use Rattle.notes_value.specs.FrameViews.{is_in}
use Rattle.model_spec.specs.ModelText as text
use Rattle.model_spec.specs.ModelText.{Declared, Words, Memories, ModelToken, word_sort, array_sort}
use Rattle.model_text.specs.declared.symbol.Gift.{Gift}
use Rattle.model_text.specs.declared.symbol.Others.{Others}
use Rattle.model_text.specs.declared.symbol.Symbol.{Symbol}
use Rattle.model_text.specs.declared.symbol.Symbol.TheVariants.{Register, Flag, Choice, Memory, OtherRegister, OtherFlag, OtherMemory}

-- what a gift has, by its name without the letters before it, with its sort
pub data IsGiven (layout : Layout) (g : Gift) : (name : List ℕ) → text.Sort → Type 0 where
  given_register : (i : ℕ) → i < length layout.registers → is_in g.registers (layout.first + i) ≡ true →
      IsGiven layout g (slice_index_or layout.registers i []) (Words 32)
  given_flag : (i : ℕ) → i < length layout.flags → is_in g.flags (length layout.flags - 1 - i) ≡ true →
      IsGiven layout g (slice_index_or layout.flags i []) (Words 1)
  given_memory : g.memory ≡ true → IsGiven layout g (codes "mem") Memories

-- a symbol with its sort: a register, a flag, the memory, or the choice of a point whose row reads it
pub data IsSymbol (layout : Layout) (drawn : List Bool) : Declared → Type 0 where
  register : (i : ℕ) → i < length layout.registers → IsSymbol layout drawn (record { name = slice_index_or layout.registers i []; sort = Words 32 })
  flag : (i : ℕ) → i < length layout.flags → IsSymbol layout drawn (record { name = slice_index_or layout.flags i []; sort = Words 1 })
  memory : IsSymbol layout drawn (record { name = codes "mem"; sort = Memories })
  choice : (n : ℕ) → slice_get drawn n ≡ Some true → IsSymbol layout drawn (record { name = choice_name n; sort = Words 2 })

-- they are exactly these
abbrev pub AreSymbols : Layout → List Bool → List Declared → Type 0
AreSymbols layout drawn declared = (d : Declared) → Contains declared d ↔ IsSymbol layout drawn d

-- so one of a frame: also of a head state, or of what the step of the point of a number is given
pub data IsFrameSymbol (layout : Layout) (drawn : List Bool) (o : Others) : Declared → Type 0 where
  of_program : {d : Declared} → IsSymbol layout drawn d → IsFrameSymbol layout drawn o d
  of_head_state : (g : Gift) (w : List ℕ) (sort : text.Sort) → o.head ≡ Some g → IsGiven layout g w sort →
      IsFrameSymbol layout drawn o (record { name = of_head w; sort = sort })
  of_step : (n : ℕ) (g : Gift) (w : List ℕ) (sort : text.Sort) → slice_get o.given.items n ≡ Some (Some g) → IsGiven layout g w sort →
      IsFrameSymbol layout drawn o (record { name = of_given n w; sort = sort })

abbrev pub AreFrameSymbols : Layout → List Bool → Others → List Declared → Type 0
AreFrameSymbols layout drawn o declared = (d : Declared) → Contains declared d ↔ IsFrameSymbol layout drawn o d

-- ---- the symbol of a name

-- the number behind the letter of a choice
abbrev pub choice_number : List ℕ → Option ℕ
choice_number [] = None
choice_number (b ∷ ds) = if b == 99 then decimal_word ds else None

-- the choice at a place, if the row reads it
abbrev pub choice_if : Option Bool → (place : ℕ) → Option Symbol
choice_if None place = None
choice_if (Some false) place = None
choice_if (Some true) place = Some (Choice place)

-- the choice of a number
abbrev pub drawn_choice : Layout → List Bool → ℕ → Option Symbol
drawn_choice layout drawn n = choice_if (slice_get drawn n) (length (value_names layout) + n)

abbrev pub choice_symbol : Layout → List Bool → Option ℕ → Option Symbol
choice_symbol layout drawn None = None
choice_symbol layout drawn (Some n) = drawn_choice layout drawn n

-- what a gift has, by the name and by its place among those of registers and flags
abbrev pub symbol_if : Bool → Symbol → Option Symbol
symbol_if true s = Some s
symbol_if false s = None

abbrev pub gift_value : Layout → Gift → Option ℕ → Option Symbol
gift_value layout g None = None
gift_value layout g (Some i) =
    if nat_lt i (length layout.registers) then symbol_if (is_in g.registers (layout.first + i)) OtherRegister else
    symbol_if (is_in g.flags (length (value_names layout) - 1 - i)) OtherFlag

abbrev pub gift_symbol : Layout → Gift → List ℕ → Option Symbol
gift_symbol layout g w = if bytes_eq w (codes "mem") then symbol_if g.memory OtherMemory else gift_value layout g (place_in (value_names layout) w)

abbrev pub gift_symbol_if : Layout → Option Gift → List ℕ → Option Symbol
gift_symbol_if layout None w = None
gift_symbol_if layout (Some g) w = gift_symbol layout g w

-- the place of the first underscore, or the length
abbrev pub mark_in : List ℕ → ℕ
mark_in [] = 0
mark_in (b ∷ w) = if b == 95 then 0 else suc (mark_in w)

-- what stands before it, and behind it
abbrev pub parted : List ℕ → List ℕ → Option (List ℕ × List ℕ)
parted digits [] = None
parted digits (b ∷ w) = Some (digits, w)

abbrev pub cut : List ℕ → Option (List ℕ × List ℕ)
cut w = parted (take (mark_in w) w) (drop (mark_in w) w)

-- the gift of a number
abbrev pub gift_in : Option (Option Gift) → Option Gift
gift_in None = None
gift_in (Some g) = g

abbrev pub gift_at : List (Option Gift) → Option ℕ → Option Gift
gift_at given None = None
gift_at given (Some n) = gift_in (slice_get given n)

-- of a head state, behind the letter of it
abbrev pub head_symbol : Layout → Option Gift → List ℕ → Option Symbol
head_symbol layout head [] = None
head_symbol layout head (b ∷ w) = if b == 95 then gift_symbol_if layout head w else None

-- of what a step is given, behind the letter of it: the number of its point, an underscore, and the name
abbrev pub step_symbol : Layout → List (Option Gift) → Option (List ℕ × List ℕ) → Option Symbol
step_symbol layout given None = None
step_symbol layout given (Some p) = gift_symbol_if layout (gift_at given (decimal_word p.0)) p.1

abbrev pub other_symbol : Layout → Others → List ℕ → Option Symbol
other_symbol layout o [] = None
other_symbol layout o (b ∷ w) =
    if b == 104 then head_symbol layout o.head w else if b == 103 then step_symbol layout o.given.items (cut w) else None

-- a choice, or else another one
abbrev pub or_other : Option Symbol → Option Symbol → Option Symbol
or_other None s = s
or_other (Some c) s = Some c

-- a register or a flag by its place, or else another symbol
abbrev pub value_symbol : Layout → List Bool → Others → List ℕ → Option ℕ → Option Symbol
value_symbol layout drawn o w None = or_other (choice_symbol layout drawn (choice_number w)) (other_symbol layout o w)
value_symbol layout drawn o w (Some i) = Some (if nat_lt i (length layout.registers) then Register i else Flag i)

abbrev pub symbol_in : Layout → List Bool → Others → List ℕ → Option Symbol
symbol_in layout drawn o w = if bytes_eq w (codes "mem") then Some Memory else value_symbol layout drawn o w (place_in (value_names layout) w)

-- its sort
abbrev pub sort_of : Symbol → text.Sort
sort_of (Register i) = Words 32
sort_of (Flag i) = Words 1
sort_of (Choice i) = Words 2
sort_of Memory = Memories
sort_of OtherRegister = Words 32
sort_of OtherFlag = Words 1
sort_of OtherMemory = Memories

abbrev pub is_memory : Symbol → Bool
is_memory (Register i) = false
is_memory (Flag i) = false
is_memory (Choice i) = false
is_memory Memory = true
is_memory OtherRegister = false
is_memory OtherFlag = false
is_memory OtherMemory = true

-- it is of a head state, or of what a step is given
abbrev pub is_other : Symbol → Bool
is_other (Register i) = false
is_other (Flag i) = false
is_other (Choice i) = false
is_other Memory = false
is_other other = true

-- the tokens of its sort
abbrev pub pattern_of : Symbol → List ModelToken
pattern_of (Register i) = word_sort (codes "32")
pattern_of (Flag i) = word_sort (codes "1")
pattern_of (Choice i) = word_sort (codes "2")
pattern_of Memory = array_sort
pattern_of OtherRegister = word_sort (codes "32")
pattern_of OtherFlag = word_sort (codes "1")
pattern_of OtherMemory = array_sort

-- the name of the word at a place
abbrev pub name_at : Layout → ℕ → List ℕ
name_at layout i = if nat_lt i (length (value_names layout)) then slice_index_or (value_names layout) i [] else choice_name (i - length (value_names layout))

-- a name that is no word's and not the memory's
abbrev pub IsOtherName : Layout → (count : ℕ) → List ℕ → Type 0
IsOtherName layout count w = ((i : ℕ) → i < count → bytes_eq (name_at layout i) w ≡ false) × (bytes_eq (codes "mem") w ≡ false)

-- the symbol has the name; words have places below a number
abbrev pub IsNamed : Layout → (count : ℕ) → Symbol → List ℕ → Type 0
IsNamed layout count (Register i) w = (i < count) × (w ≡ name_at layout i)
IsNamed layout count (Flag i) w = (i < count) × (w ≡ name_at layout i)
IsNamed layout count (Choice i) w = (i < count) × (w ≡ name_at layout i)
IsNamed layout count Memory w = w ≡ codes "mem"
IsNamed layout count other w = IsOtherName layout count w

-- a symbol that a name has, if it is declared
abbrev pub IsNamedIf : Layout → (count : ℕ) → Option Symbol → List ℕ → Type 0
IsNamedIf layout count None w = Unit {0}
IsNamedIf layout count (Some s) w = IsNamed layout count s w

-- how many words there are: the registers, the flags, and the choices of all points
abbrev pub count_of : Layout → List Bool → ℕ
count_of layout drawn = length (value_names layout) + length drawn
