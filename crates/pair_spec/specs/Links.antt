-- Links between two functions: what their entry states and their exit states are to agree on, and the text that says so.
use Rattle.std.specs.Prelude.{ℕ, ◌≡◌, ◌≤◌, ◌<◌, ◌+◌, ◌-◌, ◌⊎◌, Bool, true, false, ◌==◌, if◌then◌else◌, List, [], ◌∷◌, ◌++◌, Option, Some, None, codes, length, All}
use Rattle.std.specs.List.{list_any, list_all}
use Rattle.word_spec.specs.Memory.{Memory, Little}
use Rattle.word_spec.specs.State.{State}
use Rattle.bilv_spec.specs.Notes.{Expr, Number, Register, Flag, value}
use Rattle.word_spec.specs.Tokens.{Token, NumberToken, NameToken, tokens_of}
use Rattle.bilv_spec.specs.Run.{Program}
use Rattle.bilv_spec.specs.LiveFlags.{names_flag}
use Rattle.notes_spec.specs.NotesGrammar.{lines_of, IsGood}
use Rattle.word_spec.specs.RowFiles.{from_to}

-- What is linked, with the number of the line: a register or a flag of each side, at the entry or at the exit; or the bytes of addresses, both ends included.
-- The number 0 stands for the register that is always 0.
pub data Link : Type 0 where
  EqualAtEntry : (line : ℕ) → (first second : Expr) → Link
  EqualAtExit : (line : ℕ) → (first second : Expr) → Link
  SharedBytes : (line low high : ℕ) → Link
  SameBytes : (line low high : ℕ) → Link

-- the number of its line
abbrev pub line_of : Link → ℕ
line_of (EqualAtEntry n x y) = n
line_of (EqualAtExit n x y) = n
line_of (SharedBytes n low high) = n
line_of (SameBytes n low high) = n

-- the addresses from one to another
abbrev pub addresses : (low high : ℕ) → List ℕ
addresses low high = from_to low (high + 1 - low)

-- a register or a flag of one state has the value of one of another; no byte order plays a part in it
abbrev pub have_equal : Expr → Expr → State → State → Bool
have_equal x y s t = value Little x s s == value Little y t t

-- two memories have the same bytes at some addresses
abbrev pub have_bytes : List ℕ → Memory → Memory → Bool
have_bytes places m n = list_all (λ a. m a == n a) places

-- two entry states agree on a link, as far as it speaks of entries
abbrev pub agrees_at_entry : State → State → Link → Bool
agrees_at_entry s t (EqualAtEntry n x y) = have_equal x y s t
agrees_at_entry s t (SharedBytes n low high) = have_bytes (addresses low high) s.mem t.mem
agrees_at_entry s t (EqualAtExit n x y) = true
agrees_at_entry s t (SameBytes n low high) = true

-- two exit states agree on a link, as far as it speaks of exits
abbrev pub agrees_at_exit : State → State → Link → Bool
agrees_at_exit s t (EqualAtEntry n x y) = true
agrees_at_exit s t (SharedBytes n low high) = true
agrees_at_exit s t (EqualAtExit n x y) = have_equal x y s t
agrees_at_exit s t (SameBytes n low high) = have_bytes (addresses low high) s.mem t.mem

-- the line of the first link that does not pass a test
abbrev pub first_line : (Link → Bool) → List Link → Option ℕ
first_line passes [] = None
first_line passes (l ∷ rest) = if passes l then first_line passes rest else Some (line_of l)

-- the first line on which two entry states don't agree, and two exit states
abbrev pub unlinked_line : List Link → State → State → Option ℕ
unlinked_line links s t = first_line (agrees_at_entry s t) links

abbrev pub differing_line : List Link → State → State → Option ℕ
differing_line links s t = first_line (agrees_at_exit s t) links

-- what a line names on one of the two sides
abbrev pub named_by : (second : Bool) → Expr → Expr → Expr
named_by true x y = y
named_by false x y = x

-- the link compares a flag of one of the sides at the exit
abbrev pub compares_flag : (second : Bool) → ℕ → Link → Bool
compares_flag side f (EqualAtExit n x y) = names_flag f (named_by side x y)
compares_flag side f (EqualAtEntry n x y) = false
compares_flag side f (SharedBytes n low high) = false
compares_flag side f (SameBytes n low high) = false

-- The program of a side whose compared flags are asked for at the exit besides those of its notes. Without them an assignment of such a flag that nothing else
-- reads could be left out.
abbrev pub asking : (second : Bool) → List Link → Program → Program
asking side links p = record p { out = λ f. list_any (compares_flag side f) links }

-- ---- the text

-- a register, a flag, or neither
pub data Kind : Type 0 where
  IsRegister : Kind
  IsFlag : Kind
  IsNeither : Kind

abbrev pub kind_of : Expr → Kind
kind_of (Number n) = IsRegister
kind_of (Register r) = IsRegister
kind_of (Flag f) = IsFlag
kind_of other = IsNeither

-- both are registers, or both flags
abbrev pub AreAlike : Kind → Kind → Type 0
AreAlike IsRegister IsRegister = Unit {0}
AreAlike IsFlag IsFlag = Unit {0}
AreAlike x y = ⊥

-- The link compares a register with a register or a flag with a flag, as each line of a text does.
abbrev pub ComparesAlike : Link → Type 0
ComparesAlike (EqualAtEntry n x y) = AreAlike (kind_of x) (kind_of y)
ComparesAlike (EqualAtExit n x y) = AreAlike (kind_of x) (kind_of y)
ComparesAlike (SharedBytes n low high) = Unit {0}
ComparesAlike (SameBytes n low high) = Unit {0}

-- what the names of a line stand for: a register or a flag of each machine
pub record AreNamed (first second : List ℕ → Option Expr) (v w : List ℕ) (x y : Expr) : Type 0 where
  pub first_is : first v ≡ Some x
  pub second_is : second w ≡ Some y
  pub alike : AreAlike (kind_of x) (kind_of y)

-- what a line says: nothing, or a link
pub data Says : Type 0 where
  Nothing : Says
  LinkIs : Link → Says

-- the words of the lines
abbrev pub two_names : List ℕ → List ℕ → List ℕ → List Token
two_names word v w = NameToken word ∷ NameToken v ∷ NameToken w ∷ []

abbrev pub two_numbers : List ℕ → ℕ → ℕ → List Token
two_numbers word a b = NameToken word ∷ NumberToken a ∷ NumberToken b ∷ []

-- the tokens have the form of a line, whatever their names stand for
pub data HasForm : List Token → Type 0 where
  blank : HasForm []
  enters : (v w : List ℕ) → HasForm (two_names (codes "in") v w)
  leaves : (v w : List ℕ) → HasForm (two_names (codes "out") v w)
  shares : (a b : ℕ) → HasForm (two_numbers (codes "share") a b)
  is_same : (a b : ℕ) → HasForm (two_numbers (codes "same") a b)

-- the tokens of line n say this, by the names of two machines
pub data IsSaid (first second : List ℕ → Option Expr) (n : ℕ) : List Token → Says → Type 0 where
  nothing : IsSaid first second n [] Nothing
  enters : {v w : List ℕ} {x y : Expr} → AreNamed first second v w x y → IsSaid first second n (two_names (codes "in") v w) (LinkIs (EqualAtEntry n x y))
  leaves : {v w : List ℕ} {x y : Expr} → AreNamed first second v w x y → IsSaid first second n (two_names (codes "out") v w) (LinkIs (EqualAtExit n x y))
  shares : (a b : ℕ) → IsSaid first second n (two_numbers (codes "share") a b) (LinkIs (SharedBytes n a b))
  is_same : (a b : ℕ) → IsSaid first second n (two_numbers (codes "same") a b) (LinkIs (SameBytes n a b))

-- a range has 1 to 256 bytes
abbrev pub IsRange : Says → Type 0
IsRange (LinkIs (SharedBytes n low high)) = (low ≤ high) × (high < low + 256)
IsRange (LinkIs (SameBytes n low high)) = (low ≤ high) × (high < low + 256)
IsRange other = Unit {0}

-- line n, which has no fault, and what it says
pub record IsLine (first second : List ℕ → Option Expr) (n : ℕ) (text : List ℕ) (says : Says) : Type 0 where
  pub few : n ≤ 256
  pub short : length text ≤ 1024
  pub good : All IsGood (tokens_of text)
  pub said : IsSaid first second n (tokens_of text) says
  pub range : IsRange says

-- lines from number n on, and what they say
abbrev pub AreLines : (first second : List ℕ → Option Expr) → ℕ → List (List ℕ) → List Says → Type 0
AreLines first second n [] [] = Unit {0}
AreLines first second n (text ∷ texts) (s ∷ says) = IsLine first second n text s × AreLines first second (n + 1) texts says
AreLines first second n texts says = ⊥

-- the links that are said
abbrev pub links_in : List Says → List Link
links_in [] = []
links_in (Nothing ∷ says) = links_in says
links_in (LinkIs l ∷ says) = l ∷ links_in says

-- the text says these links
abbrev pub IsLinksText : (first second : List ℕ → Option Expr) → List ℕ → List Link → Type 0
IsLinksText first second text links = (says : List Says) × AreLines first second 1 (lines_of text) says × (links_in says ≡ links)

-- Why a line is refused: it is line 257 or later, has more than 1024 bytes or a token that notes may not have; it is of no form; a name is none of its
-- machine's registers and flags, or they are not both registers or both flags; its range is empty or has more than 256 bytes.
pub data LinkFault : Type 0 where
  LimitFault : LinkFault
  SyntaxFault : LinkFault
  NameFault : LinkFault
  RangeFault : LinkFault

abbrev pub fault_rank : LinkFault → ℕ
fault_rank LimitFault = 1
fault_rank SyntaxFault = 2
fault_rank NameFault = 3
fault_rank RangeFault = 4

-- a fault applies to line n
abbrev pub LinkFaultApplies : (first second : List ℕ → Option Expr) → ℕ → List ℕ → LinkFault → Type 0
LinkFaultApplies first second n text LimitFault = (256 < n) ⊎ ((1024 < length text) ⊎ ¬ All IsGood (tokens_of text))
LinkFaultApplies first second n text SyntaxFault = ¬ HasForm (tokens_of text)
LinkFaultApplies first second n text NameFault = (s : Says) → ¬ IsSaid first second n (tokens_of text) s
LinkFaultApplies first second n text RangeFault = (s : Says) × IsSaid first second n (tokens_of text) s × ¬ IsRange s

-- the first faulty line, and its least fault
pub data IsFirstLinkFault (first second : List ℕ → Option Expr) (text : List ℕ) : ℕ → LinkFault → Type 0 where
  at_line : (good rest : List (List ℕ)) (bad : List ℕ) (says : List Says) {f : LinkFault} →
      lines_of text ≡ good ++ bad ∷ rest → AreLines first second 1 good says → LinkFaultApplies first second (length good + 1) bad f →
      ((g : LinkFault) → fault_rank g < fault_rank f → ¬ LinkFaultApplies first second (length good + 1) bad g) →
      IsFirstLinkFault first second text (length good + 1) f
