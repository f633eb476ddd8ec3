-- The answer of an outside solver: its tokens (SMT-LIB 2.6, section 3.1), the grammar of the values that are read, and why an answer is refused.
use Rattle.std.specs.Prelude.{ℕ, ◌≡◌, ◌≢◌, All, ◌≤◌, ◌<◌, ◌+◌, ◌*◌, ◌^◌, Bool, true, false, ◌==◌, ◌&&◌, ◌||◌, not, nat_le, if◌then◌else◌, List, [], ◌∷◌, ◌++◌, Some, codes, length, map, Contains}
use Rattle.std.specs.List.{list_all, list_any}
use Rattle.std.specs.Str.Parse.{digits_value}
use Rattle.word_spec.specs.Texts.{decimal_word, split_lines}
use Rattle.bilv_spec.specs.SmtLib.{is_binary_digit}

-- a bracket; a word, which is a symbol, a number, a constant or a keyword; a quoted symbol by what stands between the bars; a string; bytes that begin no
-- token, or a quoted symbol or a string without its end
pub data ModelToken : Type 0 where
  Open : ModelToken
  Close : ModelToken
  Word : List ℕ → ModelToken
  Quoted : List ℕ → ModelToken
  Text : ModelToken
  Bad : ModelToken

-- a token with the number of the line on which it begins
pub record Placed : Type 0 where
  pub line : ℕ
  pub token : ModelToken

abbrev pub at_line : ℕ → ModelToken → Placed
at_line n t = record { line = n; token = t }

-- where a reader of bytes stands: between tokens, in a word, a comment, a quoted symbol or a string, or after a quotation mark within a string
pub data Mode : Type 0 where
  Between : Mode
  InWord : List ℕ → Mode
  InComment : Mode
  InQuoted : (from : ℕ) → List ℕ → Mode
  InText : (from : ℕ) → Mode
  AfterMark : (from : ℕ) → Mode

-- blanks, tabs, carriage returns and line feeds
abbrev pub is_space : ℕ → Bool
is_space b = (b == 32) || (b == 9) || (b == 13) || (b == 10)

-- a letter, a digit, or one of the other bytes of simple symbols (SMT-LIB 2.6, section 3.1); and # and :, with which constants and keywords begin
abbrev pub is_of_word : ℕ → Bool
is_of_word b =
    (nat_le 48 b && nat_le b 57) || (nat_le 65 b && nat_le b 90) || (nat_le 97 b && nat_le b 122)
    || list_any (λ c. b == c) (codes "~!@$%^&*_-+=<>.?/#:")

-- the line after a byte
abbrev pub line_behind : ℕ → ℕ → ℕ
line_behind n b = if b == 10 then n + 1 else n

-- where the reader stands after a byte that stands between tokens, or that ends one and is not of it
abbrev pub begun : (line : ℕ) → ℕ → Mode
begun n b =
    if b == 59 then InComment else if b == 124 then InQuoted n [] else if b == 34 then InText n else if is_of_word b then InWord (b ∷ []) else Between

-- and after any byte
abbrev pub mode_after : (line : ℕ) → Mode → ℕ → Mode
mode_after n Between b = begun n b
mode_after n (InWord w) b = if is_of_word b then InWord (w ++ b ∷ []) else begun n b
mode_after n InComment b = if b == 10 then Between else InComment
mode_after n (InQuoted from w) b = if b == 124 then Between else InQuoted from (w ++ b ∷ [])
mode_after n (InText from) b = if b == 34 then AfterMark from else InText from
mode_after n (AfterMark from) b = if b == 34 then InText from else begun n b

-- the token that a byte is by itself
abbrev pub alone : (line : ℕ) → ℕ → List Placed
alone n b =
    if b == 40 then at_line n Open ∷ [] else if b == 41 then at_line n Close ∷ [] else
    if is_space b || (b == 59) || (b == 124) || (b == 34) || is_of_word b then [] else at_line n Bad ∷ []

-- The tokens that a byte ends or is. A word has no line feed in it, so it ends on the line on which it begins.
abbrev pub completed : (line : ℕ) → Mode → ℕ → List Placed
completed n Between b = alone n b
completed n (InWord w) b = if is_of_word b then [] else at_line n (Word w) ∷ alone n b
completed n InComment b = []
completed n (InQuoted from w) b = if b == 124 then at_line from (Quoted w) ∷ [] else []
completed n (InText from) b = []
completed n (AfterMark from) b = if b == 34 then [] else at_line from Text ∷ alone n b

-- those that the end of the text ends
abbrev pub left_over : (line : ℕ) → Mode → List Placed
left_over n Between = []
left_over n (InWord w) = at_line n (Word w) ∷ []
left_over n InComment = []
left_over n (InQuoted from w) = at_line from Bad ∷ []
left_over n (InText from) = at_line from Bad ∷ []
left_over n (AfterMark from) = at_line from Text ∷ []

-- the tokens of bytes from a line on
abbrev pub tokens_from : (line : ℕ) → Mode → List ℕ → List Placed
tokens_from n mode [] = left_over n mode
tokens_from n mode (b ∷ rest) = completed n mode b ++ tokens_from (line_behind n b) (mode_after n mode b) rest

-- the tokens of an answer
unfoldable pub placed_tokens : List ℕ → List Placed
placed_tokens text = tokens_from 1 Between text

-- ---- the grammar, over tokens without their lines

-- the tokens of words
abbrev pub words : List (List ℕ) → List ModelToken
words ws = map (λ w. Word w) ws

-- a list of tokens in brackets
abbrev pub in_brackets : List ModelToken → List ModelToken
in_brackets ts = Open ∷ ts ++ Close ∷ []

-- An expression of what is passed over: a token that is no bracket and not bad, or expressions in brackets.
mutual
  pub data IsExpression : List ModelToken → Type 0 where
    word : (w : List ℕ) → IsExpression (Word w ∷ [])
    quoted : (w : List ℕ) → IsExpression (Quoted w ∷ [])
    string : IsExpression (Text ∷ [])
    list : {ts : List ModelToken} → AreExpressions ts → IsExpression (in_brackets ts)

  pub data AreExpressions : List ModelToken → Type 0 where
    none : AreExpressions []
    some : {ts us : List ModelToken} → IsExpression ts → AreExpressions us → AreExpressions (ts ++ us)

-- a word that is a symbol: one that begins with no digit, # or colon, as numbers, constants and keywords do
abbrev pub is_symbol : List ℕ → Bool
is_symbol [] = false
is_symbol (b ∷ rest) = not ((nat_le 48 b && nat_le b 57) || (b == 35) || (b == 58))

-- a name: a symbol or a quoted symbol, which name the same
pub data IsName : ModelToken → List ℕ → Type 0 where
  plain : (w : List ℕ) → is_symbol w ≡ true → IsName (Word w) w
  quoted : (w : List ℕ) → IsName (Quoted w) w

-- an index: a number or a symbol
pub data IsIndex : ModelToken → Type 0 where
  by_number : (w : List ℕ) (n : ℕ) → decimal_word w ≡ Some n → IsIndex (Word w)
  by_symbol : {t : ModelToken} {w : List ℕ} → IsName t w → IsIndex t

-- a name with indices
abbrev pub indexed_name : ModelToken → List ModelToken → List ModelToken
indexed_name t is = in_brackets (Word (codes "_") ∷ t ∷ is)

-- the form of a sort, whichever it is: a name, a name with indices, or one of these over sorts (SMT-LIB 2.6, sections 3.3 and 3.5)
mutual
  pub data IsSortForm : List ModelToken → Type 0 where
    named : {t : ModelToken} {w : List ℕ} → IsName t w → IsSortForm (t ∷ [])
    indexed : (t i : ModelToken) (w : List ℕ) (is : List ModelToken) → IsName t w → IsIndex i → All IsIndex is → IsSortForm (indexed_name t (i ∷ is))
    applied : (t : ModelToken) (w : List ℕ) (ss ts : List ModelToken) → IsName t w → t ≢ Word (codes "_") → IsSortForm ss → AreSortForms ts →
        IsSortForm (in_brackets (t ∷ ss ++ ts))
    index_applied : (t i : ModelToken) (w : List ℕ) (is ss ts : List ModelToken) → IsName t w → IsIndex i → All IsIndex is →
        IsSortForm ss → AreSortForms ts → IsSortForm (in_brackets (indexed_name t (i ∷ is) ++ ss ++ ts))

  pub data AreSortForms : List ModelToken → Type 0 where
    none : AreSortForms []
    some : {ts us : List ModelToken} → IsSortForm ts → AreSortForms us → AreSortForms (ts ++ us)

-- a hexadecimal digit of either case
abbrev pub is_hex : ℕ → Bool
is_hex b = (nat_le 48 b && nat_le b 57) || (nat_le 65 b && nat_le b 70) || (nat_le 97 b && nat_le b 102)

-- a word of some bits: #x and digits, #b and digits, or (_ bvN n)
pub data IsWord : List ModelToken → (width value : ℕ) → Type 0 where
  hexadecimal : (d : ℕ) (ds : List ℕ) → list_all is_hex (d ∷ ds) ≡ true →
      IsWord (Word (codes "#x" ++ d ∷ ds) ∷ []) (4 * length (d ∷ ds)) (digits_value 16 (d ∷ ds))
  binary : (d : ℕ) (ds : List ℕ) → list_all is_binary_digit (d ∷ ds) ≡ true →
      IsWord (Word (codes "#b" ++ d ∷ ds) ∷ []) (length (d ∷ ds)) (digits_value 2 (d ∷ ds))
  decimal : (v n : List ℕ) (value width : ℕ) → decimal_word v ≡ Some value → decimal_word n ≡ Some width →
      IsWord (in_brackets (words (codes "_" ∷ (codes "bv" ++ v) ∷ n ∷ []))) width value

-- a sort of words, and that of memories
abbrev pub word_sort : List ℕ → List ModelToken
word_sort n = in_brackets (words (codes "_" ∷ codes "BitVec" ∷ n ∷ []))

abbrev pub array_sort : List ModelToken
array_sort = Open ∷ Word (codes "Array") ∷ word_sort (codes "32") ++ word_sort (codes "8") ++ Close ∷ []

-- a value as it is written: a word; an array with one value at every index, whose sort is given; or an array with one value changed
pub data Value : Type 0 where
  WordIs : (width value : ℕ) → Value
  ConstantIs : (sort : List ModelToken) → (width value : ℕ) → Value
  StoredIs : Value → (index_width index width value : ℕ) → Value

-- Their form. Whether it is an array that is changed is asked with the sorts.
pub data IsValue : List ModelToken → Value → Type 0 where
  word : {ts : List ModelToken} {n v : ℕ} → IsWord ts n v → IsValue ts (WordIs n v)
  constant : {sort ts : List ModelToken} {n v : ℕ} → IsSortForm sort → IsWord ts n v →
      IsValue (in_brackets (in_brackets (words (codes "as" ∷ codes "const" ∷ []) ++ sort) ++ ts)) (ConstantIs sort n v)
  stored : {array is vs : List ModelToken} {a : Value} {m i n v : ℕ} → IsValue array a → IsWord is m i → IsWord vs n v →
      IsValue (in_brackets (Word (codes "store") ∷ array ++ is ++ vs)) (StoredIs a m i n v)

-- one of the definitions: of a symbol that the script declares, with its sort and its value; or of another one, which is passed over
pub data Definition : Type 0 where
  Gives : (name : List ℕ) → (sort : List ModelToken) → Value → Definition
  PassedOver : Definition

abbrev pub begins_definition : ModelToken → List ModelToken
begins_definition name = Open ∷ Word (codes "define-fun") ∷ name ∷ []

pub data IsDefinition (declared : List (List ℕ)) : List ModelToken → Definition → Type 0 where
  gives : {t : ModelToken} {w : List ℕ} {sort ts : List ModelToken} {v : Value} → IsName t w → Contains declared w → IsSortForm sort → IsValue ts v →
      IsDefinition declared (begins_definition t ++ Open ∷ Close ∷ sort ++ ts ++ Close ∷ []) (Gives w sort v)
  passes : {t : ModelToken} {w : List ℕ} {ts : List ModelToken} → IsName t w → ¬ Contains declared w → AreExpressions ts →
      IsDefinition declared (begins_definition t ++ ts ++ Close ∷ []) PassedOver

pub data AreDefinitions (declared : List (List ℕ)) : List ModelToken → List Definition → Type 0 where
  none : AreDefinitions declared [] []
  some : {ts us : List ModelToken} {d : Definition} {ds : List Definition} → IsDefinition declared ts d → AreDefinitions declared us ds →
      AreDefinitions declared (ts ++ us) (d ∷ ds)

-- what stands before the definitions: sat, a bracket, and the word model or not
pub data IsHead : List ModelToken → Type 0 where
  plain : IsHead (Word (codes "sat") ∷ Open ∷ [])
  model : IsHead (Word (codes "sat") ∷ Open ∷ Word (codes "model") ∷ [])

-- the form of an answer, whatever the sorts are and however often a name stands there
pub data HasForm (declared : List (List ℕ)) : List ModelToken → List Definition → Type 0 where
  whole : {head ts : List ModelToken} {ds : List Definition} → IsHead head → AreDefinitions declared ts ds →
      HasForm declared (head ++ ts ++ Close ∷ []) ds

-- ---- sorts

-- a symbol's sort: words of a width, or memories
pub data Sort : Type 0 where
  Words : ℕ → Sort
  Memories : Sort

-- a symbol with its sort
pub record Declared : Type 0 where
  pub name : List ℕ
  pub sort : Sort

abbrev pub names_of : List Declared → List (List ℕ)
names_of ds = map (λ d. d.name) ds

-- the tokens say the sort
abbrev pub IsSort : Sort → List ModelToken → Type 0
IsSort (Words n) ts = (w : List ℕ) × (decimal_word w ≡ Some n) × (ts ≡ word_sort w)
IsSort Memories ts = ts ≡ array_sort

-- the value is of the sort, and no word of it is too wide
abbrev pub IsOfSort : Sort → Value → Type 0
IsOfSort (Words n) (WordIs m v) = (m ≡ n) × (v < 2 ^ n)
IsOfSort Memories (ConstantIs sort m v) = (sort ≡ array_sort) × (m ≡ 8) × (v < 256)
IsOfSort Memories (StoredIs a m i n v) = IsOfSort Memories a × (m ≡ 32) × (i < 2 ^ 32) × (n ≡ 8) × (v < 256)
IsOfSort sort value = ⊥

-- ---- refusals

pub data ModelFault : Type 0 where
  AnswerFault : ModelFault
  SyntaxFault : ModelFault
  SortFault : ModelFault
  TwiceFault : ModelFault

abbrev pub fault_rank : ModelFault → ℕ
fault_rank AnswerFault = 1
fault_rank SyntaxFault = 2
fault_rank SortFault = 3
fault_rank TwiceFault = 4

-- the tokens without their lines
abbrev pub bare : List Placed → List ModelToken
bare ts = map (λ t. t.token) ts

-- some answer begins with these tokens
abbrev pub IsFront : List (List ℕ) → List ModelToken → Type 0
IsFront declared ts = (us : List ModelToken) × (ds : List Definition) × HasForm declared (ts ++ us) ds

-- the line of the first token of some, or another line where there is none
abbrev pub line_or : ℕ → List Placed → ℕ
line_or n [] = n
line_or n (t ∷ ts) = t.line

-- the line after the last
abbrev pub line_after : List ℕ → ℕ
line_after text = length (split_lines text) + 1

-- the word sat stands first
abbrev pub BeginsWithSat : List Placed → Type 0
BeginsWithSat [] = ⊥
BeginsWithSat (t ∷ ts) = t.token ≡ Word (codes "sat")

-- whole definitions, and what stands after them
pub record StandsBehind (declared : List Declared) (ts : List Placed) (ds : List Definition) (behind : List Placed) : Type 0 where
  pub head : List Placed
  pub defined : List Placed
  pub is_head : IsHead (bare head)
  pub are : AreDefinitions (names_of declared) (bare defined) ds
  pub tokens : ts ≡ head ++ defined ++ behind

-- a definition of a declared symbol begins, with the line of its name
pub record BeginsWith (declared : List Declared) (ts : List Placed) (d : Declared) (line : ℕ) (behind : List Placed) : Type 0 where
  pub symbol : Contains declared d
  pub begin : List Placed
  pub name : Placed
  pub begin_is : bare begin ≡ Open ∷ Word (codes "define-fun") ∷ []
  pub name_is : IsName name.token d.name
  pub line_is : name.line ≡ line
  pub tokens : ts ≡ begin ++ name ∷ behind

-- a fault applies at a line
pub data ModelFaultApplies (declared : List Declared) (text : List ℕ) : ℕ → ModelFault → Type 0 where
  answer : ¬ BeginsWithSat (placed_tokens text) → ModelFaultApplies declared text (line_or (line_after text) (placed_tokens text)) AnswerFault
  token : (front : List Placed) (bad : Placed) (rest : List Placed) → placed_tokens text ≡ front ++ bad ∷ rest →
      IsFront (names_of declared) (bare front) → ¬ IsFront (names_of declared) (bare front ++ bad.token ∷ []) →
      ModelFaultApplies declared text bad.line SyntaxFault
  ended : IsFront (names_of declared) (bare (placed_tokens text)) → ((ds : List Definition) → ¬ HasForm (names_of declared) (bare (placed_tokens text)) ds) →
      ModelFaultApplies declared text (line_after text) SyntaxFault
  sort : {ds : List Definition} {d : Declared} {line : ℕ} {behind : List Placed} (empty said rest : List Placed) → StandsBehind declared
      (placed_tokens text) ds behind →
      BeginsWith declared behind d line (empty ++ said ++ rest) → bare empty ≡ Open ∷ Close ∷ [] → IsSortForm (bare said) → ¬ IsSort d.sort (bare said) →
      ModelFaultApplies declared text (line_or 0 said) SortFault
  value : {ds : List Definition} {d : Declared} {line : ℕ} {behind : List Placed} (empty said given rest : List Placed) {v : Value} →
      StandsBehind declared (placed_tokens text) ds behind → BeginsWith declared behind d line (empty ++ said ++ given ++ rest) →
      bare empty ≡ Open ∷ Close ∷ [] → IsSortForm (bare said) → IsValue (bare given) v → ¬ IsOfSort d.sort v →
      ModelFaultApplies declared text (line_or 0 given) SortFault
  twice : {ds : List Definition} {d : Declared} {line : ℕ} {behind rest : List Placed} (sort : List ModelToken) (v : Value) →
      StandsBehind declared (placed_tokens text) ds behind → BeginsWith declared behind d line rest → Contains ds (Gives d.name sort v) →
      ModelFaultApplies declared text line TwiceFault

-- the first line at which a fault applies, and its least fault
pub record IsModelFault (declared : List Declared) (text : List ℕ) (line : ℕ) (f : ModelFault) : Type 0 where
  pub applies : ModelFaultApplies declared text line f
  pub first : (n : ℕ) (g : ModelFault) → ModelFaultApplies declared text n g → line ≤ n
  pub least : (g : ModelFault) → ModelFaultApplies declared text line g → fault_rank f ≤ fault_rank g

-- an answer without fault, and its definitions
pub record IsAnswer (declared : List Declared) (text : List ℕ) (ds : List Definition) : Type 0 where
  pub form : HasForm (names_of declared) (bare (placed_tokens text)) ds
  pub none : (n : ℕ) (f : ModelFault) → ¬ ModelFaultApplies declared text n f
