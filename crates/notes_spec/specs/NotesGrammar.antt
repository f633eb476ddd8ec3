-- The text of notes: lines, tokens, expressions.
use Rattle.std.specs.Prelude.{ℕ, ◌≡◌, ◌≤◌, ◌<◌, ◌+◌, ◌-◌, ◌^◌, Bool, true, false, List, [], ◌∷◌, ◌++◌, Option, Some, None, ◌==◌, ◌&&◌, ◌||◌, if◌then◌else◌, length, codes, count_by, All, AllPairs, Contains, ◌≢◌}
use Rattle.std.specs.List.{list_any}
use Rattle.std.specs.Str.{bytes_eq}
use Rattle.machine_spec.specs.Machine.{IsAtPlace}
use Rattle.notes_spec.specs.Scopes.{Vocabulary, Scope, Paired, reads_frames, begin, named, number_of_name, Changed, changed_by, is_free, binding, may_bind, declaring, begun}
use Rattle.bilv_spec.specs.Notes.{Op, Or, And, Equal, NotEqual, Below, AtMost, Above, AtLeast, SignedBelow, SignedAtMost, SignedAbove, SignedAtLeast, BitOr, BitXor, BitAnd, ShiftLeft, ShiftRight, ShiftSigned, Plus, Minus, Times, Expr, Number, Register, Flag, Pc, Bound, Memory, Old, Not, Binary, written_out, NoteLine, Assert, Targets, FixedRange, Function, At, Named, Notes}
use Rattle.word_spec.specs.Tokens.{Token, NumberToken, NameToken, SignToken, BadByte, BadText, tokens_of}

-- the first line with a byte before it
abbrev pub onto_first : ℕ → List (List ℕ) → List (List ℕ)
onto_first b [] = (b ∷ []) ∷ []
onto_first b (l ∷ ls) = (b ∷ l) ∷ ls

-- the text begins with a byte
abbrev pub begins_with : ℕ → List ℕ → Bool
begins_with b [] = false
begins_with b (c ∷ rest) = b == c

-- The lines of a text. Lines end with LF, which the last may lack. A CR before LF is dropped.
abbrev pub lines_of : List ℕ → List (List ℕ)
lines_of [] = []
lines_of (b ∷ rest) =
    if b == 10 then [] ∷ lines_of rest else
    if (b == 13) && begins_with 10 rest then lines_of rest else onto_first b (lines_of rest)

-- the binary operators: their level, token and meaning
abbrev pub operators : List (ℕ × Token × Op)
operators =
    (1, NameToken (codes "or"), Or) ∷ (2, NameToken (codes "and"), And) ∷
    (4, SignToken (codes "="), Equal) ∷ (4, SignToken (codes "!="), NotEqual) ∷
    (4, SignToken (codes "<u"), Below) ∷ (4, SignToken (codes "<=u"), AtMost) ∷ (4, SignToken (codes ">u"), Above) ∷ (4, SignToken (codes ">=u"), AtLeast) ∷
    (4, SignToken (codes "<s"), SignedBelow) ∷ (4, SignToken (codes "<=s"), SignedAtMost) ∷
    (4, SignToken (codes ">s"), SignedAbove) ∷ (4, SignToken (codes ">=s"), SignedAtLeast) ∷
    (5, SignToken (codes "|"), BitOr) ∷ (6, SignToken (codes "^"), BitXor) ∷ (7, SignToken (codes "&"), BitAnd) ∷
    (8, SignToken (codes "<<"), ShiftLeft) ∷ (8, SignToken (codes ">>"), ShiftRight) ∷ (8, SignToken (codes ">>>"), ShiftSigned) ∷
    (9, SignToken (codes "+"), Plus) ∷ (9, SignToken (codes "-"), Minus) ∷ (10, SignToken (codes "*"), Times) ∷ []

-- a level of the left operand: binary operators group to the left, but those of level 4 take no operand of their own level
abbrev pub left_of : ℕ → ℕ
left_of level = if level == 4 then 5 else level

-- the words of load_words, with how many bytes they load
abbrev pub load_words : List (ℕ × List ℕ)
load_words = (1, codes "mem8") ∷ (2, codes "mem16") ∷ (4, codes "mem32") ∷ []

-- the number that a token is
abbrev pub number_at : Scope → Token → Option ℕ
number_at s (NumberToken n) = Some n
number_at s (NameToken w) = number_of_name s w
number_at s (SignToken w) = None
number_at s BadByte = None
number_at s BadText = None

abbrev pub IsNumber : Scope → Token → ℕ → Type 0
IsNumber s t n = number_at s t ≡ Some n

-- the numbers stand one after the other
abbrev pub AreNumbers : Scope → List Token → List ℕ → Type 0
AreNumbers s [] [] = Unit {0}
AreNumbers s (t ∷ ts) (n ∷ ns) = IsNumber s t n × AreNumbers s ts ns
AreNumbers s ts ns = ⊥

-- the names stand one after the other of what a line of `modifies` changes
abbrev pub AreChanged : Scope → List Token → List Changed → Type 0
AreChanged s [] [] = Unit {0}
AreChanged s (NameToken w ∷ ts) (c ∷ cs) = (changed_by s.mode s w ≡ Some c) × AreChanged s ts cs
AreChanged s ts cs = ⊥

-- The levels, the loosest first: 1 or, 2 and, 3 not, 4 comparisons, 5 |, 6 ^, 7 &, 8 shifts, 9 sums, 10 products, 11 what stands alone or in brackets.
-- Parses s level tokens e: the tokens are the expression e, of an operator of this level or of a tighter one.
pub data Parses : Scope → ℕ → List Token → Expr → Type 0 where
  tighter : {s : Scope} {level : ℕ} {ts : List Token} {e : Expr} → level < 11 → Parses s (level + 1) ts e → Parses s level ts e
  binary_of : {s : Scope} {level : ℕ} {ts xs ys : List Token} {t : Token} {op : Op} {a b : Expr} → Contains {X = ℕ × Token × Op} operators (level, t, op) →
      Parses s (left_of level) xs a → Parses s (level + 1) ys b → ts ≡ xs ++ t ∷ ys → Parses s level ts (Binary op a b)
  not_of : {s : Scope} {ts : List Token} {e : Expr} → Parses s 3 ts e → Parses s 3 (NameToken (codes "not") ∷ ts) (Not e)
  number_of : {s : Scope} {n : ℕ} → Parses s 11 (NumberToken n ∷ []) (Number n)
  name_of : {s : Scope} {w : List ℕ} {e : Expr} → named s w ≡ Some e → Parses s 11 (NameToken w ∷ []) e
  memory_of : {s : Scope} {n : ℕ} {w : List ℕ} {ts us : List Token} {e : Expr} → Contains {X = ℕ × List ℕ} load_words (n, w) →
      Parses s 1 us e → ts ≡ NameToken w ∷ SignToken (codes "[") ∷ us ++ SignToken (codes "]") ∷ [] → Parses s 11 ts (Memory n e)
  old_of : {s : Scope} {ts us : List Token} {e : Expr} → Parses s 1 us e →
      ts ≡ NameToken (codes "old") ∷ SignToken (codes "(") ∷ us ++ SignToken (codes ")") ∷ [] → Parses s 11 ts (Old e)
  all_of : {s : Scope} {w : List ℕ} {b c : Token} (low high : ℕ) {ts us : List Token} (e : Expr) → s.is_second ≡ true →
      number_at s b ≡ Some low → number_at s c ≡ Some high → may_bind s w low high ≡ true → Parses (binding s w) 1 us e →
      ts ≡ NameToken (codes "all") ∷ NameToken w ∷ b ∷ c ∷ SignToken (codes "(") ∷ us ++ SignToken (codes ")") ∷ [] →
      Parses s 11 ts (written_out low high e)
  in_brackets : {s : Scope} {ts us : List Token} {e : Expr} → Parses s 1 us e → ts ≡ SignToken (codes "(") ∷ us ++ SignToken (codes ")") ∷ [] →
      Parses s 11 ts e

-- what a line says
pub data Says : Type 0 where
  Nothing : Says
  EntryIs : Function → Says
  RequireIs : Expr → Says
  EnsureIs : Expr → Says
  AssertIs : ℕ → Expr → Says
  TargetsAre : ℕ → List ℕ → Says
  FixedIs : ℕ → ℕ → Says
  VersionIs : Bool → Says
  ConstIs : List ℕ → ℕ → Says
  LoadedIs : Says
  InvariantIs : ℕ → Expr → Says
  NeedIs : ℕ → Expr → Says
  GiveIs : ℕ → Expr → Says
  ModifiesAre : ℕ → List Changed → Says
  WritesAre : (at : ℕ) → Expr → (count : ℕ) → Says

-- after the word `notes` stands the number 2 alone
abbrev pub is_two : List Token → Bool
is_two (NumberToken n ∷ []) = n == 2
is_two _ = false

-- a word, an address and an expression, in a text that may have such lines
abbrev pub IsAtAddress : Scope → (word : List ℕ) → List Token → ℕ → Expr → Type 0
IsAtAddress s word ts a e = (t : Token) × (rest : List Token) × (ts ≡ NameToken word ∷ t ∷ rest) × IsNumber s t a × Parses s 1 rest e

-- the text is of version 2, and may have lines of invariants and contracts
abbrev pub MayFrame : Scope → Type 0
MayFrame s = (s.is_second ≡ true) × (reads_frames s.dialect ≡ true)

-- The tokens say this. After `notes` anything may stand here: whether the line is lawful is asked apart.
abbrev pub IsSaid : Scope → List Token → Says → Type 0
IsSaid s ts Nothing = ts ≡ []
IsSaid s ts (EntryIs (At a)) = (t : Token) × (ts ≡ NameToken (codes "entry") ∷ t ∷ []) × IsNumber s t a
IsSaid s ts (EntryIs (Named w)) = ts ≡ NameToken (codes "function") ∷ NameToken w ∷ []
IsSaid s ts (RequireIs e) = (rest : List Token) × (ts ≡ NameToken (codes "require") ∷ rest) × Parses s 1 rest e
IsSaid s ts (EnsureIs e) = (rest : List Token) × (ts ≡ NameToken (codes "ensure") ∷ rest) × Parses s 1 rest e
IsSaid s ts (AssertIs a e) = IsAtAddress s (codes "assert") ts a e
IsSaid s ts (TargetsAre a to) =
    (t : Token) × (rest : List Token) × (ts ≡ NameToken (codes "targets") ∷ t ∷ rest) × IsNumber s t a × AreNumbers s rest to × (0 < length to)
IsSaid s ts (FixedIs low high) =
    (t u : Token) × (ts ≡ NameToken (codes "fixed") ∷ t ∷ u ∷ []) × IsNumber s t low × IsNumber s u high
IsSaid s ts (VersionIs b) = (rest : List Token) × (ts ≡ NameToken (codes "notes") ∷ rest) × (b ≡ is_two rest)
IsSaid s ts (ConstIs w v) = (ts ≡ NameToken (codes "const") ∷ NameToken w ∷ NumberToken v ∷ []) × (s.is_second ≡ true)
IsSaid s ts LoadedIs = (ts ≡ NameToken (codes "loaded") ∷ []) × (s.is_second ≡ true)
IsSaid s ts (InvariantIs a e) = IsAtAddress s (codes "invariant") ts a e × MayFrame s
IsSaid s ts (NeedIs a e) = IsAtAddress s (codes "needs") ts a e × MayFrame s
IsSaid s ts (GiveIs a e) = IsAtAddress s (codes "gives") ts a e × MayFrame s
IsSaid s ts (ModifiesAre a cs) =
    (t : Token) × (rest : List Token) × (ts ≡ NameToken (codes "modifies") ∷ t ∷ rest) × IsNumber s t a × AreChanged s rest cs × (0 < length cs)
    × MayFrame s
IsSaid s ts (WritesAre a e n) =
    (t u : Token) × (us : List Token) × (ts ≡ NameToken (codes "writes") ∷ t ∷ us ++ u ∷ []) × IsNumber s t a × Parses s 1 us e × IsNumber s u n
    × MayFrame s

-- rows can stand at the addresses that it names
abbrev pub AreAligned : (narrow : Bool) → Says → Type 0
AreAligned narrow (EntryIs (At a)) = IsAtPlace narrow a
AreAligned narrow (AssertIs a e) = IsAtPlace narrow a
AreAligned narrow (TargetsAre a to) = IsAtPlace narrow a × All (IsAtPlace narrow) to
AreAligned narrow (InvariantIs a e) = IsAtPlace narrow a
AreAligned narrow (NeedIs a e) = IsAtPlace narrow a
AreAligned narrow (GiveIs a e) = IsAtPlace narrow a
AreAligned narrow (ModifiesAre a cs) = IsAtPlace narrow a
AreAligned narrow (WritesAre a e n) = IsAtPlace narrow a
AreAligned narrow _ = Unit {0}

-- its range is not empty, and a contract writes at most 256 bytes from an address on
abbrev pub IsRange : Says → Type 0
IsRange (FixedIs low high) = low ≤ high
IsRange (WritesAre a e n) = (1 ≤ n) × (n ≤ 256)
IsRange _ = Unit {0}

-- a line of the version is the first that says something, and names version 2
abbrev pub IsVersion : Scope → Says → Type 0
IsVersion s (VersionIs b) = (s.is_first ≡ true) × (b ≡ true)
IsVersion s _ = Unit {0}

-- a declared name is free
abbrev pub IsNew : Scope → Says → Type 0
IsNew s (ConstIs w v) = is_free s w ≡ true
IsNew s _ = Unit {0}

-- an expression has a value at entry
abbrev pub has_old : Expr → Bool
has_old (Number n) = false
has_old (Register r) = false
has_old (Flag f) = false
has_old Pc = false
has_old Bound = false
has_old (Memory n a) = has_old a
has_old (Old a) = true
has_old (Not a) = has_old a
has_old (Binary op a b) = has_old a || has_old b

-- a line that speaks of the entry from an address on: an invariant, and an assert line with values at entry
abbrev pub is_of_entry : Says → Bool
is_of_entry (InvariantIs a e) = true
is_of_entry (AssertIs a e) = has_old e
is_of_entry _ = false

-- a line of a contract
abbrev pub is_of_contract : Says → Bool
is_of_contract (NeedIs a e) = true
is_of_contract (GiveIs a e) = true
is_of_contract (ModifiesAre a cs) = true
is_of_contract (WritesAre a e n) = true
is_of_contract _ = false

-- an invariant
abbrev pub is_invariant : Says → Bool
is_invariant (InvariantIs a e) = true
is_invariant _ = false

-- some lines are of contracts, and some speak of the entry, which the body of a contract's function does not know
abbrev pub is_mixed : List Says → Bool
is_mixed says = list_any is_of_contract says && list_any is_of_entry says

-- where two functions are compared, a line is neither an invariant nor of a contract
abbrev pub IsAlone : Scope → Says → Type 0
IsAlone s x = s.dialect ≡ Paired → (is_invariant x || is_of_contract x) ≡ false

-- the tokens of which a line has 64 at most
abbrev pub is_depth : (is_second : Bool) → Token → Bool
is_depth is_second (NumberToken n) = false
is_depth is_second (NameToken w) = bytes_eq w (codes "not") || (is_second && bytes_eq w (codes "all"))
is_depth is_second (SignToken s) = bytes_eq s (codes "(") || bytes_eq s (codes "[")
is_depth is_second BadByte = false
is_depth is_second BadText = false

-- tokens that may stand in a line: a number is below 2 ^ 32
abbrev pub IsGood : Token → Type 0
IsGood (NumberToken n) = n < 2 ^ 32
IsGood (NameToken w) = Unit {0}
IsGood (SignToken s) = Unit {0}
IsGood BadByte = ⊥
IsGood BadText = ⊥

-- a line without a fault of its own, and what it says
pub record IsLine (s : Scope) (text : List ℕ) (says : Says) : Type 0 where
  pub short : length text ≤ 1024
  pub good : All IsGood (tokens_of text)
  pub depth : count_by (is_depth s.is_second) (tokens_of text) ≤ 64
  pub said : IsSaid s (tokens_of text) says
  pub aligned : AreAligned s.narrow says
  pub range : IsRange says
  pub version : IsVersion s says
  pub new : IsNew s says
  pub alone : IsAlone s says

-- what words mean after a line
abbrev pub after : Scope → Says → Scope
after s Nothing = s
after s (ConstIs w v) = declaring s w v
after s _ = begun s

-- what they mean after some lines
abbrev pub after_all : Scope → List Says → Scope
after_all s [] = s
after_all s (x ∷ says) = after_all (after s x) says

-- each line is without fault, and says this
abbrev pub AreLines : Scope → List (List ℕ) → List Says → Type 0
AreLines s [] [] = Unit {0}
AreLines s (text ∷ texts) (x ∷ says) = IsLine s text x × AreLines (after s x) texts says
AreLines s [] (x ∷ says) = ⊥
AreLines s (text ∷ texts) [] = ⊥

-- the first line that says something is `notes 2`
abbrev pub version_line : List Token → (later : Bool) → Bool
version_line [] later = later
version_line (NameToken w ∷ rest) later = bytes_eq w (codes "notes") && is_two rest
version_line _ later = false

abbrev pub is_second : List (List ℕ) → Bool
is_second [] = false
is_second (text ∷ texts) = version_line (tokens_of text) (is_second texts)

-- how many lines a text may have
abbrev pub line_limit : (is_second : Bool) → ℕ
line_limit false = 4096
line_limit true = 4097

-- what the lines say of the function's place
abbrev pub entries : List Says → List Function
entries [] = []
entries (EntryIs e ∷ says) = e ∷ entries says
entries (_ ∷ says) = entries says

-- the require lines, n being the number of the first line
abbrev pub requires_of : ℕ → List Says → List NoteLine
requires_of n [] = []
requires_of n (RequireIs e ∷ says) = record { line = n; says = e } ∷ requires_of (n + 1) says
requires_of n (_ ∷ says) = requires_of (n + 1) says

-- the ensure lines
abbrev pub ensures_of : ℕ → List Says → List NoteLine
ensures_of n [] = []
ensures_of n (EnsureIs e ∷ says) = record { line = n; says = e } ∷ ensures_of (n + 1) says
ensures_of n (_ ∷ says) = ensures_of (n + 1) says

-- the assert lines, invariants among them
abbrev pub asserts_of : ℕ → List Says → List Assert
asserts_of n [] = []
asserts_of n (InvariantIs a e ∷ says) = record { line = n; at = a; says = e } ∷ asserts_of (n + 1) says
asserts_of n (AssertIs a e ∷ says) = record { line = n; at = a; says = e } ∷ asserts_of (n + 1) says
asserts_of n (_ ∷ says) = asserts_of (n + 1) says

-- the targets lines
abbrev pub targets_of : List Says → List Targets
targets_of [] = []
targets_of (TargetsAre a to ∷ says) = record { at = a; to = to } ∷ targets_of says
targets_of (_ ∷ says) = targets_of says

-- the fixed lines; `loaded` is the range of all addresses
abbrev pub fixed_of : List Says → List FixedRange
fixed_of [] = []
fixed_of (FixedIs low high ∷ says) = record { low = low; high = high } ∷ fixed_of says
fixed_of (LoadedIs ∷ says) = record { low = 0; high = 2 ^ 32 - 1 } ∷ fixed_of says
fixed_of (_ ∷ says) = fixed_of says

-- what is said are these notes
abbrev pub AreNotes : List Says → Notes → Type 0
AreNotes says notes =
    (entries says ≡ notes.entry ∷ []) × (requires_of 1 says ≡ notes.requires) × (ensures_of 1 says ≡ notes.ensures)
    × (asserts_of 1 says ≡ notes.asserts) × (targets_of says ≡ notes.targets) × (fixed_of says ≡ notes.fixed)
    × AllPairs (λ s t. s.at ≢ t.at) notes.targets

-- the text says these notes
pub record IsNotesText (v : Vocabulary) (text : List ℕ) (notes : Notes) : Type 0 where
  pub short : length (lines_of text) ≤ line_limit (is_second (lines_of text))
  pub says : List Says
  pub lines : AreLines (begin v (is_second (lines_of text))) (lines_of text) says
  pub unmixed : is_mixed says ≡ false
  pub notes_are : AreNotes says notes
