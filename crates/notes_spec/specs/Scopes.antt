-- What words mean at a place of notes.
use Rattle.std.specs.Prelude.{ℕ, ◌+◌, Bool, true, false, List, [], ◌∷◌, ◌++◌, Option, Some, None, is_some, ◌&&◌, not, nat_lt, nat_le, if◌then◌else◌, codes}
use Rattle.std.specs.List.{list_any}
use Rattle.std.specs.Str.{bytes_eq}
use Rattle.bilv_spec.specs.Notes.{Expr, Number, Register, Flag, Bound}

-- How a line is read: as it must be; with any name and any bounds of an `all`; or as if every word had a meaning, for its form alone.
pub data Mode : Type 0 where
  Strict : Mode
  Lenient : Mode
  Loose : Mode

-- a constant that was declared
pub record Constant : Type 0 where
  pub word : List ℕ
  pub number : ℕ

-- Whether a text may have lines of invariants and contracts: none; any; or none that is not refused at last, since the function is compared with another one.
pub data Dialect : Type 0 where
  Plain : Dialect
  Framed : Dialect
  Paired : Dialect

-- these lines are read
abbrev pub reads_frames : Dialect → Bool
reads_frames Plain = false
reads_frames Framed = true
reads_frames Paired = true

-- what notes call a machine's registers and flags, whether some of its rows have 2 bytes, and which lines there may be
pub record Vocabulary : Type 0 where
  pub names : List ℕ → Option Expr
  pub narrow : Bool
  pub dialect : Dialect

-- the same in another dialect
abbrev pub in_dialect : Dialect → Vocabulary → Vocabulary
in_dialect d v = record v { dialect = d }

-- What words mean. names: those of the machine, with rows of 2 bytes where it is narrow; dialect: which lines there may be; consts: the constants so far;
-- bound: the names that the `all`s around the place bind, the outermost first. is_second: the text is of version 2. is_first: no line before this one says
-- something.
pub record Scope : Type 0 where
  pub names : List ℕ → Option Expr
  pub narrow : Bool
  pub dialect : Dialect
  pub consts : List Constant
  pub bound : List (List ℕ)
  pub is_second : Bool
  pub is_first : Bool
  pub mode : Mode

-- nothing is said yet
abbrev pub begin : Vocabulary → (is_second : Bool) → Scope
begin v is_second =
    record { names = v.names; narrow = v.narrow; dialect = v.dialect; consts = []; bound = []; is_second = is_second; is_first = true; mode = Strict }

-- an `all` may have any name and bounds
abbrev pub lenient : Scope → Scope
lenient s = record s { mode = Lenient }

-- every word has a meaning
abbrev pub loose : Scope → Scope
loose s = record s { mode = Loose }

-- words that are no names in expressions
abbrev pub reserved_first : List (List ℕ)
reserved_first = codes "mem8" ∷ codes "mem16" ∷ codes "mem32" ∷ codes "old" ∷ codes "not" ∷ codes "and" ∷ codes "or" ∷ []

-- in version 2 `all` besides
abbrev pub reserved : (is_second : Bool) → List (List ℕ)
reserved false = reserved_first
reserved true = reserved_first ++ codes "all" ∷ []

-- the word is reserved
abbrev pub is_reserved : Scope → List ℕ → Bool
is_reserved s w = list_any (bytes_eq w) (reserved s.is_second)

-- the number of a constant
abbrev pub const_of : List Constant → List ℕ → Option ℕ
const_of [] w = None
const_of (c ∷ rest) w = if bytes_eq w c.word then Some c.number else const_of rest w

-- the constant that there is, or else what the machine has
abbrev pub const_or : Option ℕ → Option Expr → Option Expr
const_or (Some n) e = Some (Number n)
const_or None e = e

-- what a word means that is not reserved: a bound name, a constant, or what the machine has
abbrev pub meaning : Scope → List ℕ → Option Expr
meaning s w = if list_any (bytes_eq w) s.bound then Some Bound else const_or (const_of s.consts w) (s.names w)

-- so, by how the line is read
abbrev pub name_by : Mode → Scope → List ℕ → Option Expr
name_by Strict s w = meaning s w
name_by Lenient s w = meaning s w
name_by Loose s w = Some (Number 0)

-- the expression that a word is; a reserved word is none
abbrev pub named : Scope → List ℕ → Option Expr
named s w = if is_reserved s w then None else name_by s.mode s w

-- what a line of `modifies` names
pub data Changed : Type 0 where
  ChangedRegister : ℕ → Changed
  ChangedFlag : ℕ → Changed

-- the register or the flag that an expression is; a register that always holds one number, and the address of the step, are none
abbrev pub changed_of : Option Expr → Option Changed
changed_of (Some (Register r)) = Some (ChangedRegister r)
changed_of (Some (Flag f)) = Some (ChangedFlag f)
changed_of other = None

-- so of a word, by how the line is read
abbrev pub changed_by : Mode → Scope → List ℕ → Option Changed
changed_by Strict s w = changed_of (named s w)
changed_by Lenient s w = changed_of (named s w)
changed_by Loose s w = Some (ChangedRegister 0)

-- the number of a constant, by how the line is read
abbrev pub number_by : Mode → Scope → List ℕ → Option ℕ
number_by Strict s w = const_of s.consts w
number_by Lenient s w = const_of s.consts w
number_by Loose s w = Some 0

-- the number that a word is: a constant, in version 2
abbrev pub number_of_name : Scope → List ℕ → Option ℕ
number_of_name s w = if s.is_second then number_by s.mode s w else None

-- a word that is neither a register nor a flag, a constant or reserved: it may be declared, or bound
abbrev pub is_free : Scope → List ℕ → Bool
is_free s w = not (is_some (meaning s w)) && not (is_reserved s w)

-- within the `all` that binds a name
abbrev pub binding : Scope → List ℕ → Scope
binding s w = record s { bound = s.bound ++ w ∷ [] }

-- no `all` is around
abbrev pub is_outside : List (List ℕ) → Bool
is_outside [] = true
is_outside (w ∷ rest) = false

-- an `all` may have this name and these bounds: it is within no other, the name is free, and 1 to 64 values are bound
abbrev pub may_by : Mode → Scope → List ℕ → (low high : ℕ) → Bool
may_by Strict s w low high = is_outside s.bound && is_free s w && nat_le low high && nat_lt high (low + 64)
may_by Lenient s w low high = true
may_by Loose s w low high = true

abbrev pub may_bind : Scope → List ℕ → (low high : ℕ) → Bool
may_bind s w low high = may_by s.mode s w low high

-- after the line of a constant
abbrev pub declaring : Scope → List ℕ → ℕ → Scope
declaring s w v = record s { consts = s.consts ++ record { word = w; number = v } ∷ []; is_first = false }

-- after another line that says something
abbrev pub begun : Scope → Scope
begun s = record s { is_first = false }
