-- Faults of a line.
use Rattle.std.specs.Prelude.{ℕ, ◌≡◌, ◌<◌, ◌≤◌, ◌^◌, Bool, true, false, nat_le, List, [], ◌∷◌, ◌++◌, Option, Some, None, Result, Ok, Err, count_by}
use Rattle.std.specs.List.{list_any}
use Rattle.notes_spec.specs.Scopes.{Scope, loose, lenient}
use Rattle.word_spec.specs.Tokens.{Token, NumberToken, NameToken, SignToken, BadByte, BadText, tokens_of}
use Rattle.notes_spec.specs.NotesGrammar.{Says, IsSaid, IsLine, AreAligned, IsRange, IsVersion, IsNew, IsAlone, is_mixed, is_depth, line_limit}
use Rattle.notes_spec.specs.NotesFaults as faults
use Rattle.line_tokens.specs.declared.lexer.Token as code
use Rattle.line_tokens.specs.Tokens.{token_of}
use Rattle.notes_lang.specs.declared.faults.FaultKind.{FaultKind}
use Rattle.notes_lang.specs.declared.faults.FaultKind.TheVariants as kind
use Rattle.notes_lang.specs.declared.sayings.Says as code_says
use Rattle.notes_lang.specs.Saying.{says_of}

-- a byte that may stand only in a comment
abbrev pub is_bad_byte : Token → Bool
is_bad_byte BadByte = true
is_bad_byte (NumberToken n) = false
is_bad_byte (NameToken w) = false
is_bad_byte (SignToken s) = false
is_bad_byte BadText = false

-- characters that begin no token
abbrev pub is_bad_text : Token → Bool
is_bad_text BadText = true
is_bad_text BadByte = false
is_bad_text (NumberToken n) = false
is_bad_text (NameToken w) = false
is_bad_text (SignToken s) = false

-- a number of 2 ^ 32 or more
abbrev pub is_large : Token → Bool
is_large (NumberToken n) = nat_le (2 ^ 32) n
is_large (NameToken w) = false
is_large (SignToken s) = false
is_large BadByte = false
is_large BadText = false

-- a kind of fault
abbrev pub fault_of : FaultKind → faults.NoteFault
fault_of kind.Limit = faults.LimitFault
fault_of kind.Byte = faults.ByteFault
fault_of kind.Token = faults.TokenFault
fault_of kind.Number = faults.NumberFault
fault_of kind.Depth = faults.DepthFault
fault_of kind.Word = faults.WordFault
fault_of kind.Syntax = faults.SyntaxFault
fault_of kind.Name = faults.NameFault
fault_of kind.Align = faults.AlignFault
fault_of kind.Range = faults.RangeFault
fault_of kind.Entry = faults.EntryFault
fault_of kind.Version = faults.VersionFault
fault_of kind.Const = faults.ConstFault
fault_of kind.All = faults.AllFault
fault_of kind.Mixed = faults.MixedFault
fault_of kind.Pair = faults.PairFault

-- what is wrong with tokens, the least fault alone
abbrev pub IsTokenFault : (is_second : Bool) → List code.Token → Option FaultKind → Type 0
IsTokenFault b ts None =
    (false ≡ list_any (λ t. is_bad_byte (token_of t)) ts) × (false ≡ list_any (λ t. is_bad_text (token_of t)) ts) ×
    (false ≡ list_any (λ t. is_large (token_of t)) ts)
    × (count_by (λ t. is_depth b (token_of t)) ts ≤ 64)
IsTokenFault b ts (Some kind.Byte) = true ≡ list_any (λ t. is_bad_byte (token_of t)) ts
IsTokenFault b ts (Some kind.Token) = (false ≡ list_any (λ t. is_bad_byte (token_of t)) ts) × (true ≡ list_any (λ t. is_bad_text (token_of t)) ts)
IsTokenFault b ts (Some kind.Number) =
    (false ≡ list_any (λ t. is_bad_byte (token_of t)) ts) × (false ≡ list_any (λ t. is_bad_text (token_of t)) ts) ×
    (true ≡ list_any (λ t. is_large (token_of t)) ts)
IsTokenFault b ts (Some kind.Depth) =
    (false ≡ list_any (λ t. is_bad_byte (token_of t)) ts) × (false ≡ list_any (λ t. is_bad_text (token_of t)) ts) ×
    (false ≡ list_any (λ t. is_large (token_of t)) ts)
    × (64 < count_by (λ t. is_depth b (token_of t)) ts)
IsTokenFault b ts (Some kind.Limit) = ⊥
IsTokenFault b ts (Some kind.Word) = ⊥
IsTokenFault b ts (Some kind.Syntax) = ⊥
IsTokenFault b ts (Some kind.Name) = ⊥
IsTokenFault b ts (Some kind.Align) = ⊥
IsTokenFault b ts (Some kind.Range) = ⊥
IsTokenFault b ts (Some kind.Entry) = ⊥
IsTokenFault b ts (Some kind.Version) = ⊥
IsTokenFault b ts (Some kind.Const) = ⊥
IsTokenFault b ts (Some kind.All) = ⊥
IsTokenFault b ts (Some kind.Mixed) = ⊥
IsTokenFault b ts (Some kind.Pair) = ⊥

-- what is wrong with what a line says by itself, the least fault alone
abbrev pub IsOwnFault : Scope → Says → Option FaultKind → Type 0
IsOwnFault s x None = AreAligned s.narrow x × IsRange x × IsVersion s x × IsNew s x
IsOwnFault s x (Some kind.Align) = AreAligned s.narrow x → ⊥
IsOwnFault s x (Some kind.Range) = AreAligned s.narrow x × (IsRange x → ⊥)
IsOwnFault s x (Some kind.Version) = AreAligned s.narrow x × IsRange x × (IsVersion s x → ⊥)
IsOwnFault s x (Some kind.Const) = AreAligned s.narrow x × IsRange x × IsVersion s x × (IsNew s x → ⊥)
IsOwnFault s x (Some kind.Limit) = ⊥
IsOwnFault s x (Some kind.Byte) = ⊥
IsOwnFault s x (Some kind.Token) = ⊥
IsOwnFault s x (Some kind.Number) = ⊥
IsOwnFault s x (Some kind.Depth) = ⊥
IsOwnFault s x (Some kind.Word) = ⊥
IsOwnFault s x (Some kind.Syntax) = ⊥
IsOwnFault s x (Some kind.Name) = ⊥
IsOwnFault s x (Some kind.Entry) = ⊥
IsOwnFault s x (Some kind.All) = ⊥
IsOwnFault s x (Some kind.Mixed) = ⊥
IsOwnFault s x (Some kind.Pair) = ⊥

-- tokens begin well, and are of the grammar
abbrev pub IsOfForm : Scope → List Token → Type 0
IsOfForm s ts = (faults.BeginsBadly s ts → ⊥) × ((x : Says) × IsSaid (loose s) ts x)

-- they say something but for the names and numbers of an `all`, and this is wrong with it
abbrev pub IsLenientFault : Scope → List Token → Option FaultKind → Type 0
IsLenientFault s ts o = IsOfForm s ts × ((x : Says) × IsSaid (lenient s) ts x × IsOwnFault s x o)

-- why tokens say nothing: they begin badly, they are not of the grammar, a name is unknown, something is wrong with what they say leniently, or an `all` is
abbrev pub IsRefusal : Scope → List Token → FaultKind → Type 0
IsRefusal s ts kind.Word = faults.BeginsBadly s ts
IsRefusal s ts kind.Syntax = (faults.BeginsBadly s ts → ⊥) × ((x : Says) → IsSaid (loose s) ts x → ⊥)
IsRefusal s ts kind.Name = IsOfForm s ts × ((x : Says) → IsSaid (lenient s) ts x → ⊥)
IsRefusal s ts kind.Align = IsLenientFault s ts (Some kind.Align)
IsRefusal s ts kind.Range = IsLenientFault s ts (Some kind.Range)
IsRefusal s ts kind.Version = IsLenientFault s ts (Some kind.Version)
IsRefusal s ts kind.Const = IsLenientFault s ts (Some kind.Const)
IsRefusal s ts kind.All = IsLenientFault s ts None
IsRefusal s ts kind.Limit = ⊥
IsRefusal s ts kind.Byte = ⊥
IsRefusal s ts kind.Token = ⊥
IsRefusal s ts kind.Number = ⊥
IsRefusal s ts kind.Depth = ⊥
IsRefusal s ts kind.Entry = ⊥
IsRefusal s ts kind.Mixed = ⊥
IsRefusal s ts kind.Pair = ⊥

-- a fault applies, and none before it in their order
abbrev pub IsLeast : (faults.NoteFault → Type 0) → faults.NoteFault → Type 0
IsLeast P f = P f × ((g : faults.NoteFault) → faults.note_fault_rank g < faults.note_fault_rank f → P g → ⊥)

-- no fault of a rank below this one applies
abbrev pub Free : (faults.NoteFault → Type 0) → ℕ → Type 0
Free P k = (g : faults.NoteFault) → faults.note_fault_rank g < k → P g → ⊥

-- A line that says this has no fault of its own, but for that of a line in the notes of a pair; and none that counts before those that the lines before it
-- tell.
pub record IsSound (s : Scope) (n : ℕ) (text : List ℕ) (x : Says) : Type 0 where
  pub line : IsAlone s x → IsLine s text x
  pub said : IsSaid s (tokens_of text) x
  pub within : n ≤ line_limit s.is_second
  pub before_entry : (earlier : List Says) → Free (faults.NoteFaultApplies s n earlier text) 11
  pub before_mixed : (earlier : List Says) → (faults.Repeats earlier x → ⊥) → Free (faults.NoteFaultApplies s n earlier text) 15

-- what a line says, or its least fault, whatever the lines before it say; what they tell of it is not asked
abbrev pub IsJudged : Scope → ℕ → List ℕ → Result code_says.Says FaultKind → Type 0
IsJudged s n text (Ok x) = IsSound s n text (says_of x)
IsJudged s n text (Err k) = (earlier : List Says) → IsLeast (faults.NoteFaultApplies s n earlier text) (fault_of k)

-- what is wrong with what a line says after others, the least fault alone
abbrev pub IsLateFault : Scope → List Says → Says → Option FaultKind → Type 0
IsLateFault s earlier x None = (faults.Repeats earlier x → ⊥) × (is_mixed (earlier ++ x ∷ []) ≡ false) × IsAlone s x
IsLateFault s earlier x (Some kind.Entry) = faults.Repeats earlier x
IsLateFault s earlier x (Some kind.Mixed) = (faults.Repeats earlier x → ⊥) × (is_mixed (earlier ++ x ∷ []) ≡ true)
IsLateFault s earlier x (Some kind.Pair) = (faults.Repeats earlier x → ⊥) × (is_mixed (earlier ++ x ∷ []) ≡ false) × (IsAlone s x → ⊥)
IsLateFault s earlier x (Some kind.Limit) = ⊥
IsLateFault s earlier x (Some kind.Byte) = ⊥
IsLateFault s earlier x (Some kind.Token) = ⊥
IsLateFault s earlier x (Some kind.Number) = ⊥
IsLateFault s earlier x (Some kind.Depth) = ⊥
IsLateFault s earlier x (Some kind.Word) = ⊥
IsLateFault s earlier x (Some kind.Syntax) = ⊥
IsLateFault s earlier x (Some kind.Name) = ⊥
IsLateFault s earlier x (Some kind.Align) = ⊥
IsLateFault s earlier x (Some kind.Range) = ⊥
IsLateFault s earlier x (Some kind.Version) = ⊥
IsLateFault s earlier x (Some kind.Const) = ⊥
IsLateFault s earlier x (Some kind.All) = ⊥

-- what a line says after others, or its least fault
abbrev pub IsNext : Scope → ℕ → List ℕ → List Says → Result code_says.Says FaultKind → Type 0
IsNext s n text earlier (Ok x) =
    IsLine s text (says_of x) × (n ≤ line_limit s.is_second) × (faults.Repeats earlier (says_of x) → ⊥) × (is_mixed (earlier ++ says_of x ∷ []) ≡ false)
IsNext s n text earlier (Err k) = IsLeast (faults.NoteFaultApplies s n earlier text) (fault_of k)
