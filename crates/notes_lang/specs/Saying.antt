-- What is said, as definitions see it.
use Rattle.std.specs.Prelude.{ℕ, ◌≡◌, Bool, true, false, List, [], ◌∷◌, ◌++◌, Option, Some, None, map}
use Rattle.notes_spec.specs.Scopes.{Scope, Constant}
use Rattle.bilv_spec.specs.Notes as notes
use Rattle.notes_spec.specs.NotesGrammar as grammar
use Rattle.word_spec.specs.Tokens as tokens
use Rattle.notes_value.specs.Views.{expr_of}
use Rattle.notes_value.specs.NoteViews.{function_of}
use Rattle.notes_lang.specs.declared.sayings.Says.{Says}
use Rattle.notes_lang.specs.declared.sayings.Says.TheVariants.{Nothing, Entry, Require, Ensure, Assert, Targets, Fixed, Version, Const, Loaded, Invariant, Contract}
use Rattle.notes_lang.specs.declared.sayings.ContractLine.{ContractLine}
use Rattle.notes_lang.specs.declared.sayings.ContractLine.TheVariants as contract
use Rattle.notes_lang.specs.Scoping.{changed_of}

-- an answer that tells whether there is something of a kind, and which
abbrev pub Tells : {X Y : Type 0} → (X → Y) → (Y → Type 0) → Option X → Type 0
Tells {X} {Y} view P None = (y : Y) → P y → ⊥
Tells view P (Some x) = P (view x)

-- what a line says of the contract of an address
abbrev pub contract_says : ℕ → ContractLine → grammar.Says
contract_says a (contract.Needs e) = grammar.NeedIs a (expr_of e)
contract_says a (contract.Gives e) = grammar.GiveIs a (expr_of e)
contract_says a (contract.Modifies changes) = grammar.ModifiesAre a (map changed_of changes.items)
contract_says a (contract.Writes e n) = grammar.WritesAre a (expr_of e) n

-- what a line says
abbrev pub says_of : Says → grammar.Says
says_of Nothing = grammar.Nothing
says_of (Entry function) = grammar.EntryIs (function_of function)
says_of (Require e) = grammar.RequireIs (expr_of e)
says_of (Ensure e) = grammar.EnsureIs (expr_of e)
says_of (Assert a e) = grammar.AssertIs a (expr_of e)
says_of (Targets a to) = grammar.TargetsAre a to.items
says_of (Fixed low high) = grammar.FixedIs low high
says_of (Version b) = grammar.VersionIs b
says_of (Const w v) = grammar.ConstIs w.now v
says_of Loaded = grammar.LoadedIs
says_of (Invariant a e) = grammar.InvariantIs a (expr_of e)
says_of (Contract a line) = contract_says a line

-- tokens begin with a number, and these are behind it
abbrev pub BeginsWith : Scope → List tokens.Token → ℕ × List tokens.Token → Type 0
BeginsWith s ts p = (t : tokens.Token) × (ts ≡ t ∷ p.1) × grammar.IsNumber s t p.0

-- a number is all of the tokens
abbrev pub IsOne : Scope → List tokens.Token → ℕ → Type 0
IsOne s ts n = (t : tokens.Token) × (ts ≡ t ∷ []) × grammar.IsNumber s t n

-- an address, and the expression that the tokens behind it are
abbrev pub IsAddressed : Scope → List tokens.Token → ℕ × notes.Expr → Type 0
IsAddressed s ts p = (t : tokens.Token) × (rest : List tokens.Token) × (ts ≡ t ∷ rest) × grammar.IsNumber s t p.0 × grammar.Parses s 1 rest p.1

-- an expression, and the number behind it with which the tokens end
abbrev pub IsCounted : Scope → List tokens.Token → notes.Expr × ℕ → Type 0
IsCounted s ts p = (us : List tokens.Token) × (u : tokens.Token) × (ts ≡ us ++ u ∷ []) × grammar.Parses s 1 us p.0 × grammar.IsNumber s u p.1

-- a line says something
abbrev pub is_something : grammar.Says → Bool
is_something grammar.Nothing = false
is_something _ = true

-- the constants after a line
abbrev pub consts_after : List Constant → grammar.Says → List Constant
consts_after consts (grammar.ConstIs w v) = consts ++ record { word = w; number = v } ∷ []
consts_after consts _ = consts
