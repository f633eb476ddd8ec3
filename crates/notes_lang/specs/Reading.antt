-- What is read of tokens, as the definition's parser reads them.
use Rattle.std.specs.Prelude.{ℕ, ◌<◌, ◌≤◌, ◌≡◌, Bool, true, false, List, [], ◌∷◌, map, length, Option, Some, None, ◌&&◌, codes}
use Rattle.std.specs.Str.{bytes_eq}
use Rattle.bilv_spec.specs.Notes as notes
use Rattle.notes_spec.specs.NotesGrammar as grammar
use Rattle.word_spec.specs.Tokens as tokens
use Rattle.notes_spec.specs.NotesGrammar.{IsGood, operators}
use Rattle.notes_spec.proofs.NotesTables.{line_of, same_token}
use Rattle.notes_spec.specs.Scopes.{Scope, binding, may_bind}
use Rattle.notes_spec.proofs.NotesParser.{Task, Read, Fails, Reads, of_level, opened_if, all_at, work}
use Rattle.line_tokens.specs.declared.lexer.Token.{Token}
use Rattle.line_tokens.specs.Tokens.{token_of}
use Rattle.notes_value.specs.Views.{bytes_of, expr_of}
use Rattle.notes_value.specs.declared.expressions.Size.{Size}
use Rattle.notes_lang.specs.declared.parser.Reading.{Reading}
use Rattle.notes_lang.specs.declared.parser.AllHead.{AllHead}

-- tokens
abbrev pub tokens_view : List Token → List tokens.Token
tokens_view ts = map token_of ts

-- each may stand in a line
abbrev pub AreGood : List Token → Type 0
AreGood [] = Unit {0}
AreGood (t ∷ ts) = IsGood (token_of t) × AreGood ts

-- no expression, or one with the tokens that are left
abbrev pub read_of : Option Reading → Read
read_of None = Fails
read_of (Some r) = Reads (expr_of r.expr) (tokens_view r.rest.now)

-- the tokens that are left are fewer, and each may stand in a line
abbrev pub IsLeft : List Token → Option Reading → Type 0
IsLeft ts None = Unit {0}
IsLeft ts (Some r) = (length r.rest.now < length ts) × AreGood r.rest.now

-- the operator of a level with which tokens begin
abbrev pub operator_at : ℕ → List tokens.Token → Option notes.Op
operator_at l [] = None
operator_at l (t ∷ ts) = of_level (line_of operators t) l

-- in brackets, an expression is read behind the first one: whatever stands before it makes this of it
abbrev pub read_as : (notes.Expr → notes.Expr) → Option Reading → Read
read_as f None = Fails
read_as f (Some r) = Reads (f (expr_of r.expr)) (tokens_view r.rest.now)

-- from some number of steps on this is read
abbrev pub Settles : (ℕ → Read) → Read → Type 0
Settles read r = (n : ℕ) × ((m : ℕ) → n ≤ m → read m ≡ r)

-- an expression and what closes it were read, for whatever is made of it
abbrev pub IsEnclosed : Scope → tokens.Token → List tokens.Token → Option Reading → Type 0
IsEnclosed s close ts o = (f : notes.Expr → notes.Expr) → Settles (λ m. opened_if (work s m) true close f ts) (read_as f o)

-- the tokens that are left are no more, and each may stand in a line
abbrev pub IsRest : List Token → Option Reading → Type 0
IsRest ts None = Unit {0}
IsRest ts (Some r) = (length r.rest.now ≤ length ts) × AreGood r.rest.now

-- tokens begin with this one
abbrev pub begins : tokens.Token → List tokens.Token → Bool
begins t [] = false
begins t (u ∷ us) = same_token u t

-- how many bytes are loaded, or 0 for no load
abbrev pub size_or_zero : Option Size → ℕ
size_or_zero None = 0
size_or_zero (Some size) = bytes_of size

-- the steps within an `all` that binds a name
abbrev pub within : Scope → ℕ → List ℕ → Task → List tokens.Token → Read
within s m w = work (binding s w) m

-- the word begins an `all`
abbrev pub is_all_word : (is_second : Bool) → List ℕ → Bool
is_all_word is_second w = is_second && bytes_eq w (codes "all")

-- tokens begin with a name and two numbers that an `all` may have, and its bracket; or nothing is read of them as an `all`
abbrev pub IsHead : Scope → List tokens.Token → Option AllHead → Type 0
IsHead s ts None = (inner : List ℕ → Task → List tokens.Token → Read) → all_at s inner ts ≡ Fails
IsHead s ts (Some h) =
    (b c : tokens.Token) × (ts ≡ tokens.NameToken h.word.now ∷ b ∷ c ∷ tokens.SignToken (codes "(") ∷ tokens_view h.rest.now) ×
    (grammar.number_at s b ≡ Some h.low) × (grammar.number_at s c ≡ Some h.high) × (may_bind s h.word.now h.low h.high ≡ true)
