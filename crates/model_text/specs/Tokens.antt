-- The tokens that tokens of the code stand for, and tests on them.
use Rattle.std.specs.Prelude.{ℕ, Bool, true, false, ◌||◌, List, [], Option, Some, None, if◌then◌else◌}
use Rattle.std.specs.Str.{bytes_eq}
use Rattle.word_spec.specs.Texts.{is_decimal}
use Rattle.model_spec.specs.ModelText as text
use Rattle.model_spec.specs.ModelText.{is_symbol}
use Rattle.model_text.specs.declared.token.Token.{Token}
use Rattle.model_text.specs.declared.token.Token.TheVariants.{Open, Close, Word, Quoted, Text, Bad}
use Rattle.model_text.specs.declared.token.Placed.{Placed}

-- the token
abbrev pub token_of : Token → text.ModelToken
token_of Open = text.Open
token_of Close = text.Close
token_of (Word w) = text.Word w.now
token_of (Quoted w) = text.Quoted w.now
token_of Text = text.Text
token_of Bad = text.Bad

-- with its line
abbrev pub placed_of : Placed → text.Placed
placed_of p = record { line = p.line; token = token_of p.token }

abbrev pub is_open : text.ModelToken → Bool
is_open text.Open = true
is_open text.Close = false
is_open (text.Word v) = false
is_open (text.Quoted v) = false
is_open text.Text = false
is_open text.Bad = false

abbrev pub is_close : text.ModelToken → Bool
is_close text.Close = true
is_close text.Open = false
is_close (text.Word v) = false
is_close (text.Quoted v) = false
is_close text.Text = false
is_close text.Bad = false

abbrev pub is_bad : text.ModelToken → Bool
is_bad text.Bad = true
is_bad text.Close = false
is_bad text.Open = false
is_bad (text.Word v) = false
is_bad (text.Quoted v) = false
is_bad text.Text = false

-- the token is this word
abbrev pub is_the_word : List ℕ → text.ModelToken → Bool
is_the_word w (text.Word v) = bytes_eq v w
is_the_word w text.Open = false
is_the_word w text.Close = false
is_the_word w (text.Quoted v) = false
is_the_word w text.Text = false
is_the_word w text.Bad = false

-- it is a name
abbrev pub is_name : text.ModelToken → Bool
is_name (text.Word v) = is_symbol v
is_name (text.Quoted v) = true
is_name text.Open = false
is_name text.Close = false
is_name text.Text = false
is_name text.Bad = false

-- the text of a name
abbrev pub name_text : text.ModelToken → List ℕ
name_text (text.Word v) = v
name_text (text.Quoted v) = v
name_text text.Open = []
name_text text.Close = []
name_text text.Text = []
name_text text.Bad = []

-- it is an index
abbrev pub is_index : text.ModelToken → Bool
is_index (text.Word v) = is_decimal v || is_symbol v
is_index (text.Quoted v) = true
is_index text.Open = false
is_index text.Close = false
is_index text.Text = false
is_index text.Bad = false

-- a value where a test is true
abbrev pub when : {A : Type 0} → Bool → A → Option A
when b x = if b then Some x else None
