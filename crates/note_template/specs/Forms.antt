-- What the code holds of a template on the way.
use Rattle.std.specs.Prelude.{ℕ, List, Result, Ok, Err, map}
use Rattle.std.specs.Global.{Vec}
use Rattle.line_tokens.specs.declared.lexer.Token.{Token}
use Rattle.line_tokens.specs.Tokens.{token_of}
use Rattle.word_spec.specs.Tokens as tokens
use Rattle.note_template.specs.declared.form.Form.{Form}
use Rattle.note_template.specs.declared.fault.Refusal.{Refusal}
use Rattle.note_template.specs.declared.line_fault.LineFault.{LineFault}
use Rattle.note_template.specs.declared.own_words.OwnWord.{OwnWord}
use Rattle.note_template.specs.declared.own_words.OwnWord.TheVariants.{Abi, Stack, Global, Only}
use Rattle.note_template.specs.Templates as templates
use Rattle.note_template.specs.TemplateLines as lines
use Rattle.note_template.specs.Views.{refusal_of}

-- a form
abbrev pub form_of : Form → templates.Form
form_of f = record { name = f.name.now; is_size = f.is_size; added = f.added; count = f.count }

-- a number, or why there is none
abbrev pub number_told : Result ℕ Refusal → Result ℕ templates.Refusal
number_told (Ok n) = Ok n
number_told (Err r) = Err (refusal_of r)

-- a fault of a line
abbrev pub fault_of : LineFault → templates.Fault
fault_of f = record { column = f.column; refusal = refusal_of f.refusal }

-- tokens
abbrev pub tokens_view : List Token → List tokens.Token
tokens_view ts = map token_of ts

-- the word of a line
abbrev pub own_of : OwnWord → lines.OwnWord
own_of Abi = lines.Abi
own_of Stack = lines.Stack
own_of Global = lines.Global
own_of Only = lines.Only

-- two tokens
abbrev pub pair_of : Token × Token → tokens.Token × tokens.Token
pair_of p = (token_of p.0, token_of p.1)

-- the tokens of phrases
abbrev pub phrases_view : List (Vec Token) → List (List tokens.Token)
phrases_view ps = map (λ p. tokens_view p.items) ps

-- a text, or why there is none
abbrev pub answer_of : Result (Vec ℕ) Refusal → Result (List ℕ) templates.Refusal
answer_of (Ok text) = Ok text.items
answer_of (Err r) = Err (refusal_of r)

-- a text, or why there is none and where
abbrev pub told_of : Result (Vec ℕ) LineFault → Result (List ℕ) templates.Fault
told_of (Ok text) = Ok text.items
told_of (Err f) = Err (fault_of f)
