-- The tokens that a line's tokens stand for.
use Rattle.std.specs.Prelude.{ℕ, ◌^◌, List, codes, min, if◌then◌else◌}
use Rattle.std.specs.Str.Parse.{digits_value}
use Rattle.word_spec.specs.Tokens as grammar
use Rattle.line_tokens.specs.declared.sign.Sign.{Sign}
use Rattle.line_tokens.specs.declared.sign.Sign.TheVariants.{ShiftSigned, AtMost, AtLeast, SignedAtMost, SignedAtLeast, Below, Above, SignedBelow, SignedAbove, ShiftLeft, ShiftRight, NotEqual, Equal, BitOr, BitXor, BitAnd, Plus, Minus, Times, OpenRound, CloseRound, OpenSquare, CloseSquare}
use Rattle.line_tokens.specs.declared.lexer.Token.{Token}
use Rattle.line_tokens.specs.declared.lexer.Token.TheVariants.{Number, TooLarge, Name, Sign as ASign, BadByte, BadText}

-- the text of a sign
abbrev pub sign_text : Sign → List ℕ
sign_text ShiftSigned = codes ">>>"
sign_text AtMost = codes "<=u"
sign_text AtLeast = codes ">=u"
sign_text SignedAtMost = codes "<=s"
sign_text SignedAtLeast = codes ">=s"
sign_text Below = codes "<u"
sign_text Above = codes ">u"
sign_text SignedBelow = codes "<s"
sign_text SignedAbove = codes ">s"
sign_text ShiftLeft = codes "<<"
sign_text ShiftRight = codes ">>"
sign_text NotEqual = codes "!="
sign_text Equal = codes "="
sign_text BitOr = codes "|"
sign_text BitXor = codes "^"
sign_text BitAnd = codes "&"
sign_text Plus = codes "+"
sign_text Minus = codes "-"
sign_text Times = codes "*"
sign_text OpenRound = codes "("
sign_text CloseRound = codes ")"
sign_text OpenSquare = codes "["
sign_text CloseSquare = codes "]"

-- a token; a number that is too large stands for the least such number
abbrev pub token_of : Token → grammar.Token
token_of (Number n) = grammar.NumberToken n
token_of TooLarge = grammar.NumberToken (2 ^ 32)
token_of (Name w) = grammar.NameToken w.now
token_of (ASign s) = grammar.SignToken (sign_text s)
token_of BadByte = grammar.BadByte
token_of BadText = grammar.BadText

-- a token, whose number is told only if it is below 2 ^ 32: the other numbers are taken for the least of them
abbrev pub capped : grammar.Token → grammar.Token
capped (grammar.NumberToken n) = grammar.NumberToken (min n (2 ^ 32))
capped (grammar.NameToken w) = grammar.NameToken w
capped (grammar.SignToken s) = grammar.SignToken s
capped grammar.BadByte = grammar.BadByte
capped grammar.BadText = grammar.BadText

-- the number of some digits, before a text that may begin with a letter
abbrev pub number_before : (base : ℕ) → (digits text : List ℕ) → grammar.Token
number_before base digits text =
    if grammar.begins_with_letter text then grammar.BadText else grammar.NumberToken (min (digits_value base digits) (2 ^ 32))
