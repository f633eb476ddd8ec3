-- The tokens of a sort that is looked for.
use Rattle.std.specs.Prelude.{Bool, true, false, if◌then◌else◌, List, [], ◌∷◌, Option, Some, None, map}
use Rattle.std.specs.Option.{option_map}
use denote.Ref.{Bor}
use Rattle.model_spec.specs.ModelText as text
use Rattle.model_spec.specs.ModelText.{ModelToken}
use Rattle.model_text.specs.declared.piece.Piece.{Piece}
use Rattle.model_text.specs.declared.piece.Piece.TheVariants.{Open, Close, Word}
use Rattle.model_text.specs.Tokens.{is_open, is_close, is_the_word}

-- the token
abbrev pub piece_of : Piece → ModelToken
piece_of Open = text.Open
piece_of Close = text.Close
piece_of (Word w) = text.Word w.now

-- the tokens that are left
abbrev pub pieces_of : Option (Bor (List Piece)) → Option (List ModelToken)
pieces_of o = option_map (λ rest. map piece_of rest.now) o

-- a bracket or a word is this token
abbrev pub token_eq : ModelToken → ModelToken → Bool
token_eq text.Open t = is_open t
token_eq text.Close t = is_close t
token_eq (text.Word w) t = is_the_word w t
token_eq (text.Quoted w) t = false
token_eq text.Text t = false
token_eq text.Bad t = false

-- what is left of the tokens that are looked for behind one more
abbrev pub matched : Option (List ModelToken) → ModelToken → Option (List ModelToken)
matched None t = None
matched (Some []) t = None
matched (Some (p ∷ ps)) t = if token_eq p t then Some ps else None

-- and behind some
abbrev pub left_of : List ModelToken → List ModelToken → Option (List ModelToken)
left_of ps [] = Some ps
left_of [] (t ∷ ts) = None
left_of (p ∷ ps) (t ∷ ts) = if token_eq p t then left_of ps ts else None

-- they were all
abbrev pub is_done : Option (List ModelToken) → Bool
is_done None = false
is_done (Some []) = true
is_done (Some (p ∷ ps)) = false
