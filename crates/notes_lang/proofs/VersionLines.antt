-- The version of a text, line by line.
use Rattle.std.proofs.Common.{◌≡◌, ℕ, refl, ap, sym, ◌∙◌, subst, arith, List, [], ◌∷◌, Option, Some, None, Bool, ◌&&◌, ◌==◌, min, ◌^◌, map, bytes_eq, codes}
use Rattle.word_spec.specs.Tokens.{Token, NumberToken, NameToken, SignToken, BadByte, BadText, tokens_of}
use Rattle.notes_spec.specs.NotesGrammar.{is_two, version_line, is_second, lines_of}
use Rattle.notes_spec.proofs.NotesTables.{same_token}
use Rattle.line_tokens.specs.Tokens.{capped}
use Rattle.notes_lang.specs.Version.{IsVersionOf}

-- the first of the tokens tells
pub tells : (t : Token) (ts us : List Token) (b : Bool) → ts ≡ t ∷ us → b ≡ (same_token t (NameToken (codes "notes")) && is_two us) → IsVersionOf ts (Some b)
tells (NameToken w) ts us b is b_is later = ap (λ ts. version_line ts later) is ∙ sym b_is
tells (NumberToken n) ts us b is b_is later = ap (λ ts. version_line ts later) is ∙ sym b_is
tells (SignToken s) ts us b is b_is later = ap (λ ts. version_line ts later) is ∙ sym b_is
tells BadByte ts us b is b_is later = ap (λ ts. version_line ts later) is ∙ sym b_is
tells BadText ts us b is b_is later = ap (λ ts. version_line ts later) is ∙ sym b_is

-- numbers that are too large are none of them 2
two_kept : (ts : List Token) → is_two (map capped ts) ≡ is_two ts
two_kept [] = refl
two_kept (NumberToken n ∷ []) = small n where
  small : (n : ℕ) → (min n (2 ^ 32) == 2) ≡ (n == 2)
  small n = grind arith
two_kept (NumberToken n ∷ t ∷ ts) = refl
two_kept (NameToken w ∷ ts) = refl
two_kept (SignToken w ∷ ts) = refl
two_kept (BadByte ∷ ts) = refl
two_kept (BadText ∷ ts) = refl

line_kept : (ts : List Token) (later : Bool) → version_line (map capped ts) later ≡ version_line ts later
line_kept [] later = refl
line_kept (NameToken w ∷ ts) later = ap (λ b. bytes_eq w (codes "notes") && b) (two_kept ts)
line_kept (NumberToken n ∷ ts) later = refl
line_kept (SignToken w ∷ ts) later = refl
line_kept (BadByte ∷ ts) later = refl
line_kept (BadText ∷ ts) later = refl

-- the first line that says something tells
pub told : (text line behind : List ℕ) (ts : List Token) (o : Option Bool) (b : Bool) → lines_of text ≡ line ∷ lines_of behind →
    ts ≡ map capped (tokens_of line) → IsVersionOf ts o → o ≡ Some b → b ≡ is_second (lines_of text)
told text line behind ts o b is tokens p some =
    let q : IsVersionOf ts (Some b) = subst (IsVersionOf ts) some p in
    sym (q (is_second (lines_of behind))) ∙ (ap (λ ts. version_line ts (is_second (lines_of behind))) tokens
    ∙ (line_kept (tokens_of line) (is_second (lines_of behind)) ∙ sym (ap is_second is)))

none_of : (ts : List Token) → map capped ts ≡ [] → ts ≡ []
none_of [] is = refl
none_of (t ∷ ts) is = absurd (let b : ⊥ = cc in b)

-- a line that says nothing does not
pub passed : (text line behind : List ℕ) (ts : List Token) (o : Option Bool) → lines_of text ≡ line ∷ lines_of behind →
    ts ≡ map capped (tokens_of line) → IsVersionOf ts o → o ≡ None → is_second (lines_of behind) ≡ is_second (lines_of text)
passed text line behind ts o is tokens p nothing =
    let q : ts ≡ [] = subst (IsVersionOf ts) nothing p in
    sym (ap is_second is ∙ ap (λ ts. version_line ts (is_second (lines_of behind))) (none_of (tokens_of line) (sym tokens ∙ q)))
