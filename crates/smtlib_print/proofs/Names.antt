-- Names and numbers: they are words, they have the values of symbols, and two are the same only where their numbers are.
use Rattle.std.proofs.Common.{◌≡◌, ℕ, ◌^◌, ◌<◌, ◌≤◌, refl, arith, true, false, Bool, List, [], ◌∷◌, Option, None, length}
use Rattle.std.specs.Prelude.{◌==◌, ◌&&◌, not, codes, decimal}
use Rattle.std.specs.List.{list_all}
use Rattle.std.specs.Str.{bytes_eq}
use Rattle.std.specs.Str.Parse.{AllDigits}
use Rattle.std.proofs.lemmas.Bool.Decides.{nat_tests}
use Rattle.std.proofs.lemmas.Slice.Eq.{bytes_eq-Decides}
use Rattle.std.proofs.lemmas.Fmt.{decimal_is_IsNumeral, decimal_injective}
use Rattle.std.proofs.lemmas.Str.Parse.{digit_from_value}
use Rattle.word_spec.specs.Texts.{number_text}
use Rattle.bilv_spec.specs.Scripts.{choice_name}
use Rattle.bilv_spec.specs.SmtLib.{SmtValue, atom_value, constant_of}
use Rattle.smtlib_print.specs.Commands.{term_name}
use Rattle.smtlib_print.proofs.ReadBack.{is_inner, is_word}

digit_inner : (b : ℕ) → 48 ≤ b → b ≤ 57 → is_inner b ≡ true
digit_inner b h k = grind (arith, nat_tests)

digits_inner : (ds : List ℕ) → AllDigits 10 ds → list_all is_inner ds ≡ true
digits_inner [] d = refl
digits_inner (b ∷ ds) d = let k = digit_from_value b d.0 in rw (digit_inner b (omega (arith, k)) (omega (arith, k)), digits_inner ds d.1) refl

word_of_inner : (w : List ℕ) → 0 < length w → list_all is_inner w ≡ true → is_word w ≡ true
word_of_inner [] s h = absurd (omega arith)
word_of_inner (b ∷ w) s h = h

pub number_inner : (n : ℕ) → n < 2 ^ 64 → list_all is_inner (number_text n) ≡ true
number_inner n h = digits_inner (decimal n) (decimal_is_IsNumeral n h).0.1

-- a number is a word
pub number_word : (n : ℕ) → n < 2 ^ 64 → is_word (number_text n) ≡ true
number_word n h = word_of_inner (number_text n) (decimal_is_IsNumeral n h).0.0 (number_inner n h)

-- so are the names of terms and choices
pub term_word : (n : ℕ) → n < 2 ^ 64 → is_word (term_name n) ≡ true
term_word n h = number_inner n h

pub choice_word : (n : ℕ) → n < 2 ^ 64 → is_word (choice_name n) ≡ true
choice_word n h = number_inner n h

-- a word that is no constant of the theories: it has the value of a symbol
abbrev pub is_symbol : List ℕ → Bool
is_symbol [] = false
is_symbol (b ∷ w) = not (b == 35) && (not (bytes_eq (b ∷ w) (codes "true")) && not (bytes_eq (b ∷ w) (codes "false")))

no_constant : (b : ℕ) (w : List ℕ) → (b == 35) ≡ false → constant_of (b ∷ w) ≡ None
no_constant b [] h = refl
no_constant b (c ∷ []) h = refl
no_constant b (c ∷ d ∷ ds) h = rw h refl

three_tests : (p q r : Bool) → (not p && (not q && not r)) ≡ true → (p ≡ false) × (q ≡ false) × (r ≡ false)
three_tests true q r h = absurd (cc h)
three_tests false true r h = absurd (cc h)
three_tests false false true h = absurd (cc h)
three_tests false false false h = (refl, refl, refl)

-- a symbol has its value
pub symbol_value : (symbols : List ℕ → Option SmtValue) (w : List ℕ) → is_symbol w ≡ true → atom_value symbols w ≡ symbols w
symbol_value symbols [] h = absurd (cc h)
symbol_value symbols (b ∷ w) h = let t = three_tests (b == 35) _ _ h in rw (t.1, t.2, no_constant b w t.0) refl

digit_first : (ds : List ℕ) (b : ℕ) (w : List ℕ) → AllDigits 10 ds → 57 < b → bytes_eq ds (b ∷ w) ≡ false
digit_first [] b w d h = refl
digit_first (c ∷ ds) b w d h = let k = digit_from_value c d.0 in let e : (c == b) ≡ false = grind (arith, nat_tests, k.0, k.1) in rw e refl

-- the name of a term is a symbol, as is that of a choice
pub term_symbol : (n : ℕ) → n < 2 ^ 64 → is_symbol (term_name n) ≡ true
term_symbol n h = rw (digit_first (decimal n) 114 (codes "ue") (decimal_is_IsNumeral n h).0.1 (omega arith)) refl

pub choice_symbol : (n : ℕ) → is_symbol (choice_name n) ≡ true
choice_symbol n = refl

-- two texts that are not one fail the test
not_true : (b : Bool) → (b ≡ true → ⊥) → b ≡ false
not_true true h = absurd (h refl)
not_true false h = refl

pub other_text : (v w : List ℕ) → (v ≡ w → ⊥) → bytes_eq v w ≡ false
other_text v w h = not_true (bytes_eq v w) (λ e. h ((bytes_eq-Decides v w).0 e))

pub text_of : (v w : List ℕ) → bytes_eq v w ≡ true → v ≡ w
text_of v w e = (bytes_eq-Decides v w).0 e

-- names of terms with different numbers
pub other_term : (m n : ℕ) → m < 2 ^ 64 → n < 2 ^ 64 → (m ≡ n → ⊥) → bytes_eq (term_name m) (term_name n) ≡ false
other_term m n h k d = other_text (number_text m) (number_text n) (λ e. d (decimal_injective m n h k e))
