-- Printed lines and words are read again: the lines of lines, the words of words with blanks between, the numbers of printed numbers.
use Rattle.std.proofs.Common.{◌≡◌, ℕ, ◌<◌, ◌^◌, Bool, true, false, not, ◌&&◌, List, [], ◌∷◌, ◌++◌, Some, refl, arith, sym, ap, ◌∙◌, inl, inr}
use Rattle.std.specs.Prelude.{◌==◌, map, filter, nat_lt}
use Rattle.std.specs.List.{list_all}
use Rattle.std.specs.Char.{digit_value}
use Rattle.std.specs.Fmt.{decimal}
use Rattle.std.specs.Str.Parse.{digits_value, IsNumeral, AllDigits}
use Rattle.std.proofs.lemmas.Fmt.{decimal_is_IsNumeral_wide}
use Rattle.std.proofs.lemmas.List.{append-nil, append_assoc}
use Rattle.std.proofs.lemmas.List.Folds.{list_all-append}
use Rattle.std.proofs.lemmas.Bool.{eqb-true, cases_Bool, and_parts, and_from, both_ways, lt-ltb}
use Rattle.word_spec.specs.Texts.{is_blank, is_digit_of, are_digits, split_lines, line, lines, spaced, number_text, joined}
use Rattle.clause_spec.specs.Certificates.{signed_text}
use Rattle.clause_spec.specs.CertificateGrammar.{parts, is_word, words_of, Integer, integer_of, number_before, numbers_of}

-- a list passes a weaker test
pub passes_more : {A : Type 0} (p q : A → Bool) → ((x : A) → p x ≡ true → q x ≡ true) → (xs : List A) → list_all p xs ≡ true → list_all q xs ≡ true
passes_more p q f [] h = refl
passes_more p q f (x ∷ xs) h =
    let g = and_parts (p x) (list_all p xs) h in and_from (q x) (list_all q xs) (f x g.0) (passes_more p q f xs g.1)

-- the lines of a text
abbrev pub in_line : ℕ → Bool
in_line b = not (b == 10)

pub split_line : (t rest : List ℕ) → list_all in_line t ≡ true → split_lines (line t ++ rest) ≡ t ∷ split_lines rest
split_line [] rest h = refl
split_line (b ∷ t) rest h =
    let g = and_parts (in_line b) (list_all in_line t) h in
    let n : (b == 10) ≡ false = grind (arith, g.0) in
    rw (n, split_line t rest g.1) refl

pub split_all : (ls : List (List ℕ)) (rest : List ℕ) → list_all (list_all in_line) ls ≡ true → split_lines (lines ls ++ rest) ≡ ls ++ split_lines rest
split_all [] rest h = refl
split_all (l ∷ ls) rest h =
    let g = and_parts (list_all in_line l) (list_all (list_all in_line) ls) h in
    ap split_lines (append_assoc (line l) (lines ls) rest) ∙ split_line l (lines ls ++ rest) g.0 ∙ ap (λ (ts : List (List ℕ)). l ∷ ts) (split_all ls rest g.1)

-- the parts of a list that an element ends
module _ {A : Type 0} (ends : A → Bool) where
  pub parts_cut : (xs : List A) (x : A) (rest : List A) → list_all (λ y. not (ends y)) xs ≡ true → ends x ≡ true →
      parts ends (xs ++ x ∷ rest) ≡ xs ∷ parts ends rest
  parts_cut [] x rest h e = rw e refl
  parts_cut (y ∷ ys) x rest h e =
      let g = and_parts (not (ends y)) (list_all (λ z. not (ends z)) ys) h in
      let n : ends y ≡ false = grind (arith, g.0) in
      rw (n, parts_cut ys x rest g.1 e) refl

  pub parts_last : (x : A) (xs : List A) → list_all (λ y. not (ends y)) (x ∷ xs) ≡ true → parts ends (x ∷ xs) ≡ (x ∷ xs) ∷ []
  parts_last x [] h = let g = and_parts (not (ends x)) true h in let n : ends x ≡ false = grind (arith, g.0) in rw n refl
  parts_last x (y ∷ ys) h =
      let g = and_parts (not (ends x)) (list_all (λ z. not (ends z)) (y ∷ ys)) h in
      let n : ends x ≡ false = grind (arith, g.0) in
      rw (n, parts_last y ys g.1) refl

-- a byte of a word, and a word
abbrev pub in_word : ℕ → Bool
in_word b = not (is_blank b) && in_line b

abbrev pub is_token : List ℕ → Bool
is_token [] = false
is_token (b ∷ w) = list_all in_word (b ∷ w)

token_bytes : (w : List ℕ) → is_token w ≡ true → list_all in_word w ≡ true
token_bytes [] h = refl
token_bytes (b ∷ w) h = h

no_blanks : (w : List ℕ) → list_all in_word w ≡ true → list_all (λ b. not (is_blank b)) w ≡ true
no_blanks = passes_more in_word (λ b. not (is_blank b)) (λ b h. (and_parts (not (is_blank b)) (in_line b) h).0)

parts_joined : (w : List ℕ) (ws : List (List ℕ)) → is_token w ≡ true → list_all is_token ws ≡ true → parts is_blank (w ++ spaced ws) ≡ w ∷ ws
parts_joined [] [] h k = cc
parts_joined (b ∷ w) [] h k = rw (append-nil w) (parts_last is_blank b w (no_blanks (b ∷ w) h))
parts_joined w (v ∷ vs) h k =
    let g = and_parts (is_token v) (list_all is_token vs) k in
    parts_cut is_blank w 32 (v ++ spaced vs) (no_blanks w (token_bytes w h)) refl ∙ ap (λ (ps : List (List ℕ)). w ∷ ps) (parts_joined v vs g.0 g.1)

filter_words : (ws : List (List ℕ)) → list_all is_token ws ≡ true → filter is_word ws ≡ ws
filter_words [] h = refl
filter_words ([] ∷ ws) h = cc
filter_words ((b ∷ w) ∷ ws) h =
    let g = and_parts (is_token (b ∷ w)) (list_all is_token ws) h in ap (λ (ps : List (List ℕ)). (b ∷ w) ∷ ps) (filter_words ws g.1)

-- the words of words with blanks between
pub words_joined : (ws : List (List ℕ)) → list_all is_token ws ≡ true → words_of (joined ws) ≡ ws
words_joined [] h = refl
words_joined (w ∷ ws) h =
    let g = and_parts (is_token w) (list_all is_token ws) h in ap (filter is_word) (parts_joined w ws g.0 g.1) ∙ filter_words (w ∷ ws) h

-- words with blanks between are in one line
pub joined_in_line : (ws : List (List ℕ)) → list_all is_token ws ≡ true → list_all in_line (joined ws) ≡ true
joined_in_line [] h = refl
joined_in_line (w ∷ ws) h =
    let g = and_parts (is_token w) (list_all is_token ws) h in
    list_all-append in_line w (spaced ws) ∙ and_from (list_all in_line w) (list_all in_line (spaced ws)) (word_in_line w g.0) (spaced_in_line ws g.1) where
      word_in_line : (v : List ℕ) → is_token v ≡ true → list_all in_line v ≡ true
      word_in_line v k = passes_more in_word in_line (λ b e. (and_parts (not (is_blank b)) (in_line b) e).1) v (token_bytes v k)

      spaced_in_line : (vs : List (List ℕ)) → list_all is_token vs ≡ true → list_all in_line (spaced vs) ≡ true
      spaced_in_line [] k = refl
      spaced_in_line (v ∷ vs) k =
          let g = and_parts (is_token v) (list_all is_token vs) k in
          list_all-append in_line v (spaced vs) ∙ and_from (list_all in_line v) (list_all in_line (spaced vs)) (word_in_line v g.0) (spaced_in_line vs g.1)

-- a digit is no other byte than a digit
digit_not : (k b : ℕ) → is_digit_of 10 k ≡ false → is_digit_of 10 b ≡ true → (b == k) ≡ false
digit_not k b n h = elim (cases_Bool (b == k)) [
  | inl e ↦ absurd (both_ways (is_digit_of 10 k) n (ap (is_digit_of 10) (sym (eqb-true b k e)) ∙ h))
  | inr e ↦ e
]

digit_in_word : (b : ℕ) → is_digit_of 10 b ≡ true → in_word b ≡ true
digit_in_word b h = rw (digit_not 32 b refl h, digit_not 9 b refl h, digit_not 10 b refl h) refl

all_digits : (ds : List ℕ) → AllDigits 10 ds → list_all (is_digit_of 10) ds ≡ true
all_digits [] h = refl
all_digits (d ∷ ds) h = and_from (is_digit_of 10 d) (list_all (is_digit_of 10) ds) (lt-ltb (digit_value d) 10 h.0) (all_digits ds h.1)

digits_from : (ds : List ℕ) → IsNumeral 10 ds → are_digits 10 ds ≡ true
digits_from [] h = absurd (omega arith)
digits_from (d ∷ ds) h = all_digits (d ∷ ds) h.1

-- a printed number has digits, and its value
pub printed_digits : (n : ℕ) → n < 10 ^ 64 → (are_digits 10 (number_text n) ≡ true) × (digits_value 10 (number_text n) ≡ n)
printed_digits n h = let k = decimal_is_IsNumeral_wide n h in (digits_from (decimal n) k.0, k.1)

digits_token : (ds : List ℕ) → are_digits 10 ds ≡ true → is_token ds ≡ true
digits_token [] h = cc
digits_token (d ∷ ds) h = passes_more (is_digit_of 10) in_word digit_in_word (d ∷ ds) h

minus_token : (ds : List ℕ) → are_digits 10 ds ≡ true → is_token (45 ∷ ds) ≡ true
minus_token [] h = cc
minus_token (d ∷ ds) h = digits_token (d ∷ ds) h

number_digits : (ds : List ℕ) → are_digits 10 ds ≡ true → integer_of ds ≡ Some (record { negative = false; size = digits_value 10 ds })
number_digits [] h = cc
number_digits (d ∷ ds) h =
    let g = and_parts (is_digit_of 10 d) (list_all (is_digit_of 10) ds) h in rw (digit_not 45 d refl g.0, h) refl

number_minus : (ds : List ℕ) → are_digits 10 ds ≡ true → nat_lt 0 (digits_value 10 ds) ≡ true →
    integer_of (45 ∷ ds) ≡ Some (record { negative = true; size = digits_value 10 ds })
number_minus ds h k = rw (h, k) refl

abbrev pub integer : Bool → ℕ → Integer
integer minus n = record { negative = minus; size = n }

-- a printed number is read again, and is a word
pub printed_number : (n : ℕ) → n < 10 ^ 64 → (integer_of (number_text n) ≡ Some (integer false n)) × (is_token (number_text n) ≡ true)
printed_number n h =
    let k = printed_digits n h in
    (number_digits (number_text n) k.0 ∙ ap (λ m. Some (integer false m)) k.1, digits_token (number_text n) k.0)

pub printed_signed : (positive : Bool) (n : ℕ) → nat_lt 0 n ≡ true → n < 10 ^ 64 →
    (integer_of (signed_text positive n) ≡ Some (integer (not positive) n)) × (is_token (signed_text positive n) ≡ true)
printed_signed true n low h = printed_number n h
printed_signed false n low h =
    let k = printed_digits n h in
    (number_minus (number_text n) k.0 (ap (nat_lt 0) k.1 ∙ low) ∙ ap (λ m. Some (integer true m)) k.1, minus_token (number_text n) k.0)

-- the numbers of words before words, where each says a number
module _ {A : Type 0} (says : A → List ℕ) (number : A → Integer) (ok : A → Bool)
    (each : (x : A) → ok x ≡ true → (integer_of (says x) ≡ Some (number x)) × (is_token (says x) ≡ true)) where
  pub numbers_before : (xs : List A) → list_all ok xs ≡ true → (ws : List (List ℕ)) (ns : List Integer) → numbers_of ws ≡ Some ns →
      numbers_of (map says xs ++ ws) ≡ Some (map number xs ++ ns)
  numbers_before [] h ws ns e = e
  numbers_before (x ∷ xs) h ws ns e =
      let g = and_parts (ok x) (list_all ok xs) h in
      ap (λ o. number_before o (numbers_of (map says xs ++ ws))) (each x g.0).0
      ∙ ap (number_before (Some (number x))) (numbers_before xs g.1 ws ns e)

  pub tokens_before : (xs : List A) → list_all ok xs ≡ true → (ws : List (List ℕ)) → list_all is_token ws ≡ true →
      list_all is_token (map says xs ++ ws) ≡ true
  tokens_before [] h ws e = e
  tokens_before (x ∷ xs) h ws e =
      let g = and_parts (ok x) (list_all ok xs) h in
      and_from (is_token (says x)) (list_all is_token (map says xs ++ ws)) (each x g.0).1 (tokens_before xs g.1 ws e)
