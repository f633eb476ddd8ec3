-- Words that are numbers as a whole, by their tokens.
use Rattle.std.proofs.Common.{◌≡◌, ◌≢◌, ℕ, zero, suc, ◌+◌, ◌≤◌, ◌<◌, ◌^◌, refl, ap, sym, ◌∙◌, arith, Bool, true, false, List, [], ◌∷◌, Option, Some, None, drop, get_or, length, map}
use Rattle.std.proofs.lemmas.Bool.Decides.{nat_tests}
use Rattle.std.specs.Prelude.{◌==◌, ◌&&◌, MatchOption, if◌then◌else◌, min, nat_eq, codes}
use Rattle.std.specs.List.{list_all, prefix_len, starts_with}
use Rattle.std.proofs.lemmas.List.Sums.{prefix_len-le-length}
use Rattle.std.proofs.lemmas.List.Folds.{length-prefix_len}
use Rattle.word_spec.specs.Texts.{are_digits, is_blank, is_digit_of}
use Rattle.word_spec.specs.Tokens as grammar
use Rattle.word_spec.specs.Tokens.{NumberToken, begins_with_letter, is_digit, is_hexadecimal, number_length, number_token, number_value, run_of, token_at, token_length, tokens_of}
use Rattle.answer_spec.specs.FrameAnswers.{begins_with_digit, number_word}
use Rattle.line_tokens.specs.Tokens.{capped, token_of}
use Rattle.line_tokens.specs.declared.lexer.Token.{Token}
use Rattle.line_tokens.proofs.Lexing.{first_of}
use Rattle.line_tokens.proofs.Numbers.{none_more, number_some, one_more}
use Rattle.framed_notes.specs.Words.{is_letter_or_digit}

-- a letter or a digit is no blank and begins no comment
no_blank : (b : ℕ) → is_letter_or_digit b ≡ true → is_blank b ≡ false
no_blank b is = grind (arith, nat_tests, is)

no_comment : (b : ℕ) → is_letter_or_digit b ≡ true → (b == 35) ≡ false
no_comment b is = grind (arith, nat_tests, is)

of_digit : (b : ℕ) → is_digit b ≡ true → is_letter_or_digit b ≡ true
of_digit b is = grind (arith, nat_tests, is)

both : (x y : Bool) → (x && y) ≡ true → (x ≡ true) × (y ≡ true)
both true true e = (refl, refl)
both true false e = absurd (let no : ⊥ = cc in no)
both false y e = absurd (let no : ⊥ = cc in no)

head_of : (p : ℕ → Bool) (b : ℕ) (w : List ℕ) → list_all p (b ∷ w) ≡ true → (p b ≡ true) × (list_all p w ≡ true)
head_of p b w all = both (p b) (list_all p w) all

dropped : (p : ℕ → Bool) (n : ℕ) (w : List ℕ) → list_all p w ≡ true → list_all p (drop n w) ≡ true
dropped p zero w all = all
dropped p (suc n) [] all = all
dropped p (suc n) (b ∷ w) all = dropped p n w (head_of p b w all).1

-- bytes of which none is a blank or begins a comment have a token
some_token : (w : List ℕ) → list_all is_letter_or_digit w ≡ true → tokens_of w ≡ [] → w ≡ []
some_token [] all none = refl
some_token (b ∷ w) all none =
    let is = (head_of is_letter_or_digit b w all).0 in
    let z = rw (no_blank b is, no_comment b is) at none in
    absurd (let no : ⊥ = cc in no)

-- a number has no more bytes than its text
run_short : (base : ℕ) (text : List ℕ) → length (run_of base text) ≤ length text
run_short base text = omega (arith, length-prefix_len (is_digit_of base) text, prefix_len-le-length (is_digit_of base) text)

apart : false ≡ true → ⊥
apart e = cc

zero_x : (text : List ℕ) → is_hexadecimal text ≡ true → text ≡ 48 ∷ 120 ∷ drop 2 text
zero_x text is = by text (both (starts_with nat_eq text (codes "0x")) (are_digits 16 (run_of 16 (drop 2 text))) is).0
  where
    by : (l : List ℕ) → starts_with nat_eq l (codes "0x") ≡ true → l ≡ 48 ∷ 120 ∷ drop 2 l
    by [] h = absurd (apart h)
    by (a ∷ []) h = absurd (apart (both (nat_eq 48 a) false h).1)
    by (a ∷ b ∷ l) h =
        let both_are = both (nat_eq 48 a) (nat_eq 120 b && true) h in
        let zero_is = both_are.0 in
        let x_is = (both (nat_eq 120 b) true both_are.1).0 in
        let first : a ≡ 48 = grind (arith, nat_tests, zero_is) in
        let second : b ≡ 120 = grind (arith, nat_tests, x_is) in
        ap (λ x. x ∷ b ∷ l) first ∙ ap (λ x. 48 ∷ x ∷ l) second

number_short : (text : List ℕ) → number_length text ≤ length text
number_short text = by (is_hexadecimal text) refl
  where
    by : (x : Bool) → is_hexadecimal text ≡ x → number_length text ≤ length text
    by true e = let l = run_short 16 (drop 2 text) in let d = ap length (zero_x text e) in rw e (omega (arith, l, d))
    by false e = rw e (run_short 10 text)

gone : (n : ℕ) (w : List ℕ) → drop n w ≡ [] → length w ≤ n
gone zero [] e = omega arith
gone zero (b ∷ w) e = absurd (let no : ⊥ = cc in no)
gone (suc n) [] e = omega arith
gone (suc n) (b ∷ w) e = let l = gone n w e in omega (arith, l)

all_gone : (n : ℕ) (w : List ℕ) → n ≡ length w → drop n w ≡ []
all_gone zero [] e = refl
all_gone zero (b ∷ w) e = absurd (omega (arith, e))
all_gone (suc n) [] e = refl
all_gone (suc n) (b ∷ w) e = all_gone n w (omega (arith, e))

module _ (b : ℕ) (rest : List ℕ) (digit : is_digit b ≡ true) (closed : list_all is_letter_or_digit (b ∷ rest) ≡ true) where
  abbrev w : List ℕ
  w = b ∷ rest

  abbrev behind : List ℕ
  behind = drop (number_length w) w

  tokens_are : tokens_of w ≡ number_token w ∷ tokens_of behind
  tokens_are =
      let is = of_digit b digit in
      let count : number_length w ≡ token_length b w = rw digit refl in
      first_of b (number_length w) rest (no_blank b is) (no_comment b is) count (number_some b w refl digit)
      ∙ ap (λ t. t ∷ tokens_of behind) (let same : token_at b w ≡ number_token w = rw digit refl in same)

  -- a number as a whole
  value_is : behind ≡ [] → number_word w ≡ Some (number_value w)
  value_is none =
      let long = gone (number_length w) w none in
      let short = number_short w in
      let whole : (number_length w == length w) ≡ true = grind (arith, nat_tests, long, short) in
      ap (λ x. if x && (number_length w == length w) then Some (number_value w) else None) digit
      ∙ ap (λ x. if x then Some (number_value w) else None) whole

  token_is : behind ≡ [] → number_token w ≡ NumberToken (number_value w)
  token_is none = ap (λ (l : List ℕ). if begins_with_letter l then grammar.BadText else NumberToken (number_value w)) none

  -- where it is none, bytes are left
  left_of : (n : ℕ) → number_word w ≡ Some n → behind ≡ []
  left_of n is = by (number_length w == length w) refl
    where
      by : (x : Bool) → (number_length w == length w) ≡ x → behind ≡ []
      by true e = all_gone (number_length w) w (grind (arith, nat_tests, e))
      by false e =
          absurd (let none : number_word w ≡ None =
          ap (λ x. if x && (number_length w == length w) then Some (number_value w) else None) digit ∙ ap (λ x. if x then Some (number_value w) else None) e in
          let z : None ≡ Some n = sym none ∙ is in let no : ⊥ = cc in no)

  -- several tokens, or none, are no number
  several : (ts : List Token) → map token_of ts ≡ map capped (tokens_of w) → length ts ≢ 1 → (n : ℕ) → number_word w ≡ Some n → 2 ^ 32 ≤ n
  several ts same other n is =
      let none = left_of n is in
      let one : map token_of ts ≡ capped (number_token w) ∷ [] =
      same ∙ ap (map capped) tokens_are ∙ ap (λ (l : List ℕ). capped (number_token w) ∷ map capped (tokens_of l)) none in
      absurd (other (count ts one))
    where
      count : (ts : List Token) → map token_of ts ≡ capped (number_token w) ∷ [] → length ts ≡ 1
      count [] e = absurd (let no : ⊥ = cc in no)
      count (t ∷ []) e = refl
      count (t ∷ u ∷ ts) e = absurd (let no : ⊥ = cc in no)

  -- one token is one, or a larger one, or the word is none
  module _ (t : Token) (same : map token_of (t ∷ []) ≡ map capped (tokens_of w)) where
    parts : (token_of t ≡ capped (number_token w)) × (behind ≡ [])
    parts =
        let e : token_of t ∷ [] ≡ capped (number_token w) ∷ map capped (tokens_of behind) = same ∙ ap (map capped) tokens_are in
        let first : token_of t ≡ capped (number_token w) = cc in
        let others : map capped (tokens_of behind) ≡ [] = cc in
        (first, some_token behind (dropped is_letter_or_digit (number_length w) w closed) (unmapped (tokens_of behind) others))
      where
        unmapped : (ts : List grammar.Token) → map capped ts ≡ [] → ts ≡ []
        unmapped [] e = refl
        unmapped (x ∷ xs) e = absurd (let no : ⊥ = cc in no)

    number : token_of t ≡ NumberToken (min (number_value w) (2 ^ 32))
    number = parts.0 ∙ ap capped (token_is parts.1)

    pub judged : (o : Option ℕ) → MatchOption o ((n : ℕ) → token_of t ≡ NumberToken n → 2 ^ 32 ≤ n) (λ n. (token_of t ≡ NumberToken n) × (n < 2 ^ 32)) →
        MatchOption o ((n : ℕ) → number_word w ≡ Some n → 2 ^ 32 ≤ n) (λ n. number_word w ≡ Some n)
    judged None large = λ n is.
        let l = large (min (number_value w) (2 ^ 32)) number in
        let same : number_value w ≡ n = (let e : Some (number_value w) ≡ Some n = sym (value_is parts.1) ∙ is in cc) in
        omega (arith, l, same)
    judged (Some n) h =
        let e : NumberToken (min (number_value w) (2 ^ 32)) ≡ NumberToken n = sym number ∙ h.0 in
        let m : min (number_value w) (2 ^ 32) ≡ n = cc in
        let low = h.1 in
        let v : number_value w ≡ n = omega (arith, m, low) in
        value_is parts.1 ∙ ap Some v

-- a word that begins with no digit is no number
pub no_digit : (w : List ℕ) → begins_with_digit w ≡ false → (n : ℕ) → number_word w ≡ Some n → 2 ^ 32 ≤ n
no_digit w none n is =
    absurd (let e : number_word w ≡ None = ap (λ x. if x && (number_length w == length w) then Some (number_value w) else None) none in
    let z : None ≡ Some n = sym e ∙ is in let no : ⊥ = cc in no)

pub some_tokens : (w : List ℕ) → begins_with_digit w ≡ true → list_all is_letter_or_digit w ≡ true → (ts : List Token) →
    map token_of ts ≡ map capped (tokens_of w) → length ts ≢ 1 → (n : ℕ) → number_word w ≡ Some n → 2 ^ 32 ≤ n
some_tokens [] digit closed ts same other n is = absurd (apart digit)
some_tokens (b ∷ rest) digit closed ts same other n is = several b rest digit closed ts same other n is

pub one_token : (w : List ℕ) → begins_with_digit w ≡ true → list_all is_letter_or_digit w ≡ true → (ts : List Token) (t : Token) →
    map token_of ts ≡ map capped (tokens_of w) → length ts ≡ 1 → t ≡ get_or ts 0 t → (o : Option ℕ) →
    MatchOption o ((n : ℕ) → token_of t ≡ NumberToken n → 2 ^ 32 ≤ n) (λ n. (token_of t ≡ NumberToken n) × (n < 2 ^ 32)) →
    MatchOption o ((n : ℕ) → number_word w ≡ Some n → 2 ^ 32 ≤ n) (λ n. number_word w ≡ Some n)
one_token [] digit closed ts t same one is o h = absurd (apart digit)
one_token (b ∷ rest) digit closed ts t same one is o h = judged b rest digit closed t (sym (ap (map token_of) (single ts one is)) ∙ same) o h
  where
    single : (l : List Token) → length l ≡ 1 → t ≡ get_or l 0 t → l ≡ t ∷ []
    single [] n e = absurd (omega (arith, n))
    single (x ∷ []) n e = ap (λ (y : Token). y ∷ []) (sym e)
    single (x ∷ y ∷ l) n e = absurd (omega (arith, n))

-- the bytes of a number are letters and digits
all_run : (base : ℕ) (text : List ℕ) → ((b : ℕ) → is_digit_of base b ≡ true → is_letter_or_digit b ≡ true) →
    prefix_len (is_digit_of base) text ≡ length text → list_all is_letter_or_digit text ≡ true
all_run base [] step whole = refl
all_run base (b ∷ text) step whole = by (is_digit_of base b) refl (all_run base text step)
  where
    by : (x : Bool) → is_digit_of base b ≡ x → (prefix_len (is_digit_of base) text ≡ length text → list_all is_letter_or_digit text ≡ true) →
        (is_letter_or_digit b && list_all is_letter_or_digit text) ≡ true
    by true e all =
        ap (λ y. y && list_all is_letter_or_digit text) (step b e) ∙
        all (let more = one_more (is_digit_of base) b text e in omega (arith, whole, more))
    by false e all = absurd (let none = none_more (is_digit_of base) b text e in omega (arith, whole, none))

-- so a word with another byte is none
pub not_closed : (word : List ℕ) → list_all is_letter_or_digit word ≡ false → (n : ℕ) → number_word word ≡ Some n → 2 ^ 32 ≤ n
not_closed word other n is = absurd (apart (sym other ∙ closed_by (is_hexadecimal word) refl))
  where
    long : number_length word ≡ length word
    long = by (begins_with_digit word) (number_length word == length word) refl is
      where
        by : (x y : Bool) → (number_length word == length word) ≡ y → (if x && y then Some (number_value word) else None) ≡ Some n →
            number_length word ≡ length word
        by true true e h = grind (arith, nat_tests, e)
        by true false e h = absurd (let no : ⊥ = cc in no)
        by false y e h = absurd (let no : ⊥ = cc in no)

    decimal : (b : ℕ) → is_digit_of 10 b ≡ true → is_letter_or_digit b ≡ true
    decimal b d = grind (arith, nat_tests, d)

    hexadecimal : (b : ℕ) → is_digit_of 16 b ≡ true → is_letter_or_digit b ≡ true
    hexadecimal b d = grind (arith, nat_tests, d)

    closed_by : (x : Bool) → is_hexadecimal word ≡ x → list_all is_letter_or_digit word ≡ true
    closed_by true e =
        let front = zero_x word e in
        let size : 2 + length (run_of 16 (drop 2 word)) ≡ length word = (rw e at long) in
        let run = length-prefix_len (is_digit_of 16) (drop 2 word) in
        let whole = ap length front in
        ap (list_all is_letter_or_digit) front ∙ all_run 16 (drop 2 word) hexadecimal (omega (arith, size, run, whole))
    closed_by false e =
        let size : length (run_of 10 word) ≡ length word = (rw e at long) in
        let run = length-prefix_len (is_digit_of 10) word in
        all_run 10 word decimal (omega (arith, size, run))
