-- Digits are read with the numbers so far capped.
use Rattle.std.proofs.Common.{◌≡◌, ℕ, ◌<◌, ◌+◌, ◌*◌, ◌^◌, true, List, [], ◌∷◌, refl, arith, sym, ap, ◌∙◌, length, drop, drop-cons, add-one, get_or}
use Rattle.std.specs.Prelude.{min}
use Rattle.std.specs.List.{list_all}
use Rattle.word_spec.specs.Texts.{is_digit_of}
use Rattle.std.specs.Char.{digit_value}
use Rattle.std.specs.Str.Parse.{digits_value_after}

step : (m d : ℕ) → min (m * 10 + d) (2 ^ 62 + 1) ≡ min (min m (2 ^ 62 + 1) * 10 + d) (2 ^ 62 + 1)
step m d = omega arith

-- the cap of what is read so far does not show
pub capped-after : (m : ℕ) (ds : List ℕ) → min (digits_value_after 10 m ds) (2 ^ 62 + 1) ≡ min (digits_value_after 10 (min m (2 ^ 62 + 1)) ds) (2 ^ 62 + 1)
capped-after m [] = omega arith
capped-after m (c ∷ cs) =
    capped-after (m * 10 + digit_value c) cs ∙ ap (λ k. min (digits_value_after 10 k cs) (2 ^ 62 + 1)) (step m (digit_value c))
    ∙ sym (capped-after (min m (2 ^ 62 + 1) * 10 + digit_value c) cs)

-- one more digit
pub capped-more : (ds : List ℕ) (i m n d : ℕ) → i < length ds → digit_value (get_or ds i 0) ≡ d → n ≡ min (m * 10 + d) (2 ^ 62 + 1) →
    min (digits_value_after 10 m (drop i ds)) (2 ^ 62 + 1) ≡ min (digits_value_after 10 n (drop (i + 1) ds)) (2 ^ 62 + 1)
capped-more ds i m n d lt e q =
    let s : drop i ds ≡ get_or ds i 0 ∷ drop (i + 1) ds = rw (add-one, drop-cons ds i 0) refl in
    ap (λ (xs : List ℕ). min (digits_value_after 10 m xs) (2 ^ 62 + 1)) s ∙ ap (λ v. min (digits_value_after 10 (m * 10 + v) (drop (i + 1) ds)) (2 ^ 62 + 1)) e
    ∙ capped-after (m * 10 + d) (drop (i + 1) ds) ∙ ap (λ v. min (digits_value_after 10 v (drop (i + 1) ds)) (2 ^ 62 + 1)) (sym q)

pub digits-more : (ds : List ℕ) (i : ℕ) → i < length ds → is_digit_of 10 (get_or ds i 0) ≡ true →
    list_all (is_digit_of 10) (drop i ds) ≡ list_all (is_digit_of 10) (drop (i + 1) ds)
digits-more ds i lt h =
    let s : drop i ds ≡ get_or ds i 0 ∷ drop (i + 1) ds = rw (add-one, drop-cons ds i 0) refl in
    ap (list_all (is_digit_of 10)) s ∙ rw h refl
