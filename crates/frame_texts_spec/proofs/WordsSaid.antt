-- What words of a line say is what is written of it.
use Rattle.std.proofs.Common.{◌≡◌, ℕ, ◌-◌, ◌^◌, ◌<◌, ◌≤◌, refl, ap, sym, ◌∙◌, arith, Bool, true, false, List, [], ◌∷◌, Option, Some, None, length, get_or}
use Rattle.std.specs.Prelude.{◌==◌, ◌&&◌, nat_le, nat_lt, codes, if◌then◌else◌}
use Rattle.std.specs.List.{list_all}
use Rattle.std.specs.Str.{bytes_eq}
use Rattle.std.specs.Str.Parse.{digits_value}
use Rattle.std.proofs.lemmas.Bool.Decides.{nat_tests}
use Rattle.std.proofs.lemmas.Slice.Eq.{bytes_eq-Decides}
use Rattle.word_spec.specs.Texts.{at_most, decimal_word, hex_word, is_decimal, is_decimal_digit, is_hex_digit, joined, number_text, word_text, words_in}
use Rattle.machine_spec.specs.Endings.{AssertFails, FailsBy, place_words}
use Rattle.machine_spec.specs.StateText.{ByteLine, Layout, NamedLine, both, event_of_line, fails_line, last_step, line_of, line_of_words, pair_line, place_of, rv_layout}
use Rattle.machine_spec.proofs.Spelling.{Above, AllAbove, words_in_joined, number_above, hex_word_above}
use Rattle.machine_spec.proofs.StateLines.{and_true}
use Rattle.machine_spec.proofs.StateSaid.{line_said}
use Rattle.frame_texts_spec.proofs.EndingsBack.{place_back, plain_above, place_above}

-- ---- what is there and what is not

pub none_is : {A P : Type 0} (z : A) → ◌≡◌ {A = Option A} None (Some z) → P
none_is z e = absurd (let x : ◌≡◌ {A = Option _} None (Some z) = e in cc)

pub some_is : {A : Type 0} (x y : A) → ◌≡◌ {A = Option A} (Some x) (Some y) → x ≡ y
some_is x y e = let z : ◌≡◌ {A = Option _} (Some x) (Some y) = e in cc

pub test_is : {A : Type 0} (b : Bool) (x y : A) → (if b then Some x else None) ≡ Some y → (b ≡ true) × (x ≡ y)
test_is true x y e = (refl, some_is x y e)
test_is false x y e = none_is y e

-- the word is this one, or another
pub word_case : {A P : Type 0} (w n : List ℕ) (x y : Option A) (z : A) → (if bytes_eq w n then x else y) ≡ Some z → (w ≡ n → x ≡ Some z → P) →
    (y ≡ Some z → P) → P
word_case {A = A} {P = P} w n x y z e this other = by_test (bytes_eq w n) refl e this other
  where
    by_test : (t : Bool) → bytes_eq w n ≡ t → (if t then x else y) ≡ Some z → (w ≡ n → x ≡ Some z → P) → (y ≡ Some z → P) → P
    by_test true is e this other = this ((bytes_eq-Decides w n).0 is) e
    by_test false is e this other = other e

-- ---- numbers, by lines of starts that have them

digits_above : (ds : List ℕ) → list_all is_hex_digit ds ≡ true → Above 32 ds
digits_above [] e = tt
digits_above (d ∷ ds) e = let p = and_true (is_hex_digit d) (list_all is_hex_digit ds) e in (grind (arith, nat_tests, p.0), digits_above ds p.1)

hex_above : (w : List ℕ) (a : ℕ) → hex_word 8 w ≡ Some a → Above 32 w
hex_above [] a e = none_is a e
hex_above (b ∷ []) a e = none_is a e
hex_above (b ∷ c ∷ ds) a e =
    let p = test_is ((b == 48) && (c == 120) && (length ds == 8) && list_all is_hex_digit ds) (digits_value 16 ds) a e in
    let q = and_true ((b == 48) && (c == 120) && (length ds == 8)) (list_all is_hex_digit ds) p.0 in
    let r = and_true ((b == 48) && (c == 120)) (length ds == 8) q.0 in
    (grind (arith, nat_tests, r.0), (grind (arith, nat_tests, r.0), digits_above ds q.1))

decimals_above : (ds : List ℕ) → list_all is_decimal_digit ds ≡ true → Above 32 ds
decimals_above [] e = tt
decimals_above (d ∷ ds) e =
    let p = and_true (is_decimal_digit d) (list_all is_decimal_digit ds) e in (grind (arith, nat_tests, p.0), decimals_above ds p.1)

decimal_above : (w : List ℕ) → is_decimal w ≡ true → Above 32 w
decimal_above [] e = tt
decimal_above (b ∷ []) e = (grind (arith, nat_tests, e), tt)
decimal_above (b ∷ c ∷ rest) e =
    let p = and_true (nat_lt 48 b) (list_all is_decimal_digit (b ∷ c ∷ rest)) e in decimals_above (b ∷ c ∷ rest) p.1

abbrev layout : Layout
layout = rv_layout false

pub hex_is : (w : List ℕ) (a : ℕ) → hex_word 8 w ≡ Some a → (w ≡ word_text a) × (a < 2 ^ 32)
hex_is w a e =
    let above : AllAbove 32 (codes "byte" ∷ w ∷ codes "0x00" ∷ []) =
    (plain_above (codes "byte") refl, (hex_above w a e, (plain_above (codes "0x00") refl, tt))) in
    let words = words_in_joined (codes "byte") (w ∷ codes "0x00" ∷ []) above in
    let says : line_of layout (joined (codes "byte" ∷ w ∷ codes "0x00" ∷ [])) ≡ Some (ByteLine a 0) =
    ap (line_of_words layout) words ∙ ap (λ o. pair_line ByteLine (both o (hex_word 2 (codes "0x00")))) e in
    let said = line_said layout (joined (codes "byte" ∷ w ∷ codes "0x00" ∷ [])) (ByteLine a 0) says tt in
    let back = words_in_joined (codes "byte") (word_text a ∷ codes "0x00" ∷ [])
    (plain_above (codes "byte") refl, (hex_word_above 8 a, (plain_above (codes "0x00") refl, tt))) in
    (ap (λ (ws : List (List ℕ)). get_or ws 1 []) (sym words ∙ ap words_in said.1 ∙ back), said.0.0)

pub number_is : (w : List ℕ) (n : ℕ) → at_most (2 ^ 64 - 1) (decimal_word w) ≡ Some n → (w ≡ number_text n) × (n < 2 ^ 64)
number_is w n e =
    let above : AllAbove 32 (codes "fails" ∷ codes "assert" ∷ w ∷ place_words 0 0) =
    (plain_above (codes "fails") refl, (plain_above (codes "assert") refl, (number_word_above w n e, place_above 0 0 (omega arith)))) in
    let words = words_in_joined (codes "fails") (codes "assert" ∷ w ∷ place_words 0 0) above in
    let says : line_of layout (joined (codes "fails" ∷ codes "assert" ∷ w ∷ place_words 0 0)) ≡ Some (NamedLine (FailsBy (AssertFails n) 0 0)) =
    ap (line_of_words layout) words
    ∙ ap (λ o. fails_line (event_of_line (codes "assert") o) (place_of (codes "at") (word_text 0) (codes "step") (number_text 0))) e
    ∙ ap (fails_line (Some (AssertFails n))) (place_back 0 0 (omega arith) (omega arith)) in
    let said = line_said layout (joined (codes "fails" ∷ codes "assert" ∷ w ∷ place_words 0 0)) (NamedLine (FailsBy (AssertFails n) 0 0)) says tt in
    let back = words_in_joined (codes "fails") (codes "assert" ∷ number_text n ∷ place_words 0 0)
    (plain_above (codes "fails") refl, (plain_above (codes "assert") refl, (number_above n said.0.0, place_above 0 0 (omega arith)))) in
    (ap (λ (ws : List (List ℕ)). get_or ws 2 []) (sym words ∙ ap words_in said.1 ∙ back), said.0.0)
  where
    number_word_above : (w : List ℕ) (n : ℕ) → at_most (2 ^ 64 - 1) (decimal_word w) ≡ Some n → Above 32 w
    number_word_above w n e = by_test (is_decimal w) refl e
      where
        by_test : (t : Bool) → is_decimal w ≡ t → at_most (2 ^ 64 - 1) (if t then Some (digits_value 10 w) else None) ≡ Some n → Above 32 w
        by_test true is e = decimal_above w is
        by_test false is e = none_is n e

-- within a smaller bound
pub bounded_is : (bound : ℕ) (w : List ℕ) (n : ℕ) → bound < 2 ^ 64 → at_most bound (decimal_word w) ≡ Some n → (w ≡ number_text n) × (n ≤ bound)
bounded_is bound w n small e = by_number (decimal_word w) refl e
  where
    by_number : (o : Option ℕ) → decimal_word w ≡ o → at_most bound o ≡ Some n → (w ≡ number_text n) × (n ≤ bound)
    by_number None is e = none_is n e
    by_number (Some m) is e =
        let p = test_is (nat_le m bound) m n e in
        let low : n ≤ bound = grind (arith, nat_tests, p.0, p.1) in
        let fits : nat_le n (2 ^ 64 - 1) ≡ true = grind (arith, nat_tests) in
        let said = number_is w n
        (ap (at_most (2 ^ 64 - 1)) is ∙ ap (λ k. at_most (2 ^ 64 - 1) (Some k)) p.1 ∙ ap (λ t. if t then Some n else None) fits) in
        (said.0, low)

-- two parts that are both there
pub both_is : (x y : Option ℕ) (p : ℕ × ℕ) → both x y ≡ Some p → (x ≡ Some p.0) × (y ≡ Some p.1)
both_is (Some a) (Some b) p e = let same = some_is (a, b) p e in (ap (λ (q : ℕ × ℕ). Some q.0) same, ap (λ (q : ℕ × ℕ). Some q.1) same)
both_is (Some a) None p e = none_is p e
both_is None y p e = none_is p e

-- the place of a step
pub record IsPlaceSaid (ws : List (List ℕ)) (p : ℕ × ℕ) : Type 0 where
  pub words : ws ≡ place_words p.0 p.1
  pub at : p.0 < 2 ^ 32
  pub step : p.1 ≤ last_step

pub place_is : (at a step n : List ℕ) (p : ℕ × ℕ) → place_of at a step n ≡ Some p → IsPlaceSaid (at ∷ a ∷ step ∷ n ∷ []) p
place_is at a step n p e = by_test (bytes_eq at (codes "at") && bytes_eq step (codes "step")) refl e
  where
    by_test : (t : Bool) → (bytes_eq at (codes "at") && bytes_eq step (codes "step")) ≡ t →
        (if t then both (hex_word 8 a) (at_most last_step (decimal_word n)) else None) ≡ Some p → IsPlaceSaid (at ∷ a ∷ step ∷ n ∷ []) p
    by_test false is e = none_is p e
    by_test true is e =
        let words = and_true (bytes_eq at (codes "at")) (bytes_eq step (codes "step")) is in
        let parts = both_is (hex_word 8 a) (at_most last_step (decimal_word n)) p e in
        let address = hex_is a p.0 parts.0 in
        let number = bounded_is last_step n p.1 (omega arith) parts.1 in
        record {
          words =
              ap (λ x. x ∷ a ∷ step ∷ n ∷ []) ((bytes_eq-Decides at (codes "at")).0 words.0) ∙ ap (λ x. codes "at" ∷ x ∷ step ∷ n ∷ []) address.0
              ∙ ap (λ x. codes "at" ∷ word_text p.0 ∷ x ∷ n ∷ []) ((bytes_eq-Decides step (codes "step")).0 words.1)
              ∙ ap (λ x. codes "at" ∷ word_text p.0 ∷ codes "step" ∷ x ∷ []) number.0;
          at = address.1;
          step = number.1;
        }
