-- The symbols of what contract steps are given: they are words, each is of one point, and no other symbol is one of them.
use Rattle.std.proofs.Common.{◌≡◌, ℕ, zero, suc, ◌+◌, ◌-◌, ◌^◌, ◌<◌, ◌≤◌, refl, ap, sym, ◌∙◌, arith, true, false, Bool, List, [], ◌∷◌, ◌++◌, Some, map, append_assoc}
use Rattle.std.specs.Prelude.{◌==◌, ◌||◌, codes, if◌then◌else◌, slice_index}
use Rattle.std.specs.List.{list_all}
use Rattle.std.specs.Option.{option_map}
use Rattle.std.specs.Str.{bytes_eq}
use Rattle.std.specs.Str.Parse.{AllDigits}
use Rattle.std.proofs.lemmas.Fmt.{decimal_is_IsNumeral, decimal_injective}
use Rattle.std.proofs.lemmas.List.Folds.{list_all-append}
use Rattle.std.proofs.lemmas.Str.Parse.{digit_from_value}
use Rattle.machine_spec.specs.StateText.{place_in}
use Rattle.machine_spec.proofs.Spelling.{same_number, same_text}
use Rattle.word_spec.specs.Texts.{number_text}
use Rattle.frame_spec.specs.FrameScripts.{given_prefix, of_given}
use Rattle.smtlib_print.specs.Commands.{part_prefix, prefix_in}
use Rattle.smtlib_print.specs.Printable.{HasSymbols}
use Rattle.smtlib_print.proofs.Defined.{among}
use Rattle.smtlib_print.proofs.Drawn.{or_true}
use Rattle.smtlib_print.proofs.Names.{number_inner, other_text, text_of}
use Rattle.smtlib_print.proofs.ReadBack.{is_inner, is_word}

-- what symbols of a part begin with
pub low_prefix : (numbers : List ℕ) (p : ℕ) → p < 2 → part_prefix p ≡ prefix_in numbers p
low_prefix numbers zero l = refl
low_prefix numbers (suc zero) l = refl
low_prefix numbers (suc (suc p)) l = absurd (omega (arith, l))

pub high_prefix : (numbers : List ℕ) (p i n : ℕ) → 2 ≤ p → i ≡ p - 2 → n ≡ slice_index numbers i → given_prefix n ≡ prefix_in numbers p
high_prefix numbers zero i n l e f = absurd (omega (arith, l))
high_prefix numbers (suc zero) i n l e f = absurd (omega (arith, l))
high_prefix numbers (suc (suc p)) i n l e f =
    let z : i ≡ p = omega (arith, e) in ap given_prefix (f ∙ ap (slice_index numbers) z)

pub high_within : (count p : ℕ) → HasSymbols count p → 2 ≤ p → p - 2 < count
high_within count zero h l = absurd (omega (arith, l))
high_within count (suc zero) h l = absurd (omega (arith, l))
high_within count (suc (suc p)) h l = omega (arith, h)

-- two texts with one beginning
prefix_same : (p v w : List ℕ) → bytes_eq (p ++ v) (p ++ w) ≡ bytes_eq v w
prefix_same [] v w = refl
prefix_same (b ∷ p) v w = rw (same_number b) (prefix_same p v w)

-- a symbol is a word
pub given_word : (n : ℕ) (w : List ℕ) → n < 2 ^ 64 → list_all is_inner w ≡ true → is_word (of_given n w) ≡ true
given_word n w h k =
    list_all-append is_inner (number_text n ++ codes "_") w
    ∙ rw (list_all-append is_inner (number_text n) (codes "_"), number_inner n h) k

heads : (a b : ℕ) (s t : List ℕ) → a ∷ s ≡ b ∷ t → (a ≡ b) × (s ≡ t)
heads a b s t e = ((cc), (cc))

-- digits end where an underscore stands
digits_end : (ds es v w : List ℕ) → AllDigits 10 ds → AllDigits 10 es → ds ++ 95 ∷ v ≡ es ++ 95 ∷ w → ds ≡ es
digits_end [] [] v w d e h = refl
digits_end [] (b ∷ es) v w d e h = absurd (let k = digit_from_value b e.0 in let z : 95 ≡ b = (heads 95 b v (es ++ 95 ∷ w) h).0 in omega (arith, k, z))
digits_end (a ∷ ds) [] v w d e h = absurd (let k = digit_from_value a d.0 in let z : a ≡ 95 = (heads a 95 (ds ++ 95 ∷ v) w h).0 in omega (arith, k, z))
digits_end (a ∷ ds) (b ∷ es) v w d e h =
    let q = heads a b (ds ++ 95 ∷ v) (es ++ 95 ∷ w) h in
    ap (λ c. c ∷ ds) q.0 ∙ ap (λ l. b ∷ l) (digits_end ds es v w d.1 e.1 q.1)

-- so a symbol has one number
pub given_number : (m n : ℕ) (v w : List ℕ) → m < 2 ^ 64 → n < 2 ^ 64 → of_given m v ≡ of_given n w → m ≡ n
given_number m n v w h k e =
    let q = (heads 103 103 ((number_text m ++ codes "_") ++ v) ((number_text n ++ codes "_") ++ w) e).1 in
    decimal_injective m n h k
    (digits_end (number_text m) (number_text n) v w (decimal_is_IsNumeral m h).0.1 (decimal_is_IsNumeral n k).0.1
    (sym (append_assoc (number_text m) (codes "_") v) ∙ q ∙ append_assoc (number_text n) (codes "_") w))

pub other_given : (m n : ℕ) (v w : List ℕ) → m < 2 ^ 64 → n < 2 ^ 64 → (m ≡ n → ⊥) → bytes_eq (of_given m v) (of_given n w) ≡ false
other_given m n v w h k d = other_text (of_given m v) (of_given n w) (λ e. d (given_number m n v w h k e))

-- names and symbols of one point
pub same_given : (n : ℕ) (v w : List ℕ) → bytes_eq (of_given n v) (of_given n w) ≡ bytes_eq v w
same_given n v w = prefix_same (given_prefix n) v w

pub place_given : (n : ℕ) (names : List (List ℕ)) (w : List ℕ) → place_in (map (of_given n) names) (of_given n w) ≡ place_in names w
place_given n [] w = refl
place_given n (v ∷ names) w =
    ap (λ b. if b then Some 0 else option_map (λ i. i + 1) (place_in (map (of_given n) names) (of_given n w))) (same_given n w v)
    ∙ ap (λ o. if bytes_eq w v then Some 0 else option_map (λ i. i + 1) o) (place_given n names w)

pub among_given : (n : ℕ) (names : List (List ℕ)) (w : List ℕ) → among (map (of_given n) names) (of_given n w) ≡ among names w
among_given n [] w = refl
among_given n (v ∷ names) w =
    ap (λ b. b || among (map (of_given n) names) (of_given n w)) (same_given n w v) ∙ ap (λ b. bytes_eq w v || b) (among_given n names w)

-- none is one of another point
pub among_other : (m n : ℕ) (names : List (List ℕ)) (w : List ℕ) → m < 2 ^ 64 → n < 2 ^ 64 → (m ≡ n → ⊥) →
    among (map (of_given m) names) (of_given n w) ≡ false
among_other m n [] w h k d = refl
among_other m n (v ∷ names) w h k d = rw (other_given n m w v k h (λ e. d (sym e))) (among_other m n names w h k d)

-- one of them is that of a name
pub record IsOfNames (n : ℕ) (names : List (List ℕ)) (w : List ℕ) : Type 0 where
  pub name : List ℕ
  pub is : w ≡ of_given n name
  pub listed : among names name ≡ true

pub of_names : (n : ℕ) (names : List (List ℕ)) (w : List ℕ) → among (map (of_given n) names) w ≡ true → IsOfNames n names w
of_names n [] w h = absurd (cc h)
of_names n (v ∷ names) w h = by (bytes_eq w (of_given n v)) refl (of_names n names w) h
  where
    by : (b : Bool) → bytes_eq w (of_given n v) ≡ b → (among (map (of_given n) names) w ≡ true → IsOfNames n names w) →
        (b || among (map (of_given n) names) w) ≡ true → IsOfNames n (v ∷ names) w
    by true e more h = record { name = v; is = text_of w (of_given n v) e; listed = rw (same_text v) refl }
    by false e more h =
        let q = more h in record { name = q.name; is = q.is; listed = or_true (bytes_eq q.name v) (among names q.name) q.listed }

-- names that begin with another letter are none
pub letter_none : (b n : ℕ) (v : List ℕ) (names : List (List ℕ)) → (b == 103) ≡ false → among (map (of_given n) names) (b ∷ v) ≡ false
letter_none b n v [] h = refl
letter_none b n v (w ∷ names) h = rw h (letter_none b n v names h)
