-- Where words stand.
use Rattle.std.proofs.Common.{◌≡◌, ℕ, zero, suc, ◌+◌, ◌-◌, ◌*◌, ◌≤◌, ◌<◌, ◌%◌, ◌^◌, ◌==◌, ◌&&◌, Bool, true, false, List, [], ◌∷◌, length, get_or, Some, None, inl, inr, refl, ap, sym, ◌∙◌, arith, subst, eq-eqb, ne_eqb}
use Rattle.std.specs.Prelude.{Option, nat_lt, not, find, if◌then◌else◌}
use Rattle.std.specs.List.{list_all}
use Rattle.std.proofs.lemmas.Bool.{cases_eq, cases_lt}
use Rattle.std.proofs.lemmas.Bool.Decides.{nat_tests}
use Rattle.word_spec.specs.Memory.{Endian, Little, number}
use Rattle.machine_spec.specs.Machine.{Machine, IsAtPlace, is_place, unit, width, first_half, taken, offsets}
use Rattle.machine_spec.specs.MachineLaws.{IsLawfulMachine}
use Rattle.bilv_spec.specs.Elf.{Segment, Cell, loaded, cell_in, covers, segments, executable}
use Rattle.bilv_spec.proofs.FileWords.{half_of_taken, low_half}
use Rattle.bilv_spec.specs.LiftText.{is_given, is_given_by, is_word_at, word_in, byte_at, offsets_at}
use Rattle.elf32_reader.specs.declared.parts.Part.{Part}
use Rattle.elf32_reader.specs.Portions.{IsFirstPart}
use Rattle.lift_text.specs.declared.candidates.RowBytes.TheVariants.{Two, Four}
use Rattle.lift_text.specs.Found.{IsGivenByte, IsNextPlace, IsWordFound, IsGap}

and_no : (p q : Bool) → q ≡ false → (p && q) ≡ false
and_no true q h = h
and_no false q h = refl

-- no word stands at an address at which no row can stand
pub unaligned : (m : Machine) (file : List ℕ) (a : ℕ) → (IsAtPlace m.narrow a → ⊥) → is_word_at m file a ≡ false
unaligned m file a odd = ap (λ b. b && list_all (λ i. is_given file (a + i)) (offsets_at m file a)) (ne_eqb (a % unit m.narrow) 0 odd)

-- the bytes that are asked after the first two
abbrev rest : Machine → List ℕ → ℕ → List ℕ
rest m file a = if width m.narrow (first_half (word_in m file a)) == 2 then [] else 2 ∷ 3 ∷ []

-- nor where the first or the second byte is not given
pub first_missing : (m : Machine) (file : List ℕ) (a : ℕ) → is_given file (a + 0) ≡ false → is_word_at m file a ≡ false
first_missing m file a h =
    and_no (is_place m.narrow a) (is_given file (a + 0) && list_all (λ i. is_given file (a + i)) (1 ∷ rest m file a))
    (ap (λ b. b && list_all (λ i. is_given file (a + i)) (1 ∷ rest m file a)) h)

pub second_missing : (m : Machine) (file : List ℕ) (a : ℕ) → is_given file (a + 1) ≡ false → is_word_at m file a ≡ false
second_missing m file a h =
    and_no (is_place m.narrow a) (is_given file (a + 0) && list_all (λ i. is_given file (a + i)) (1 ∷ rest m file a))
    (and_no (is_given file (a + 0)) (list_all (λ i. is_given file (a + i)) (1 ∷ rest m file a))
    (ap (λ b. b && list_all (λ i. is_given file (a + i)) (rest m file a)) h))

-- a byte that is not loaded is not given
given_by : (file : List ℕ) (a : ℕ) (s : Option Segment) → cell_in file a s ≡ None → is_given_by a s ≡ false
given_by file a None h = refl
given_by file a (Some s) h = absurd (let f : ⊥ = cc in f)

pub not_loaded : (file : List ℕ) (a : ℕ) → loaded file a ≡ None → is_given file a ≡ false
not_loaded file a = given_by file a (find (covers a) (segments file))

no_word : (m : Machine) (file : List ℕ) (a : ℕ) → is_given file a ≡ false → is_word_at m file a ≡ false
no_word m file a h = let same : a ≡ a + 0 = omega arith in first_missing m file a (subst (λ n. is_given file n ≡ false) same h)

-- the low half of a word whose lowest byte stands first, by its first two bytes
pub half_of_bytes : (f : ℕ → ℕ) (a b : ℕ) → a ≡ f 0 → b ≡ f 1 → a < 256 → b < 256 → first_half (number Little 4 f) ≡ a + b * 256
half_of_bytes f a b p q l k = let half = low_half f in omega (arith, half, p, q, l, k)

wide_or : (b : Bool) (w : ℕ) → w ≡ (if b then 2 else 4) → (w ≡ 2 → ⊥) → w ≡ 4
wide_or true w is other = absurd (other is)
wide_or false w is other = is

all_two : (p x y : Bool) → p ≡ true → x ≡ true → y ≡ true → (p && (x && (y && true))) ≡ true
all_two p x y h i j = ap (λ p. p && (x && (y && true))) h ∙ (ap (λ x. x && (y && true)) i ∙ ap (λ y. y && true) j)

module _ (m : Machine) (laws : IsLawfulMachine m) (file : List ℕ) (at a b : ℕ)
    (first : IsGivenByte file (at + 0) a) (second : IsGivenByte file (at + 1) b) where
  abbrev word : ℕ
  word = number m.endian 4 (λ i. byte_at (loaded file (at + i)))

  abbrev given : ℕ → Bool
  given i = is_given file (at + i)

  -- the length of the row at the address is known by the first two bytes
  pub half : width m.narrow (a + b * 256) ≡ width m.narrow (first_half (word_in m file at))
  half = by_narrow m.narrow refl
    where
      by_narrow : (n : Bool) → m.narrow ≡ n → width m.narrow (a + b * 256) ≡ width m.narrow (first_half (word_in m file at))
      by_narrow false e = ap (λ n. width n (a + b * 256)) e ∙ sym (ap (λ n. width n (first_half (word_in m file at))) e)
      by_narrow true e =
          let low : first_half word ≡ a + b * 256 =
          subst (λ (e : Endian). first_half (number e 4 (λ i. byte_at (loaded file (at + i)))) ≡ a + b * 256) (sym (laws.little e))
          (half_of_bytes (λ i. byte_at (loaded file (at + i))) a b first.value second.value first.small second.small) in
          ap (width m.narrow) (sym (half_of_taken m.narrow word ∙ low))

  -- a row of 2 bytes
  pub two_found : IsAtPlace m.narrow at → width m.narrow (a + b * 256) ≡ 2 → IsWordFound m file at (Two (a ∷ b ∷ []))
  two_found place two =
      let wide : width m.narrow (first_half (word_in m file at)) ≡ 2 = sym half ∙ two in
      record {
        word =
            ap (λ w. is_place m.narrow at && list_all given (offsets w)) wide
            ∙ all_two (is_place m.narrow at) (given 0) (given 1) (eq-eqb (at % unit m.narrow) 0 place) first.given second.given;
        count = refl;
        wide = wide;
        each = by_byte;
        small = by_size;
      }
    where
      by_size : (i : ℕ) → i < 2 → get_or (a ∷ b ∷ []) i 0 < 256
      by_size zero l = first.small
      by_size (suc zero) l = second.small
      by_size (suc (suc i)) l = absurd (omega arith)

      by_byte : (i : ℕ) → i < 2 → get_or (a ∷ b ∷ []) i 0 ≡ byte_at (loaded file (at + i))
      by_byte zero l = first.value
      by_byte (suc zero) l = second.value
      by_byte (suc (suc i)) l = absurd (omega arith)

  module _ (not_two : width m.narrow (a + b * 256) ≡ 2 → ⊥) where
    wide_four : width m.narrow (first_half (word_in m file at)) ≡ 4
    wide_four = sym half ∙ wide_or (m.narrow && not ((a + b * 256) % 4 == 3)) (width m.narrow (a + b * 256)) refl not_two

    abbrev asked : Bool
    asked = is_place m.narrow at && list_all given (0 ∷ 1 ∷ 2 ∷ 3 ∷ [])

    asked_is : is_word_at m file at ≡ asked
    asked_is = ap (λ w. is_place m.narrow at && list_all given (offsets w)) wide_four

    pub third_missing : given 2 ≡ false → is_word_at m file at ≡ false
    third_missing h =
        asked_is
        ∙ and_no (is_place m.narrow at) (list_all given (0 ∷ 1 ∷ 2 ∷ 3 ∷ []))
        (and_no (given 0) (list_all given (1 ∷ 2 ∷ 3 ∷ [])) (and_no (given 1) (list_all given (2 ∷ 3 ∷ [])) (ap (λ b. b && list_all given (3 ∷ [])) h)))

    pub fourth_missing : given 3 ≡ false → is_word_at m file at ≡ false
    fourth_missing h =
        asked_is
        ∙ and_no (is_place m.narrow at) (list_all given (0 ∷ 1 ∷ 2 ∷ 3 ∷ []))
        (and_no (given 0) (list_all given (1 ∷ 2 ∷ 3 ∷ []))
        (and_no (given 1) (list_all given (2 ∷ 3 ∷ [])) (and_no (given 2) (list_all given (3 ∷ [])) (ap (λ b. b && true) h))))

    -- a row of 4 bytes
    pub four_found : (c d : ℕ) → IsAtPlace m.narrow at → IsGivenByte file (at + 2) c → IsGivenByte file (at + 3) d →
        IsWordFound m file at (Four (a ∷ b ∷ c ∷ d ∷ []))
    four_found c d place third fourth =
        record {
          word =
              asked_is
              ∙ (ap (λ p. p && list_all given (0 ∷ 1 ∷ 2 ∷ 3 ∷ [])) (eq-eqb (at % unit m.narrow) 0 place)
              ∙ (ap (λ x. x && list_all given (1 ∷ 2 ∷ 3 ∷ [])) first.given
              ∙ all_two (given 1) (given 2) (given 3) second.given third.given fourth.given));
          count = refl;
          wide = wide_four;
          each = by_byte;
          small = by_size;
        }
      where
        by_size : (i : ℕ) → i < 4 → get_or (a ∷ b ∷ c ∷ d ∷ []) i 0 < 256
        by_size zero l = first.small
        by_size (suc zero) l = second.small
        by_size (suc (suc zero)) l = third.small
        by_size (suc (suc (suc zero))) l = fourth.small
        by_size (suc (suc (suc (suc i)))) l = absurd (omega arith)

        by_byte : (i : ℕ) → i < 4 → get_or (a ∷ b ∷ c ∷ d ∷ []) i 0 ≡ byte_at (loaded file (at + i))
        by_byte zero l = first.value
        by_byte (suc zero) l = second.value
        by_byte (suc (suc zero)) l = third.value
        by_byte (suc (suc (suc zero))) l = fourth.value
        by_byte (suc (suc (suc (suc i)))) l = absurd (omega arith)

-- no word stands before the next place from a number on, where none stands before that number
pub gap : (m : Machine) (file : List ℕ) (n : Bool) (at from next : ℕ) → n ≡ m.narrow → at < from → IsNextPlace n from next →
    ((a : ℕ) → at ≤ a → a < from → is_word_at m file a ≡ false) → IsGap m file at next
gap m file n at from next same later found none =
    let place : IsNextPlace m.narrow from next = subst (λ (n : Bool). IsNextPlace n from next) same found in
    let behind = place.behind in
    record {
      later = omega arith;
      within = place.within;
      aligned = place.aligned;
      none = λ a low high. elim (cases_lt a from) as (λ _. is_word_at m file a ≡ false) [
        | inl less ↦ none a low less
        | inr more ↦ unaligned m file a (place.first a more high)
      ];
    }

-- before a part nothing is given
pub before_part : (m : Machine) (file : List ℕ) (at : ℕ) (part : Part) → IsFirstPart file at part → (a : ℕ) → at ≤ a → a < part.first → is_word_at m file a ≡ false
before_part m file at part is a low high = no_word m file a (not_loaded file a (is.gap a low high))

none_given : (flags n k : ℕ) → (flags % 2 ≡ 1 → n ≡ 0) → (executable flags && nat_lt k n) ≡ false
none_given flags n k none =
    elim (cases_eq (flags % 2) 1) as (λ _. (executable flags && nat_lt k n) ≡ false) [
      | inl odd ↦ let empty : n ≡ 0 = none odd in let over : nat_lt k n ≡ false = grind (arith, nat_tests) in and_no (executable flags) (nat_lt k n) over
      | inr even ↦ ap (λ b. b && nat_lt k n) (ne_eqb (flags % 2) 1 even)
    ]

-- nor in a part without executable bytes of the file
pub empty_part : (m : Machine) (file : List ℕ) (at : ℕ) (part : Part) → IsFirstPart file at part → (part.flags % 2 ≡ 1 → length part.bytes.now ≡ 0) → (a : ℕ) →
    at ≤ a → a < part.last + 1 → is_word_at m file a ≡ false
empty_part m file at part is empty a low high =
    elim (cases_lt a part.first) as (λ _. is_word_at m file a ≡ false) [
      | inl less ↦ before_part m file at part is a low less
      | inr more ↦ no_word m file a (is.given a more (omega arith) ∙ none_given part.flags (length part.bytes.now) (a - part.first) empty)
    ]

-- nor where no address is loaded
pub nothing_loaded : (m : Machine) (file : List ℕ) (at : ℕ) → at < 2 ^ 32 → IsAtPlace m.narrow (2 ^ 32) → ((x : ℕ) → at ≤ x → loaded file x ≡ None) →
    IsGap m file at (2 ^ 32)
nothing_loaded m file at small place none = record {
  later = small;
  within = omega arith;
  aligned = place;
  none = λ a low high. no_word m file a (not_loaded file a (none a low));
}

-- nor at a single address
pub none_at : (m : Machine) (file : List ℕ) (at : ℕ) → is_word_at m file at ≡ false → (a : ℕ) → at ≤ a → a < at + 1 → is_word_at m file a ≡ false
none_at m file at h a low high = let same : at ≡ a = omega arith in subst (λ n. is_word_at m file n ≡ false) same h
