-- The lines of a state text are read back.
use Rattle.std.proofs.Common.{◌≡◌, ℕ, zero, suc, ◌-◌, ◌^◌, ◌<◌, ◌≤◌, refl, ap, ◌∙◌, arith, Bool, true, false, List, [], ◌∷◌, Option, Some, None, length, get_or, ⊎_elim}
use Rattle.std.specs.Fmt.{digits}
use Rattle.std.proofs.Math.Nat.{eq-or-lt_of_le}
use Rattle.std.specs.Prelude.{◌&&◌, not, nat_lt, nat_le, codes}
use Rattle.std.specs.List.{list_all}
use Rattle.std.specs.Str.{bytes_eq}
use Rattle.std.proofs.lemmas.Bool.Decides.{nat_tests}
use Rattle.word_spec.specs.Memory.{Endian, Little, Big}
use Rattle.machine_spec.specs.Endings.{AssertFails, FetchFails, NoRow, HalfwordFails, CodeWritten, Trapped, AlignFails, JumpFails, EnsureFails, NamedEnding, FailsBy, UnknownBy, named_words, place_words}
use Rattle.word_spec.specs.Texts.{word_text, number_text, joined, words_in, decimal_word, at_most}
use Rattle.word_spec.specs.Profiles.{Profile, V4, V4T, V5}
use Rattle.machine_spec.specs.StateText.{Layout, rv_layout, arm_layout, IsNamed, StateLine, NamedLine, MachineLine, RegisterLine, ByteLine, ChoiceLine, EndLine, value_names, value_text, words_of_line, line_of, line_of_words, place_in, place_of, last_step, value_of, register_line}
use Rattle.machine_spec.proofs.Spelling.{same_text, Above, AllAbove, words_in_joined, joined_above, number_above, decimal_back, hex_back, hex_word_above}

-- the two parts of a test
pub and_true : (a b : Bool) → (a && b) ≡ true → (a ≡ true) × (b ≡ true)
and_true true true e = (refl, refl)
and_true true false e = (refl, e)
and_true false b e = let x : false ≡ true = e in cc

-- the word is none of those that begin other lines
abbrev pub is_free : List ℕ → Bool
is_free w =
    not (bytes_eq w (codes "fails")) && not (bytes_eq w (codes "unknown")) && not (bytes_eq w (codes "state")) && not (bytes_eq w (codes "byte"))
    && not (bytes_eq w (codes "choice")) && not (bytes_eq w (codes "end"))

-- the place is found
abbrev pub is_place : Option ℕ → ℕ → Bool
is_place None i = false
is_place (Some j) i = nat_le i j && nat_le j i

-- every byte is above the blank
abbrev pub is_plain : List ℕ → Bool
is_plain w = list_all (λ b. nat_lt 32 b) w

-- the name at a place is a word of its own that is found there
abbrev pub fits : Layout → ℕ → Bool
fits layout i =
    is_plain (get_or (value_names layout) i []) && (is_free (get_or (value_names layout) i []) &&
    is_place (place_in (value_names layout) (get_or (value_names layout) i [])) i)

abbrev pub all_below : (ℕ → Bool) → ℕ → Bool
all_below f zero = true
all_below f (suc n) = f n && all_below f n

each_below : (f : ℕ → Bool) (n i : ℕ) → all_below f n ≡ true → i < n → f i ≡ true
each_below f zero i e h = absurd (omega arith)
each_below f (suc n) i e h =
    let p = and_true (f n) (all_below f n) e in
    ⊎_elim (λ same. ap f same ∙ p.0) (λ less. each_below f n i p.1 less) (eq-or-lt_of_le {n = i} {m = n} (omega arith))

-- a layout whose names are apart from each other and from the words of other lines
pub record IsLayout (layout : Layout) : Type 0 where
  pub machine : is_plain layout.machine ≡ true
  pub names : all_below (fits layout) (length (value_names layout)) ≡ true

pub rv_is_layout : (compressed : Bool) → IsLayout (rv_layout compressed)
unfolding digits
rv_is_layout true = record { machine = refl; names = refl }
rv_is_layout false = record { machine = refl; names = refl }

pub arm_is_layout : (e : Endian) (profile : Profile) → IsLayout (arm_layout e profile)
unfolding digits
arm_is_layout Little V4 = record { machine = refl; names = refl }
arm_is_layout Little V4T = record { machine = refl; names = refl }
arm_is_layout Little V5 = record { machine = refl; names = refl }
arm_is_layout Big V4 = record { machine = refl; names = refl }
arm_is_layout Big V4T = record { machine = refl; names = refl }
arm_is_layout Big V5 = record { machine = refl; names = refl }

plain_above : (w : List ℕ) → is_plain w ≡ true → Above 32 w
plain_above [] e = tt
plain_above (b ∷ w) e = let p = and_true (nat_lt 32 b) (is_plain w) e in (grind (arith, nat_tests, p.0), plain_above w p.1)

-- a line that can be written
abbrev pub IsBounded : Layout → StateLine → Type 0
IsBounded layout (NamedLine n) = IsNamed n
IsBounded layout MachineLine = Unit {0}
IsBounded layout (RegisterLine i v) = (i < length (value_names layout)) × (i < length layout.registers → v < 2 ^ 32) × (length layout.registers ≤ i → v ≤ 1)
IsBounded layout (ByteLine a v) = (a < 2 ^ 32) × (v < 256)
IsBounded layout (ChoiceLine s c) = (s ≤ last_step) × (c < 2 ^ 64)
IsBounded layout EndLine = Unit {0}

-- numbers and places
at_most_back : (bound n : ℕ) → n ≤ bound → bound < 2 ^ 64 → at_most bound (decimal_word (number_text n)) ≡ Some n
at_most_back bound n h small = let t : nat_le n bound ≡ true = grind (arith, nat_tests) in rw (decimal_back n (omega arith), t) refl

place_back : (at step : ℕ) → at < 2 ^ 32 → step ≤ last_step → place_of (codes "at") (word_text at) (codes "step") (number_text step) ≡ Some (at, step)
place_back at step h k = rw (hex_back 8 at h, at_most_back last_step step k (omega arith)) refl

-- the words of a line are read back
named_back : (layout : Layout) (n : NamedEnding) → IsNamed n → line_of_words layout (named_words n) ≡ Some (NamedLine n)
named_back layout (FailsBy (AssertFails m) at step) b = rw (at_most_back (2 ^ 64 - 1) m (omega (arith, b.0)) (omega arith), place_back at step b.1 b.2) refl
named_back layout (FailsBy FetchFails at step) b = rw (place_back at step b.1 b.2) refl
named_back layout (FailsBy NoRow at step) b = rw (place_back at step b.1 b.2) refl
named_back layout (FailsBy HalfwordFails at step) b = rw (place_back at step b.1 b.2) refl
named_back layout (FailsBy CodeWritten at step) b = rw (place_back at step b.1 b.2) refl
named_back layout (FailsBy Trapped at step) b = rw (place_back at step b.1 b.2) refl
named_back layout (FailsBy AlignFails at step) b = rw (place_back at step b.1 b.2) refl
named_back layout (FailsBy JumpFails at step) b = rw (place_back at step b.1 b.2) refl
named_back layout (FailsBy (EnsureFails m) at step) b = rw (at_most_back (2 ^ 64 - 1) m (omega (arith, b.0)) (omega arith), place_back at step b.1 b.2) refl
named_back layout (UnknownBy k at step) b = rw (at_most_back 4096 k b.0 (omega arith), place_back at step b.1 b.2) refl

-- a word that begins no other line is a register's or a flag's
free_word : (layout : Layout) (w : List ℕ) (ws : List (List ℕ)) → is_free w ≡ true →
    line_of_words layout (w ∷ ws) ≡ register_line layout (place_in (value_names layout) w) ws
free_word layout w ws e = grind (arith, nat_tests)

-- a value is read back
value_back : (layout : Layout) (i v : ℕ) → (i < length layout.registers → v < 2 ^ 32) → (length layout.registers ≤ i → v ≤ 1) →
    value_of layout i (value_text layout i v) ≡ Some v
value_back layout i v word digit = by_test (nat_lt i (length layout.registers)) refl
  where
    by_test : (b : Bool) → nat_lt i (length layout.registers) ≡ b → value_of layout i (value_text layout i v) ≡ Some v
    by_test true e = rw (e, hex_back 8 v (word (grind (arith, nat_tests, e)))) refl
    by_test false e = rw (e, at_most_back 1 v (digit (grind (arith, nat_tests, e))) (omega arith)) refl

place_found : (o : Option ℕ) (i : ℕ) → is_place o i ≡ true → o ≡ Some i
place_found None i e = let x : false ≡ true = e in cc
place_found (Some j) i e = let p = and_true (nat_le i j) (nat_le j i) e in let same : j ≡ i = grind (arith, nat_tests, p.0, p.1) in ap Some same

module _ (layout : Layout) (good : IsLayout layout) where
  name_fits : (i : ℕ) → i < length (value_names layout) → fits layout i ≡ true
  name_fits i h = each_below (fits layout) (length (value_names layout)) i good.names h

  register_back : (i v : ℕ) → IsBounded layout (RegisterLine i v) → line_of_words layout (words_of_line layout (RegisterLine i v)) ≡ Some (RegisterLine i v)
  register_back i v b =
      let name = get_or (value_names layout) i [] in
      let p = and_true (is_plain name) (is_free name && is_place (place_in (value_names layout) name) i) (name_fits i b.0) in
      let q = and_true (is_free name) (is_place (place_in (value_names layout) name) i) p.1 in
      free_word layout name (value_text layout i v ∷ []) q.0
      ∙ rw (place_found (place_in (value_names layout) name) i q.1, value_back layout i v b.1 b.2) refl

  words_back : (l : StateLine) → IsBounded layout l → line_of_words layout (words_of_line layout l) ≡ Some l
  words_back (NamedLine n) b = named_back layout n b
  words_back MachineLine b = rw (same_text layout.machine) refl
  words_back (RegisterLine i v) b = register_back i v b
  words_back (ByteLine a v) b = rw (hex_back 8 a b.0, hex_back 2 v b.1) refl
  words_back (ChoiceLine s c) b = rw (at_most_back last_step s b.0 (omega arith), decimal_back c b.1) refl
  words_back EndLine b = refl

  place_above : (at step : ℕ) → step ≤ last_step → AllAbove 32 (place_words at step)
  place_above at step h = (plain_above (codes "at") refl, (hex_word_above 8 at, (plain_above (codes "step") refl, (number_above step (omega arith), tt))))

  named_above : (n : NamedEnding) → IsNamed n → AllAbove 32 (named_words n)
  named_above (FailsBy (AssertFails m) at step) b = (
    plain_above (codes "fails") refl,
    (plain_above (codes "assert") refl, (number_above m b.0, place_above at step b.2)),
  )
  named_above (FailsBy FetchFails at step) b = (plain_above (codes "fails") refl, (plain_above (codes "fetch") refl, place_above at step b.2))
  named_above (FailsBy NoRow at step) b = (plain_above (codes "fails") refl, (plain_above (codes "norow") refl, place_above at step b.2))
  named_above (FailsBy HalfwordFails at step) b = (plain_above (codes "fails") refl, (plain_above (codes "halfword") refl, place_above at step b.2))
  named_above (FailsBy CodeWritten at step) b = (plain_above (codes "fails") refl, (plain_above (codes "codewrite") refl, place_above at step b.2))
  named_above (FailsBy Trapped at step) b = (plain_above (codes "fails") refl, (plain_above (codes "trap") refl, place_above at step b.2))
  named_above (FailsBy AlignFails at step) b = (plain_above (codes "fails") refl, (plain_above (codes "align") refl, place_above at step b.2))
  named_above (FailsBy JumpFails at step) b = (plain_above (codes "fails") refl, (plain_above (codes "jump") refl, place_above at step b.2))
  named_above (FailsBy (EnsureFails m) at step) b = (
    plain_above (codes "fails") refl,
    (plain_above (codes "ensure") refl, (number_above m b.0, place_above at step b.2)),
  )
  named_above (UnknownBy k at step) b =
      (plain_above (codes "unknown") refl, (plain_above (codes "unroll") refl, (number_above k (omega (arith, b.0)), place_above at step b.2)))

  value_above : (i v : ℕ) → (length layout.registers ≤ i → v ≤ 1) → Above 32 (value_text layout i v)
  value_above i v digit = by_test (nat_lt i (length layout.registers)) refl
    where
      by_test : (b : Bool) → nat_lt i (length layout.registers) ≡ b → Above 32 (value_text layout i v)
      by_test true e = rw e (hex_word_above 8 v)
      by_test false e = rw e (number_above v (omega (arith, digit (grind (arith, nat_tests, e)))))

  words_above : (l : StateLine) → IsBounded layout l → AllAbove 32 (words_of_line layout l)
  words_above (NamedLine n) b = named_above n b
  words_above MachineLine b = (plain_above (codes "state") refl, (plain_above layout.machine good.machine, tt))
  words_above (RegisterLine i v) b =
      let name = get_or (value_names layout) i [] in
      let p = and_true (is_plain name) (is_free name && is_place (place_in (value_names layout) name) i) (name_fits i b.0) in
      (plain_above name p.0, (value_above i v b.2, tt))
  words_above (ByteLine a v) b = (plain_above (codes "byte") refl, (hex_word_above 8 a, (hex_word_above 2 v, tt)))
  words_above (ChoiceLine s c) b = (plain_above (codes "choice") refl, (number_above s (omega (arith, b.0)), (number_above c b.1, tt)))
  words_above EndLine b = (plain_above (codes "end") refl, tt)

  some_words : (l : StateLine) → 0 < length (words_of_line layout l)
  some_words (NamedLine (FailsBy e at step)) = omega arith
  some_words (NamedLine (UnknownBy k at step)) = omega arith
  some_words MachineLine = omega arith
  some_words (RegisterLine i v) = omega arith
  some_words (ByteLine a v) = omega arith
  some_words (ChoiceLine s c) = omega arith
  some_words EndLine = omega arith

  -- a line's text is read back, and has no line feed
  pub line_back : (l : StateLine) → IsBounded layout l → line_of layout (joined (words_of_line layout l)) ≡ Some l
  line_back l b = ap (line_of_words layout) (joined_back (words_of_line layout l) (some_words l) (words_above l b)) ∙ words_back l b
    where
      joined_back : (ws : List (List ℕ)) → 0 < length ws → AllAbove 32 ws → words_in (joined ws) ≡ ws
      joined_back [] some p = absurd (omega arith)
      joined_back (w ∷ ws) some p = words_in_joined w ws p

  pub line_above : (l : StateLine) → IsBounded layout l → Above 31 (joined (words_of_line layout l))
  line_above l b = joined_is_above (words_of_line layout l) (words_above l b)
    where
      joined_is_above : (ws : List (List ℕ)) → AllAbove 32 ws → Above 31 (joined ws)
      joined_is_above [] p = tt
      joined_is_above (w ∷ ws) p = joined_above w ws p
