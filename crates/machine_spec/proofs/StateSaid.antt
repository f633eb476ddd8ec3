-- What a line of a state text says is what is written of it.
use Rattle.std.proofs.Common.{◌≡◌, ℕ, suc, ◌+◌, ◌-◌, ◌*◌, ◌/◌, ◌%◌, ◌^◌, ◌<◌, ◌≤◌, refl, ap, sym, ◌∙◌, subst, arith, Bool, true, false, List, [], ◌∷◌, ◌++◌, Option, Some, None, length, get_or, ◌≢◌, append_assoc, zero-add, add-zero}
use Rattle.std.specs.Prelude.{◌==◌, ◌&&◌, nat_lt, nat_le, codes, if◌then◌else◌}
use Rattle.std.specs.List.{list_all}
use Rattle.std.specs.Option.{option_map}
use Rattle.std.specs.Str.{bytes_eq}
use Rattle.std.specs.Str.Parse.{AllDigits, digits_value, digits_value_after}
use Rattle.std.specs.Char.{digit_value}
use Rattle.std.proofs.Math.Numerals.{add-one}
use Rattle.std.proofs.lemmas.Bool.Decides.{nat_tests}
use Rattle.std.proofs.lemmas.Slice.Eq.{bytes_eq-Decides}
use Rattle.std.proofs.lemmas.Str.Parse.{numerals_by_value, tells_digits}
use Rattle.std.proofs.lemmas.Fmt.{decimal-digits_value}
use Rattle.std.proofs.lemmas.Int.Digits.{digits_value-lt}
use Rattle.machine_spec.specs.Endings.{Event, AssertFails, FetchFails, NoRow, HalfwordFails, CodeWritten, Trapped, AlignFails, JumpFails, EnsureFails, FailsBy, UnknownBy, event_words, place_words}
use Rattle.word_spec.specs.Texts.{hex_digit, hex_digits, word_text, number_text, spaced, joined, in_front, words_in, is_decimal_digit, is_hex_digit, is_decimal, decimal_word, hex_word, at_most}
use Rattle.machine_spec.specs.StateText.{Layout, IsEvent, StateLine, NamedLine, MachineLine, RegisterLine, ByteLine, ChoiceLine, EndLine, value_names, value_text, words_of_line, line_of, line_of_words, place_in, place_of, both, last_step, event_of_word, event_of_line, fails_line, unknown_line, pair_line, after_fails, after_unknown, after_state, after_byte, after_choice, after_end, value_of, register_line}
use Rattle.machine_spec.proofs.StateLines.{and_true, IsBounded}
use Rattle.machine_spec.proofs.StateBack.{append-nil}

-- the words of a text, joined, are the text
words_some : (text : List ℕ) → 0 < length (words_in text)
words_some [] = omega arith
words_some (b ∷ rest) = by_test (b == 32) (words_in rest)
  where
    by_test : (t : Bool) (ws : List (List ℕ)) → 0 < length (if t then [] ∷ ws else in_front b ws)
    by_test true ws = omega arith
    by_test false [] = omega arith
    by_test false (w ∷ ws) = omega arith

joined_front : (b : ℕ) (ws : List (List ℕ)) → joined (in_front b ws) ≡ b ∷ joined ws
joined_front b [] = refl
joined_front b (w ∷ ws) = refl

spaced_some : (ws : List (List ℕ)) → 0 < length ws → spaced ws ≡ 32 ∷ joined ws
spaced_some [] some = absurd (omega arith)
spaced_some (w ∷ ws) some = refl

pub joined_words : (text : List ℕ) → joined (words_in text) ≡ text
joined_words [] = refl
joined_words (b ∷ rest) = by_test (b == 32) refl (joined_words rest)
  where
    by_test : (t : Bool) → (b == 32) ≡ t → joined (words_in rest) ≡ rest → joined (words_in (b ∷ rest)) ≡ b ∷ rest
    by_test true e known =
        let same : 32 ≡ b = grind (arith, nat_tests, e) in
        rw e (spaced_some (words_in rest) (words_some rest) ∙ ap (λ x. 32 ∷ x) known ∙ ap (λ x. x ∷ rest) same)
    by_test false e known = rw e (joined_front b (words_in rest) ∙ ap (λ x. b ∷ x) known)

-- numbers
if_some : {A : Type 0} (b : Bool) (x y : A) → (if b then Some x else None) ≡ Some y → (b ≡ true) × (x ≡ y)
if_some true x y e = (refl, cc)
if_some false x y e = absurd (let z : ◌≡◌ {A = Option _} None (Some y) = e in cc)

decimal_digit_value : (b : ℕ) → is_decimal_digit b ≡ true → digit_value b < 10
decimal_digit_value b e = grind (arith, nat_tests)

all_digits : (w : List ℕ) → list_all is_decimal_digit w ≡ true → AllDigits 10 w
all_digits [] e = tt
all_digits (b ∷ w) e = let p = and_true (is_decimal_digit b) (list_all is_decimal_digit w) e in (decimal_digit_value b p.0, all_digits w p.1)

decimal_parts : (w : List ℕ) → is_decimal w ≡ true → AllDigits 10 w × (0 < length w) × (get_or w 0 0 ≡ 48 → length w ≡ 1)
decimal_parts [] e = absurd (let z : false ≡ true = e in cc)
decimal_parts (b ∷ []) e = ((decimal_digit_value b e, tt), omega arith, λ _. refl)
decimal_parts (b ∷ c ∷ rest) e =
    let p = and_true (nat_lt 48 b) (list_all is_decimal_digit (b ∷ c ∷ rest)) e in
    (all_digits (b ∷ c ∷ rest) p.1, omega arith, λ same. absurd (grind (arith, nat_tests, p.0)))

decimal_said : (w : List ℕ) (v : ℕ) → decimal_word w ≡ Some v → v < 2 ^ 64 → w ≡ number_text v
decimal_said w v e small =
    let p = if_some (is_decimal w) (digits_value 10 w) v e in
    let q = decimal_parts w p.0 in
    sym (decimal-digits_value (numerals_by_value (AllDigits 10) tells_digits) w q.0 q.1 q.2 (omega (arith, p.1))) ∙ ap number_text p.1

hex_digit_said : (d : ℕ) → is_hex_digit d ≡ true → (hex_digit (digit_value d) ≡ d) × (digit_value d < 16)
hex_digit_said d e = (grind (arith, nat_tests), grind (arith, nat_tests))

hex_digits_said : (ds : List ℕ) (j a : ℕ) → list_all is_hex_digit ds ≡ true → hex_digits (length ds + j) (digits_value_after 16 a ds) ≡ hex_digits j a ++ ds
hex_digits_said [] j a e = ap (λ k. hex_digits k a) (zero-add j) ∙ sym (append-nil (hex_digits j a))
hex_digits_said (d ∷ ds) j a e =
    let p = and_true (is_hex_digit d) (list_all is_hex_digit ds) e in
    let q = hex_digit_said d p.0 in
    let x = a * 16 + digit_value d in
    let count : suc (length ds) + j ≡ length ds + suc j = omega arith in
    let upper : x / 16 ≡ a = omega (arith, q.1) in
    let lower : x % 16 ≡ digit_value d = omega (arith, q.1) in
    ap (λ k. hex_digits k (digits_value_after 16 x ds)) count ∙ hex_digits_said ds (suc j) x p.1
    ∙ ap (λ u. (hex_digits j u ++ hex_digit (x % 16) ∷ []) ++ ds) upper
    ∙ ap (λ u. (hex_digits j a ++ u ∷ []) ++ ds) (ap hex_digit lower ∙ q.0) ∙ append_assoc (hex_digits j a) (d ∷ []) ds

hex_below : (ds : List ℕ) → list_all is_hex_digit ds ≡ true → AllDigits 16 ds
hex_below [] e = tt
hex_below (d ∷ ds) e = let p = and_true (is_hex_digit d) (list_all is_hex_digit ds) e in ((hex_digit_said d p.0).1, hex_below ds p.1)

-- 0x and so many digits
hex_said : (n : ℕ) (w : List ℕ) (v : ℕ) → hex_word n w ≡ Some v → (w ≡ codes "0x" ++ hex_digits n v) × (v < 16 ^ n)
hex_said n [] v e = absurd (let z : ◌≡◌ {A = Option ℕ} None (Some v) = e in cc)
hex_said n (b ∷ []) v e = absurd (let z : ◌≡◌ {A = Option ℕ} None (Some v) = e in cc)
hex_said n (b ∷ c ∷ ds) v e =
    let p = if_some ((b == 48) && (c == 120) && (length ds == n) && list_all is_hex_digit ds) (digits_value 16 ds) v e in
    let q = and_true ((b == 48) && (c == 120) && (length ds == n)) (list_all is_hex_digit ds) p.0 in
    let r = and_true ((b == 48) && (c == 120)) (length ds == n) q.0 in
    let first : b ≡ 48 = grind (arith, nat_tests, r.0) in
    let second : c ≡ 120 = grind (arith, nat_tests, r.0) in
    let count : length ds ≡ n = grind (arith, nat_tests, r.1) in
    let said = hex_digits_said ds 0 0 q.1 in
    let digits_are : ds ≡ hex_digits n v =
    sym said ∙ ap (λ k. hex_digits k (digits_value 16 ds)) (add-zero (length ds) ∙ count) ∙ ap (hex_digits n) p.1 in (
      ap (λ x. x ∷ c ∷ ds) first ∙ ap (λ x. 48 ∷ x ∷ ds) second ∙ ap (λ x. 48 ∷ 120 ∷ x) digits_are,
      subst (λ k. v < 16 ^ k) count (subst (λ x. x < 16 ^ length ds) p.1 (digits_value-lt 16 ds (hex_below ds q.1))),
    )

at_most_said : (bound : ℕ) (o : Option ℕ) (v : ℕ) → at_most bound o ≡ Some v → (o ≡ Some v) × (v ≤ bound)
at_most_said bound None v e = absurd (let z : ◌≡◌ {A = Option ℕ} None (Some v) = e in cc)
at_most_said bound (Some n) v e = let p = if_some (nat_le n bound) n v e in (ap (λ x. Some x) p.1, grind (arith, nat_tests, p.0, p.1))

number_said : (bound : ℕ) (w : List ℕ) (v : ℕ) → bound < 2 ^ 64 → at_most bound (decimal_word w) ≡ Some v → (w ≡ number_text v) × (v ≤ bound)
number_said bound w v small e = let p = at_most_said bound (decimal_word w) v e in (decimal_said w v p.0 (omega (arith, p.1)), p.1)

both_said : (x y : Option ℕ) (p : ℕ × ℕ) → both x y ≡ Some p → (x ≡ Some p.0) × (y ≡ Some p.1)
both_said (Some a) (Some b) p e = let same : ◌≡◌ {A = ℕ × ℕ} (a, b) p = cc in (ap (λ q. Some q.0) same, ap (λ q. Some q.1) same)
both_said (Some a) None p e = absurd (let z : ◌≡◌ {A = Option (ℕ × ℕ)} None (Some p) = e in cc)
both_said None y p e = absurd (let z : ◌≡◌ {A = Option (ℕ × ℕ)} None (Some p) = e in cc)

same_word : (w n : List ℕ) → bytes_eq w n ≡ true → w ≡ n
same_word w n e = (bytes_eq-Decides w n).0 e

place_said : (at a step n : List ℕ) (p : ℕ × ℕ) → place_of at a step n ≡ Some p →
    (at ≡ codes "at") × (a ≡ word_text p.0) × (step ≡ codes "step") × (n ≡ number_text p.1) × (p.0 < 2 ^ 32) × (p.1 ≤ last_step)
place_said at a step n p e = by_test (bytes_eq at (codes "at") && bytes_eq step (codes "step")) refl e
  where
    by_test : (t : Bool) → (bytes_eq at (codes "at") && bytes_eq step (codes "step")) ≡ t →
        (if t then both (hex_word 8 a) (at_most last_step (decimal_word n)) else None) ≡ Some p →
        (at ≡ codes "at") × (a ≡ word_text p.0) × (step ≡ codes "step") × (n ≡ number_text p.1) × (p.0 < 2 ^ 32) × (p.1 ≤ last_step)
    by_test false t e = absurd (let z : ◌≡◌ {A = Option (ℕ × ℕ)} None (Some p) = e in cc)
    by_test true t e =
        let words = and_true (bytes_eq at (codes "at")) (bytes_eq step (codes "step")) t in
        let numbers = both_said (hex_word 8 a) (at_most last_step (decimal_word n)) p e in
        let address = hex_said 8 a p.0 numbers.0 in
        let number = number_said last_step n p.1 (omega arith) numbers.1 in
        (same_word at (codes "at") words.0, address.0, same_word step (codes "step") words.1, number.0, address.1, number.1)

-- a text that is tested for a word
if_word : {A P : Type 0} (w n : List ℕ) (x y : Option A) (z : A) → (if bytes_eq w n then x else y) ≡ Some z → (w ≡ n → x ≡ Some z → P) → (y ≡ Some z → P) → P
if_word {P = P} w n x y z e yes' no' = by_test (bytes_eq w n) refl e
  where
    by_test : (t : Bool) → bytes_eq w n ≡ t → (if t then x else y) ≡ Some z → P
    by_test true t e = yes' (same_word w n t) e
    by_test false t e = no' e

none_said : {A P : Type 0} (z : A) → ◌≡◌ {A = Option A} None (Some z) → P
none_said z e = absurd (let x : ◌≡◌ {A = Option _} None (Some z) = e in cc)

same_some : {A : Type 0} (x y : A) → Some x ≡ Some y → x ≡ y
same_some x y e = cc

-- events
abbrev IsEventSaid : List (List ℕ) → Event → Type 0
IsEventSaid ws e = (ws ≡ event_words e) × IsEvent e

plain_said : (w n : List ℕ) (d e : Event) → w ≡ n → n ∷ [] ≡ event_words d → IsEvent d → Some d ≡ Some e → IsEventSaid (w ∷ []) e
plain_said w n d e is words bound same = subst (IsEventSaid (w ∷ [])) (same_some d e same) (ap (λ x. x ∷ []) is ∙ words, bound)

event_said : (w : List ℕ) (e : Event) → event_of_word w ≡ Some e → IsEventSaid (w ∷ []) e
event_said w e h =
    if_word w (codes "fetch") (Some FetchFails) _ e h (λ is same. plain_said w (codes "fetch") FetchFails e is refl tt same) (λ h.
    if_word w (codes "norow") (Some NoRow) _ e h (λ is same. plain_said w (codes "norow") NoRow e is refl tt same) (λ h.
    if_word w (codes "halfword") (Some HalfwordFails) _ e h (λ is same. plain_said w (codes "halfword") HalfwordFails e is refl tt same) (λ h.
    if_word w (codes "codewrite") (Some CodeWritten) _ e h (λ is same. plain_said w (codes "codewrite") CodeWritten e is refl tt same) (λ h.
    if_word w (codes "trap") (Some Trapped) _ e h (λ is same. plain_said w (codes "trap") Trapped e is refl tt same) (λ h.
    if_word w (codes "align") (Some AlignFails) _ e h (λ is same. plain_said w (codes "align") AlignFails e is refl tt same) (λ h.
    if_word w (codes "jump") (Some JumpFails) _ e h (λ is same. plain_said w (codes "jump") JumpFails e is refl tt same) (λ h.
    none_said e h)))))))

line_event_said : (w m : List ℕ) (o : Option ℕ) (e : Event) → at_most (2 ^ 64 - 1) (decimal_word m) ≡ o → event_of_line w o ≡ Some e →
    IsEventSaid (w ∷ m ∷ []) e
line_event_said w m None e k h = none_said e h
line_event_said w m (Some n) e k h =
    let number = number_said (2 ^ 64 - 1) m n (omega arith) k in
    let small : n < 2 ^ 64 = omega (arith, number.1) in
    if_word w (codes "assert") (Some (AssertFails n)) _ e h
    (λ is same. subst (IsEventSaid (w ∷ m ∷ [])) (same_some (AssertFails n) e same) (
      ap (λ x. x ∷ m ∷ []) is ∙ ap
          (λ x. codes "assert" ∷ x ∷ []) number.0,
      small,
    )) (λ h.
    if_word w (codes "ensure") (Some (EnsureFails n)) None e h
    (λ is same. subst (IsEventSaid (w ∷ m ∷ [])) (same_some (EnsureFails n) e same) (
      ap (λ x. x ∷ m ∷ []) is ∙ ap
          (λ x. codes "ensure" ∷ x ∷ []) number.0,
      small,
    )) (λ h.
    none_said e h))

-- a choice may be any number, so that it is written only where that has 64 bits
abbrev pub IsSmall : StateLine → Type 0
IsSmall (ChoiceLine s c) = c < 2 ^ 64
IsSmall other = Unit {0}

-- what is said of a line by its words
pub record IsSaid (layout : Layout) (ws : List (List ℕ)) (l : StateLine) : Type 0 where
  pub bounded : IsSmall l → IsBounded layout l
  pub words : IsSmall l → ws ≡ words_of_line layout l
  pub place : (i v : ℕ) → l ≡ RegisterLine i v → i < length (value_names layout)

not_register : (layout : Layout) (ws : List (List ℕ)) (l : StateLine) → ((i v : ℕ) → l ≢ RegisterLine i v) → (IsSmall l → IsBounded layout l) →
    (IsSmall l → ws ≡ words_of_line layout l) → IsSaid layout ws l
not_register layout ws l other bounded words = record { bounded = bounded; words = words; place = λ i v same. absurd (other i v same) }

-- four words of a place
place_words_said : (at a step n : List ℕ) (p : ℕ × ℕ) → (at ≡ codes "at") × (a ≡ word_text p.0) × (step ≡ codes "step") × (n ≡ number_text p.1) ×
    (p.0 < 2 ^ 32) × (p.1 ≤ last_step) →
    at ∷ a ∷ step ∷ n ∷ [] ≡ place_words p.0 p.1
place_words_said at a step n p h =
    ap (λ x. x ∷ a ∷ step ∷ n ∷ []) h.0 ∙ ap (λ x. codes "at" ∷ x ∷ step ∷ n ∷ []) h.1 ∙ ap (λ x. codes "at" ∷ word_text p.0 ∷ x ∷ n ∷ []) h.2
    ∙ ap (λ x. codes "at" ∷ word_text p.0 ∷ codes "step" ∷ x ∷ []) h.3

module _ (layout : Layout) where
  fails_said : (ws more : List (List ℕ)) (o : Option Event) (at a step n : List ℕ) (q : Option (ℕ × ℕ)) (l : StateLine) →
      ((e : Event) → o ≡ Some e → IsEventSaid ws e) →
      place_of at a step n ≡ q → fails_line o q ≡ Some l → more ≡ codes "fails" ∷ ws ++ at ∷ a ∷ step ∷ n ∷ [] → IsSaid layout more l
  fails_said ws more None at a step n q l event e h is = none_said l h
  fails_said ws more (Some e) at a step n None l event p h is = none_said l h
  fails_said ws more (Some e) at a step n (Some q) l event p h is =
      let here = event e refl in
      let there = place_said at a step n q p in
      let line : StateLine = NamedLine (FailsBy e q.0 q.1) in
      let words : more ≡ words_of_line layout line =
      is ∙ ap (λ x. codes "fails" ∷ x ++ at ∷ a ∷ step ∷ n ∷ []) here.0 ∙ ap (λ x. codes "fails" ∷ event_words e ++ x) (place_words_said at a step n q there) in
      subst (IsSaid layout more) (same_some line l h)
      (not_register layout more line (λ i v same. cc) (λ _. (here.1, there.4, there.5)) (λ _. words))

  after_fails_said : (w : List ℕ) (ws : List (List ℕ)) (l : StateLine) → w ≡ codes "fails" → after_fails ws ≡ Some l → IsSaid layout (w ∷ ws) l
  after_fails_said w (e ∷ at ∷ a ∷ step ∷ n ∷ []) l is h =
      fails_said (e ∷ []) (w ∷ e ∷ at ∷ a ∷ step ∷ n ∷ []) (event_of_word e) at a step n (place_of at a step n) l (event_said e) refl h (ap
      (λ x. x ∷ e ∷ at ∷ a ∷ step ∷ n ∷ []) is)
  after_fails_said w (e ∷ m ∷ at ∷ a ∷ step ∷ n ∷ []) l is h =
      fails_said (e ∷ m ∷ []) (w ∷ e ∷ m ∷ at ∷ a ∷ step ∷ n ∷ []) (event_of_line e (at_most (2 ^ 64 - 1) (decimal_word m))) at a step n
      (place_of at a step n) l
      (λ d k. line_event_said e m (at_most (2 ^ 64 - 1) (decimal_word m)) d refl k) refl h (ap (λ x. x ∷ e ∷ m ∷ at ∷ a ∷ step ∷ n ∷ []) is)
  after_fails_said w other l is h = none_said l h

  unknown_said : (w u k at a step n : List ℕ) (o : Option ℕ) (q : Option (ℕ × ℕ)) (l : StateLine) → w ≡ codes "unknown" → u ≡ codes "unroll" →
      at_most 4096 (decimal_word k) ≡ o → place_of at a step n ≡ q → unknown_line o q ≡ Some l → IsSaid layout (w ∷ u ∷ k ∷ at ∷ a ∷ step ∷ n ∷ []) l
  unknown_said w u k at a step n None q l is next c p h = none_said l h
  unknown_said w u k at a step n (Some v) None l is next c p h = none_said l h
  unknown_said w u k at a step n (Some v) (Some q) l is next c p h =
      let count = number_said 4096 k v (omega arith) c in
      let there = place_said at a step n q p in
      let line : StateLine = NamedLine (UnknownBy v q.0 q.1) in
      let words : w ∷ u ∷ k ∷ at ∷ a ∷ step ∷ n ∷ [] ≡ words_of_line layout line =
      ap (λ x. x ∷ u ∷ k ∷ at ∷ a ∷ step ∷ n ∷ []) is ∙ ap (λ x. codes "unknown" ∷ x ∷ k ∷ at ∷ a ∷ step ∷ n ∷ []) next
      ∙ ap (λ x. codes "unknown" ∷ codes "unroll" ∷ x ∷ at ∷ a ∷ step ∷ n ∷ []) count.0
      ∙ ap (λ x. codes "unknown" ∷ codes "unroll" ∷ number_text v ∷ x) (place_words_said at a step n q there) in
      subst (IsSaid layout (w ∷ u ∷ k ∷ at ∷ a ∷ step ∷ n ∷ [])) (same_some line l h)
      (not_register layout (w ∷ u ∷ k ∷ at ∷ a ∷ step ∷ n ∷ []) line (λ i v same. cc) (λ _. (count.1, there.4, there.5)) (λ _. words))

  after_unknown_said : (w : List ℕ) (ws : List (List ℕ)) (l : StateLine) → w ≡ codes "unknown" → after_unknown ws ≡ Some l → IsSaid layout (w ∷ ws) l
  after_unknown_said w (u ∷ k ∷ at ∷ a ∷ step ∷ n ∷ []) l is h =
      if_word u (codes "unroll") (unknown_line (at_most 4096 (decimal_word k)) (place_of at a step n)) None l h
      (λ next h. unknown_said w u k at a step n (at_most 4096 (decimal_word k)) (place_of at a step n) l is next refl refl h) (λ h. none_said l h)
  after_unknown_said w other l is h = none_said l h

  after_state_said : (w : List ℕ) (ws : List (List ℕ)) (l : StateLine) → w ≡ codes "state" → after_state layout ws ≡ Some l → IsSaid layout (w ∷ ws) l
  after_state_said w (m ∷ []) l is h =
      if_word m layout.machine (Some MachineLine) None l h
      (λ next h. subst (IsSaid layout (w ∷ m ∷ [])) (same_some MachineLine l h)
      (not_register layout (w ∷ m ∷ []) MachineLine (λ i v same. cc) (λ _. tt) (λ _. ap (λ x. x ∷ m ∷ []) is ∙ ap (λ x. codes "state" ∷ x ∷ []) next)))
      (λ h. none_said l h)
  after_state_said w other l is h = none_said l h

  byte_said : (w a v : List ℕ) (q : Option (ℕ × ℕ)) (l : StateLine) → w ≡ codes "byte" → both (hex_word 8 a) (hex_word 2 v) ≡ q →
      pair_line ByteLine q ≡ Some l →
      IsSaid layout (w ∷ a ∷ v ∷ []) l
  byte_said w a v None l is p h = none_said l h
  byte_said w a v (Some q) l is p h =
      let parts = both_said (hex_word 8 a) (hex_word 2 v) q p in
      let address = hex_said 8 a q.0 parts.0 in
      let value = hex_said 2 v q.1 parts.1 in
      let words : w ∷ a ∷ v ∷ [] ≡ words_of_line layout (ByteLine q.0 q.1) =
      ap (λ x. x ∷ a ∷ v ∷ []) is ∙ ap (λ x. codes "byte" ∷ x ∷ v ∷ []) address.0 ∙ ap (λ x. codes "byte" ∷ word_text q.0 ∷ x ∷ []) value.0 in
      subst (IsSaid layout (w ∷ a ∷ v ∷ [])) (same_some (ByteLine q.0 q.1) l h)
      (not_register layout (w ∷ a ∷ v ∷ []) (ByteLine q.0 q.1) (λ i v same. cc) (λ _. (address.1, value.1)) (λ _. words))

  after_byte_said : (w : List ℕ) (ws : List (List ℕ)) (l : StateLine) → w ≡ codes "byte" → after_byte ws ≡ Some l → IsSaid layout (w ∷ ws) l
  after_byte_said w (a ∷ v ∷ []) l is h = byte_said w a v (both (hex_word 8 a) (hex_word 2 v)) l is refl h
  after_byte_said w other l is h = none_said l h

  choice_said : (w s c : List ℕ) (q : Option (ℕ × ℕ)) (l : StateLine) → w ≡ codes "choice" → both (at_most last_step (decimal_word s)) (decimal_word c) ≡ q →
      pair_line ChoiceLine q ≡ Some l → IsSaid layout (w ∷ s ∷ c ∷ []) l
  choice_said w s c None l is p h = none_said l h
  choice_said w s c (Some q) l is p h =
      let parts = both_said (at_most last_step (decimal_word s)) (decimal_word c) q p in
      let step = number_said last_step s q.0 (omega arith) parts.0 in
      subst (IsSaid layout (w ∷ s ∷ c ∷ [])) (same_some (ChoiceLine q.0 q.1) l h)
      (not_register layout (w ∷ s ∷ c ∷ []) (ChoiceLine q.0 q.1) (λ i v same. cc) (λ small. (step.1, small))
      (λ small. ap (λ x. x ∷ s ∷ c ∷ []) is ∙ ap (λ x. codes "choice" ∷ x ∷ c ∷ []) step.0 ∙ ap
      (λ x. codes "choice" ∷ number_text q.0 ∷ x ∷ []) (decimal_said c q.1 parts.1 small)))

  after_choice_said : (w : List ℕ) (ws : List (List ℕ)) (l : StateLine) → w ≡ codes "choice" → after_choice ws ≡ Some l → IsSaid layout (w ∷ ws) l
  after_choice_said w (s ∷ c ∷ []) l is h = choice_said w s c (both (at_most last_step (decimal_word s)) (decimal_word c)) l is refl h
  after_choice_said w other l is h = none_said l h

  after_end_said : (w : List ℕ) (ws : List (List ℕ)) (l : StateLine) → w ≡ codes "end" → after_end ws ≡ Some l → IsSaid layout (w ∷ ws) l
  after_end_said w [] l is h =
      subst (IsSaid layout (w ∷ [])) (same_some EndLine l h) (not_register layout (w ∷ []) EndLine (λ i v same. cc) (λ _. tt) (λ _. ap (λ x. x ∷ []) is))
  after_end_said w (x ∷ ws) l is h = none_said l h

  value_said : (i v : ℕ) (w : List ℕ) → value_of layout i w ≡ Some v →
      (w ≡ value_text layout i v) × (i < length layout.registers → v < 2 ^ 32) × (length layout.registers ≤ i → v ≤ 1)
  value_said i v w h = by_test (nat_lt i (length layout.registers)) refl h
    where
      by_test : (t : Bool) → nat_lt i (length layout.registers) ≡ t → (if t then hex_word 8 w else at_most 1 (decimal_word w)) ≡ Some v →
          (w ≡ (if t then word_text v else number_text v)) × (i < length layout.registers → v < 2 ^ 32) × (length layout.registers ≤ i → v ≤ 1)
      by_test true t h = let p = hex_said 8 w v h in (p.0, (λ _. p.1), (λ above. absurd (grind (arith, nat_tests, t))))
      by_test false t h = let p = number_said 1 w v (omega arith) h in (p.0, (λ below. absurd (grind (arith, nat_tests, t))), (λ _. p.1))

  abbrev IsPlaced : List (List ℕ) → List ℕ → ℕ → Type 0
  IsPlaced names w i = (i < length names) × (w ≡ get_or names i [])

  later_place : (n : List ℕ) (names : List (List ℕ)) (w : List ℕ) (o : Option ℕ) (i : ℕ) → ((j : ℕ) → o ≡ Some j → IsPlaced names w j) →
      option_map (λ j. j + 1) o ≡ Some i → IsPlaced (n ∷ names) w i
  later_place n names w None i known h = none_said i h
  later_place n names w (Some j) i known h =
      let p = known j refl in
      let same : suc j ≡ i = sym (add-one j) ∙ same_some (j + 1) i h in
      subst (IsPlaced (n ∷ names) w) same (omega (arith, p.0), p.1)

  place_in_said : (names : List (List ℕ)) (w : List ℕ) (i : ℕ) → place_in names w ≡ Some i → IsPlaced names w i
  place_in_said [] w i h = none_said i h
  place_in_said (n ∷ names) w i h =
      if_word w n (Some 0) (option_map (λ j. j + 1) (place_in names w)) i h (λ is same. subst (IsPlaced (n ∷ names) w) (same_some 0 i same) (omega arith, is))
      (λ h. later_place n names w (place_in names w) i (λ j e. place_in_said names w j e) h)

  register_said : (w u : List ℕ) (o : Option ℕ) (i : ℕ) (l : StateLine) → place_in (value_names layout) w ≡ Some i → value_of layout i u ≡ o →
      pair_line RegisterLine (both (Some i) o) ≡ Some l → IsSaid layout (w ∷ u ∷ []) l
  register_said w u None i l p v h = none_said l h
  register_said w u (Some x) i l p v h =
      let name = place_in_said (value_names layout) w i p in
      let value = value_said i x u v in
      let line : StateLine = RegisterLine i x in
      let said : IsSaid layout (w ∷ u ∷ []) line = record {
        bounded = λ _. (name.0, value.1, value.2);
        words = λ _. ap (λ y. y ∷ u ∷ []) name.1 ∙ ap (λ y. get_or (value_names layout) i [] ∷ y ∷ []) value.0;
        place = λ j y same. let there : i ≡ j = cc in subst (λ k. k < length (value_names layout)) there name.0;
      } in
      subst (IsSaid layout (w ∷ u ∷ [])) (same_some line l h) said

  other_said : (w : List ℕ) (ws : List (List ℕ)) (o : Option ℕ) (l : StateLine) → place_in (value_names layout) w ≡ o → register_line layout o ws ≡ Some l →
      IsSaid layout (w ∷ ws) l
  other_said w ws None l p h = none_said l h
  other_said w [] (Some i) l p h = none_said l h
  other_said w (u ∷ []) (Some i) l p h = register_said w u (value_of layout i u) i l p refl h
  other_said w (u ∷ v ∷ ws) (Some i) l p h = none_said l h

  words_said : (ws : List (List ℕ)) (l : StateLine) → line_of_words layout ws ≡ Some l → IsSaid layout ws l
  words_said [] l h = none_said l h
  words_said (w ∷ ws) l h =
      if_word w (codes "fails") (after_fails ws) _ l h (λ is h. after_fails_said w ws l is h) (λ h.
      if_word w (codes "unknown") (after_unknown ws) _ l h (λ is h. after_unknown_said w ws l is h) (λ h.
      if_word w (codes "state") (after_state layout ws) _ l h (λ is h. after_state_said w ws l is h) (λ h.
      if_word w (codes "byte") (after_byte ws) _ l h (λ is h. after_byte_said w ws l is h) (λ h.
      if_word w (codes "choice") (after_choice ws) _ l h (λ is h. after_choice_said w ws l is h) (λ h.
      if_word w (codes "end") (after_end ws) _ l h (λ is h. after_end_said w ws l is h) (λ h.
      other_said w ws (place_in (value_names layout) w) l refl h))))))

  -- a line says what is written of it
  pub line_said : (text : List ℕ) (l : StateLine) → line_of layout text ≡ Some l → IsSmall l → IsBounded layout l × (text ≡ joined (words_of_line layout l))
  line_said text l h small =
      let said = words_said (words_in text) l h in (said.bounded small, sym (joined_words text) ∙ ap joined (said.words small))

  -- a register's or a flag's line names one of the layout
  pub place_said_of : (text : List ℕ) (i v : ℕ) → line_of layout text ≡ Some (RegisterLine i v) → i < length (value_names layout)
  place_said_of text i v h = (words_said (words_in text) (RegisterLine i v) h).place i v refl
