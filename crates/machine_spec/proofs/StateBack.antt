-- A printed state text is read back as the same state.
use Rattle.std.proofs.Common.{◌≡◌, ℕ, zero, suc, ◌+◌, ◌*◌, ◌%◌, ◌^◌, ◌<◌, ◌≤◌, refl, ap, sym, ◌∙◌, arith, Bool, true, false, List, [], ◌∷◌, ◌++◌, Option, Some, None, length, take, drop, length-append, mod-eq_of_lt}
use Rattle.std.specs.Prelude.{not, nat_lt, map, All}
use Rattle.std.specs.List.{list_any, list_all}
use Rattle.std.proofs.lemmas.Bool.Decides.{nat_tests}
use Rattle.std.proofs.lemmas.Nat.{mod-pow-add}
use Rattle.std.proofs.Math.Seq.{take-append_seam, drop-append_seam}
use Rattle.word_spec.specs.Words.{bit_at}
use Rattle.machine_spec.specs.Endings.{NamedEnding}
use Rattle.word_spec.specs.Texts.{joined}
use Rattle.machine_spec.specs.StateText.{Layout, StateText, IsWritten, IsNamed, AreRising, StateLine, NamedLine, MachineLine, RegisterLine, ByteLine, ChoiceLine, EndLine, value_names, words_of_line, register_lines, flag_bits, lines_behind, state_lines, printed, line_of, last_step, is_byte_below, is_choice_below, is_end_line, is_behind_bytes, lines_of_head, line_refusal, end_refusal, first_refused, values_in, bytes_in, choices_in, number_of_bits, written_in, StateIs, told_by, told_of, state_of}
use Rattle.word_spec.specs.State.{Written}
use Rattle.machine_spec.proofs.Spelling.{AllAbove, split_lines_of}
use Rattle.machine_spec.proofs.StateLines.{IsLayout, IsBounded, line_back, line_above}

-- the line stands before all bytes
abbrev pub is_head : StateLine → Bool
is_head (ByteLine a v) = false
is_head other = not (is_behind_bytes other)

no_bytes : (ls : List StateLine) (a : ℕ) → list_all is_head ls ≡ true → list_all (is_byte_below a) ls ≡ true
no_bytes [] a e = refl
no_bytes (NamedLine n ∷ ls) a e = no_bytes ls a e
no_bytes (MachineLine ∷ ls) a e = no_bytes ls a e
no_bytes (RegisterLine i v ∷ ls) a e = no_bytes ls a e
no_bytes (ByteLine b v ∷ ls) a e = cc
no_bytes (ChoiceLine s c ∷ ls) a e = cc
no_bytes (EndLine ∷ ls) a e = cc

pub none_behind : (ls : List StateLine) → list_all is_head ls ≡ true → list_any is_behind_bytes ls ≡ false
none_behind [] e = refl
none_behind (NamedLine n ∷ ls) e = none_behind ls e
none_behind (MachineLine ∷ ls) e = none_behind ls e
none_behind (RegisterLine i v ∷ ls) e = none_behind ls e
none_behind (ByteLine b v ∷ ls) e = cc
none_behind (ChoiceLine s c ∷ ls) e = cc
none_behind (EndLine ∷ ls) e = cc

no_choices : (ls : List StateLine) (s : ℕ) → list_any is_behind_bytes ls ≡ false → list_all (is_choice_below s) ls ≡ true
no_choices [] s e = refl
no_choices (NamedLine n ∷ ls) s e = no_choices ls s e
no_choices (MachineLine ∷ ls) s e = no_choices ls s e
no_choices (RegisterLine i v ∷ ls) s e = no_choices ls s e
no_choices (ByteLine b v ∷ ls) s e = no_choices ls s e
no_choices (ChoiceLine r c ∷ ls) s e = cc
no_choices (EndLine ∷ ls) s e = cc

pub no_end : (ls : List StateLine) → list_any is_behind_bytes ls ≡ false → list_any is_end_line ls ≡ false
no_end [] e = refl
no_end (NamedLine n ∷ ls) e = no_end ls e
no_end (MachineLine ∷ ls) e = no_end ls e
no_end (RegisterLine i v ∷ ls) e = no_end ls e
no_end (ByteLine b v ∷ ls) e = no_end ls e
no_end (ChoiceLine r c ∷ ls) e = cc
no_end (EndLine ∷ ls) e = cc

more_below : (ls : List StateLine) (a b : ℕ) → a < b → list_all (is_byte_below a) ls ≡ true → list_all (is_byte_below b) ls ≡ true
more_below [] a b h e = refl
more_below (NamedLine n ∷ ls) a b h e = more_below ls a b h e
more_below (MachineLine ∷ ls) a b h e = more_below ls a b h e
more_below (RegisterLine i v ∷ ls) a b h e = more_below ls a b h e
more_below (ByteLine c v ∷ ls) a b h e = grind (arith, nat_tests, more_below ls a b h)
more_below (ChoiceLine r c ∷ ls) a b h e = more_below ls a b h e
more_below (EndLine ∷ ls) a b h e = more_below ls a b h e

more_steps : (ls : List StateLine) (a b : ℕ) → a < b → list_all (is_choice_below a) ls ≡ true → list_all (is_choice_below b) ls ≡ true
more_steps [] a b h e = refl
more_steps (NamedLine n ∷ ls) a b h e = more_steps ls a b h e
more_steps (MachineLine ∷ ls) a b h e = more_steps ls a b h e
more_steps (RegisterLine i v ∷ ls) a b h e = more_steps ls a b h e
more_steps (ByteLine c v ∷ ls) a b h e = more_steps ls a b h e
more_steps (ChoiceLine r c ∷ ls) a b h e = grind (arith, nat_tests, more_steps ls a b h)
more_steps (EndLine ∷ ls) a b h e = more_steps ls a b h e

-- the lists of a start, element by element
abbrev pub Bytes : (known : ℕ → Bool) → List (ℕ × ℕ) → Type 0
Bytes known [] = Unit {0}
Bytes known (b ∷ bs) = (b.0 < 2 ^ 32) × (1 ≤ b.1) × (b.1 ≤ 255) × (known b.0 ≡ false) × Bytes known bs

abbrev pub Choices : List (ℕ × ℕ) → Type 0
Choices [] = Unit {0}
Choices (c ∷ cs) = (c.0 ≤ last_step) × (1 ≤ c.1) × (c.1 ≤ 3) × Choices cs

abbrev pub Next : ℕ × ℕ → List (ℕ × ℕ) → Type 0
Next x [] = Unit {0}
Next x (y ∷ rest) = x.0 < y.0

abbrev pub Rising : List (ℕ × ℕ) → Type 0
Rising [] = Unit {0}
Rising (x ∷ rest) = Next x rest × Rising rest

abbrev pub BytesBelow : List StateLine → List (ℕ × ℕ) → Type 0
BytesBelow before [] = Unit {0}
BytesBelow before (b ∷ bs) = list_all (is_byte_below b.0) before ≡ true

abbrev pub ChoicesBelow : List StateLine → List (ℕ × ℕ) → Type 0
ChoicesBelow before [] = Unit {0}
ChoicesBelow before (c ∷ cs) = list_all (is_choice_below c.0) before ≡ true

bytes_below : (before : List StateLine) (bs : List (ℕ × ℕ)) → list_all is_head before ≡ true → BytesBelow before bs
bytes_below before [] heads = tt
bytes_below before (b ∷ bs) heads = no_bytes before b.0 heads

choices_below : (before : List StateLine) (cs : List (ℕ × ℕ)) → list_any is_behind_bytes before ≡ false → ChoicesBelow before cs
choices_below before [] none = tt
choices_below before (c ∷ cs) none = no_choices before c.0 none

next_byte : (before : List StateLine) (b : ℕ × ℕ) (bs : List (ℕ × ℕ)) → list_all (is_byte_below b.0) before ≡ true → Next b bs →
    BytesBelow (ByteLine b.0 b.1 ∷ before) bs
next_byte before b [] below next = tt
next_byte before b (c ∷ bs) below next = let t : nat_lt b.0 c.0 ≡ true = grind (arith, nat_tests) in rw (t, more_below before b.0 c.0 next below) refl

next_choice : (before : List StateLine) (b : ℕ × ℕ) (bs : List (ℕ × ℕ)) → list_all (is_choice_below b.0) before ≡ true → Next b bs →
    ChoicesBelow (ChoiceLine b.0 b.1 ∷ before) bs
next_choice before b [] below next = tt
next_choice before b (c ∷ bs) below next = let t : nat_lt b.0 c.0 ≡ true = grind (arith, nat_tests) in rw (t, more_steps before b.0 c.0 next below) refl

pub bits_count : (n f : ℕ) → length (flag_bits n f) ≡ n
bits_count zero f = refl
bits_count (suc n) f = ap suc (bits_count n f)

module _ (layout : Layout) (known : ℕ → Bool) where
  abbrev IsFree : (before ls : List StateLine) → Type 0
  IsFree before ls = first_refused layout known before (map (λ l. Some l) ls) ≡ None

  one_line : (before ls : List StateLine) (l : StateLine) → line_refusal layout known before l ≡ None → IsFree (l ∷ before) ls → IsFree before (l ∷ ls)
  one_line before ls l e free = rw e free

  registers_free : (vs : List ℕ) (i : ℕ) (before rest : List StateLine) → length before ≡ 2 + i → list_all is_head before ≡ true →
      ((after : List StateLine) → length after ≡ 2 + (i + length vs) → list_all is_head after ≡ true → IsFree after rest) →
      IsFree before (register_lines i vs ++ rest)
  registers_free [] i before rest count heads go = go before (omega (arith, count)) heads
  registers_free (v ∷ vs) i before rest count heads go =
      let fits : line_refusal layout known before (RegisterLine i v) ≡ None = grind (arith, nat_tests) in
      one_line before (register_lines (i + 1) vs ++ rest) (RegisterLine i v) fits
      (registers_free vs (i + 1) (RegisterLine i v ∷ before) rest (omega (arith, count)) heads (λ after c h. go after (omega (arith, c)) h))

  bytes_free : (bs : List (ℕ × ℕ)) (before rest : List StateLine) → lines_of_head layout ≤ length before → list_any is_behind_bytes before ≡ false →
      BytesBelow before bs → Bytes known bs → Rising bs →
      ((after : List StateLine) → lines_of_head layout ≤ length after → list_any is_behind_bytes after ≡ false → IsFree after rest) →
      IsFree before (map (λ b. ByteLine b.0 b.1) bs ++ rest)
  bytes_free [] before rest count none below good rises go = go before count none
  bytes_free (b ∷ bs) before rest count none below good rises go =
      let fits : line_refusal layout known before (ByteLine b.0 b.1) ≡ None = grind (arith, nat_tests) in
      one_line before (map (λ b. ByteLine b.0 b.1) bs ++ rest) (ByteLine b.0 b.1) fits
      (bytes_free bs (ByteLine b.0 b.1 ∷ before) rest (omega (arith, count)) none (next_byte before b bs below rises.0) good.4 rises.1 go)

  choices_free : (cs : List (ℕ × ℕ)) (before rest : List StateLine) → lines_of_head layout ≤ length before → list_any is_end_line before ≡ false →
      ChoicesBelow before cs → Choices cs → Rising cs →
      ((after : List StateLine) → lines_of_head layout ≤ length after → list_any is_end_line after ≡ false → IsFree after rest) →
      IsFree before (map (λ c. ChoiceLine c.0 c.1) cs ++ rest)
  choices_free [] before rest count none below good rises go = go before count none
  choices_free (c ∷ cs) before rest count none below good rises go =
      let fits : line_refusal layout known before (ChoiceLine c.0 c.1) ≡ None = grind (arith, nat_tests) in
      one_line before (map (λ c. ChoiceLine c.0 c.1) cs ++ rest) (ChoiceLine c.0 c.1) fits
      (choices_free cs (ChoiceLine c.0 c.1 ∷ before) rest (omega (arith, count)) none (next_choice before c cs below rises.0) good.3 rises.1 go)

  end_free : (before : List StateLine) → lines_of_head layout ≤ length before → list_any is_end_line before ≡ false → IsFree before (EndLine ∷ [])
  end_free before count none =
      let fits : line_refusal layout known before EndLine ≡ None = grind (arith, nat_tests) in
      let ended : end_refusal layout (EndLine ∷ before) ≡ None = grind (arith, nat_tests) in
      one_line before [] EndLine fits (rw ended refl)

  -- no line of a written state is refused
  state_free : (n : NamedEnding) (w : Written) → length w.regs ≡ length layout.registers → Bytes known w.bytes → Rising w.bytes → Choices w.choices →
      Rising w.choices →
      IsFree [] (NamedLine n ∷ lines_behind layout w)
  state_free n w count bytes bytes_rise choices choices_rise =
      let values = w.regs ++ flag_bits (length layout.flags) w.flags in
      let last = map (λ c. ChoiceLine c.0 c.1) w.choices ++ EndLine ∷ [] in
      registers_free values 0 (MachineLine ∷ NamedLine n ∷ []) (map (λ b. ByteLine b.0 b.1) w.bytes ++ last) refl refl (λ first many heads.
      bytes_free w.bytes first last (omega (arith, many, values_count)) (none_behind first heads) (bytes_below first w.bytes heads) bytes bytes_rise
      (λ second more none.
      choices_free w.choices second (EndLine ∷ []) more (no_end second none) (choices_below second w.choices none) choices choices_rise (λ third most ends.
      end_free third most ends)))
    where
      values_count : length (w.regs ++ flag_bits (length layout.flags) w.flags) ≡ length (value_names layout)
      values_count = grind (arith, length-append, bits_count)

-- the values that lines give
values_of_registers : (vs : List ℕ) (i : ℕ) (rest : List StateLine) →
    values_in (map (λ l. Some l) (register_lines i vs ++ rest)) ≡ vs ++ values_in (map (λ l. Some l) rest)
values_of_registers [] i rest = refl
values_of_registers (v ∷ vs) i rest = ap (λ x. v ∷ x) (values_of_registers vs (i + 1) rest)

values_of_bytes : (bs : List (ℕ × ℕ)) (rest : List StateLine) →
    values_in (map (λ l. Some l) (map (λ b. ByteLine b.0 b.1) bs ++ rest)) ≡ values_in (map (λ l. Some l) rest)
values_of_bytes [] rest = refl
values_of_bytes (b ∷ bs) rest = values_of_bytes bs rest

values_of_choices : (cs : List (ℕ × ℕ)) (rest : List StateLine) →
    values_in (map (λ l. Some l) (map (λ c. ChoiceLine c.0 c.1) cs ++ rest)) ≡ values_in (map (λ l. Some l) rest)
values_of_choices [] rest = refl
values_of_choices (c ∷ cs) rest = values_of_choices cs rest

bytes_of_registers : (vs : List ℕ) (i : ℕ) (rest : List StateLine) →
    bytes_in (map (λ l. Some l) (register_lines i vs ++ rest)) ≡ bytes_in (map (λ l. Some l) rest)
bytes_of_registers [] i rest = refl
bytes_of_registers (v ∷ vs) i rest = bytes_of_registers vs (i + 1) rest

bytes_of_bytes : (bs : List (ℕ × ℕ)) (rest : List StateLine) →
    bytes_in (map (λ l. Some l) (map (λ b. ByteLine b.0 b.1) bs ++ rest)) ≡ bs ++ bytes_in (map (λ l. Some l) rest)
bytes_of_bytes [] rest = refl
bytes_of_bytes (b ∷ bs) rest = ap (λ x. b ∷ x) (bytes_of_bytes bs rest)

bytes_of_choices : (cs : List (ℕ × ℕ)) (rest : List StateLine) →
    bytes_in (map (λ l. Some l) (map (λ c. ChoiceLine c.0 c.1) cs ++ rest)) ≡ bytes_in (map (λ l. Some l) rest)
bytes_of_choices [] rest = refl
bytes_of_choices (c ∷ cs) rest = bytes_of_choices cs rest

choices_of_registers : (vs : List ℕ) (i : ℕ) (rest : List StateLine) →
    choices_in (map (λ l. Some l) (register_lines i vs ++ rest)) ≡ choices_in (map (λ l. Some l) rest)
choices_of_registers [] i rest = refl
choices_of_registers (v ∷ vs) i rest = choices_of_registers vs (i + 1) rest

choices_of_bytes : (bs : List (ℕ × ℕ)) (rest : List StateLine) →
    choices_in (map (λ l. Some l) (map (λ b. ByteLine b.0 b.1) bs ++ rest)) ≡ choices_in (map (λ l. Some l) rest)
choices_of_bytes [] rest = refl
choices_of_bytes (b ∷ bs) rest = choices_of_bytes bs rest

choices_of_choices : (cs : List (ℕ × ℕ)) (rest : List StateLine) →
    choices_in (map (λ l. Some l) (map (λ c. ChoiceLine c.0 c.1) cs ++ rest)) ≡ cs ++ choices_in (map (λ l. Some l) rest)
choices_of_choices [] rest = refl
choices_of_choices (c ∷ cs) rest = ap (λ x. c ∷ x) (choices_of_choices cs rest)

pub append-nil : {A : Type 0} (xs : List A) → xs ++ [] ≡ xs
append-nil [] = refl
append-nil (x ∷ xs) = ap (λ l. x ∷ l) (append-nil xs)

pub bits_number : (n f : ℕ) → number_of_bits (flag_bits n f) ≡ f % 2 ^ n
bits_number zero f = omega arith
bits_number (suc n) f = ap (λ k. bit_at n f * 2 ^ k + number_of_bits (flag_bits n f)) (bits_count n f) ∙ rw (bits_number n f) (sym (mod-pow-add f 1 n) ∙ ap
    (λ k. f % 2 ^ k) (omega arith))

-- what the lines of a start give
module _ (layout : Layout) (w : Written) where
  abbrev bits : List ℕ
  bits = flag_bits (length layout.flags) w.flags

  abbrev choice_lines : List StateLine
  choice_lines = map (λ c. ChoiceLine c.0 c.1) w.choices ++ EndLine ∷ []

  abbrev byte_lines : List StateLine
  byte_lines = map (λ b. ByteLine b.0 b.1) w.bytes ++ choice_lines

  abbrev all : List (Option StateLine)
  all = map (λ l. Some l) (lines_behind layout w)

  values_are : values_in all ≡ w.regs ++ bits
  values_are =
      values_of_registers (w.regs ++ bits) 0 byte_lines
      ∙ ap (λ x. (w.regs ++ bits) ++ x) (values_of_bytes w.bytes choice_lines ∙ values_of_choices w.choices (EndLine ∷ [])) ∙ append-nil (w.regs ++ bits)

  bytes_are : bytes_in all ≡ w.bytes
  bytes_are =
      bytes_of_registers (w.regs ++ bits) 0 byte_lines ∙ bytes_of_bytes w.bytes choice_lines
      ∙ ap (λ x. w.bytes ++ x) (bytes_of_choices w.choices (EndLine ∷ [])) ∙ append-nil w.bytes

  choices_are : choices_in all ≡ w.choices
  choices_are =
      choices_of_registers (w.regs ++ bits) 0 byte_lines ∙ choices_of_bytes w.bytes choice_lines ∙ choices_of_choices w.choices (EndLine ∷ [])
      ∙ append-nil w.choices

  regs_are : length w.regs ≡ length layout.registers → take (length layout.registers) (values_in all) ≡ w.regs
  regs_are count = rw values_are (ap (λ n. take n (w.regs ++ bits)) (sym count) ∙ take-append_seam w.regs bits)

  flags_are : length w.regs ≡ length layout.registers → w.flags < 2 ^ length layout.flags →
      number_of_bits (drop (length layout.registers) (values_in all)) ≡ w.flags
  flags_are count small =
      rw values_are (ap (λ n. number_of_bits (drop n (w.regs ++ bits))) (sym count) ∙ ap number_of_bits (drop-append_seam w.regs bits)
      ∙ bits_number (length layout.flags) w.flags ∙ mod-eq_of_lt small)

  pub start_given : length w.regs ≡ length layout.registers → w.flags < 2 ^ length layout.flags → written_in layout all ≡ w
  start_given count small =
      ap (λ x. record { regs = x; flags = number_of_bits (drop (length layout.registers) (values_in all)); bytes = bytes_in all; choices = choices_in all })
      (regs_are count)
      ∙ ap (λ x. record { regs = w.regs; flags = x; bytes = bytes_in all; choices = choices_in all }) (flags_are count small)
      ∙ ap (λ x. record { regs = w.regs; flags = w.flags; bytes = x; choices = choices_in all }) bytes_are
      ∙ ap (λ x. record { regs = w.regs; flags = w.flags; bytes = w.bytes; choices = x }) choices_are

-- every line is bounded
abbrev AllBounded : Layout → List StateLine → Type 0
AllBounded layout [] = Unit {0}
AllBounded layout (l ∷ ls) = IsBounded layout l × AllBounded layout ls

bounded-append : (layout : Layout) (ls ms : List StateLine) → AllBounded layout ls → AllBounded layout ms → AllBounded layout (ls ++ ms)
bounded-append layout [] ms p q = q
bounded-append layout (l ∷ ls) ms p q = (p.0, bounded-append layout ls ms p.1 q)

register_lines-append : (i : ℕ) (vs us : List ℕ) → register_lines i (vs ++ us) ≡ register_lines i vs ++ register_lines (i + length vs) us
register_lines-append i [] us = ap (λ k. register_lines k us) (omega arith)
register_lines-append i (v ∷ vs) us =
    ap (λ x. RegisterLine i v ∷ x) (register_lines-append (i + 1) vs us ∙ ap (λ k. register_lines (i + 1) vs ++ register_lines k us) (omega arith))

registers_bounded : (layout : Layout) (i : ℕ) (vs : List ℕ) → i + length vs ≤ length layout.registers → length layout.registers ≤ length (value_names layout) →
    All (λ v. v < 2 ^ 32) vs → AllBounded layout (register_lines i vs)
registers_bounded layout i [] room names words = tt
registers_bounded layout i (v ∷ vs) room names words = (
  (omega (arith, room, names), (λ _. words 0 0 (omega arith)), (λ above. absurd (omega (arith, room)))),
  registers_bounded layout (i + 1) vs (omega (arith, room)) names (λ k d h. words (suc k) d (omega arith)),
)

bits_bounded : (layout : Layout) (i n f : ℕ) → length layout.registers ≤ i → i + n ≤ length (value_names layout) →
    AllBounded layout (register_lines i (flag_bits n f))
bits_bounded layout i zero f behind room = tt
bits_bounded layout i (suc n) f behind room =
    ((omega (arith, room), (λ below. absurd (omega arith)), (λ _. omega arith)), bits_bounded layout (i + 1) n f (omega arith) (omega (arith, room)))

bytes_bounded : (layout : Layout) (known : ℕ → Bool) (bs : List (ℕ × ℕ)) → Bytes known bs → AllBounded layout (map (λ b. ByteLine b.0 b.1) bs)
bytes_bounded layout known [] p = tt
bytes_bounded layout known (b ∷ bs) p = ((p.0, omega (arith, p.2)), bytes_bounded layout known bs p.4)

choices_bounded : (layout : Layout) (cs : List (ℕ × ℕ)) → Choices cs → AllBounded layout (map (λ c. ChoiceLine c.0 c.1) cs)
choices_bounded layout [] p = tt
choices_bounded layout (c ∷ cs) p = ((p.0, omega (arith, p.2)), choices_bounded layout cs p.3)

-- the facts of a written start, element by element
bytes_of : (known : ℕ → Bool) (bs : List (ℕ × ℕ)) → All (λ b. (b.0 < 2 ^ 32) × (1 ≤ b.1) × (b.1 ≤ 255)) bs → All (λ b. known b.0 ≡ false) bs → Bytes known bs
bytes_of known [] p q = tt
bytes_of known (b ∷ bs) p q =
    let h = p 0 b (omega arith) in
    (h.0, h.1, h.2, q 0 b (omega arith), bytes_of known bs (λ k d l. p (suc k) d (omega arith)) (λ k d l. q (suc k) d (omega arith)))

choices_of : (cs : List (ℕ × ℕ)) → All (λ c. (c.0 ≤ last_step) × (1 ≤ c.1) × (c.1 ≤ 3)) cs → Choices cs
choices_of [] p = tt
choices_of (c ∷ cs) p = let h = p 0 c (omega arith) in (h.0, h.1, h.2, choices_of cs (λ k d l. p (suc k) d (omega arith)))

next_of : (x : ℕ × ℕ) (xs : List (ℕ × ℕ)) → AreRising (x ∷ xs) → Next x xs
next_of x [] p = tt
next_of x (y ∷ xs) p = p 0 1 x (omega arith) (omega arith)

rising_of : (xs : List (ℕ × ℕ)) → AreRising xs → Rising xs
rising_of [] p = tt
rising_of (x ∷ xs) p = (next_of x xs p, rising_of xs (λ i j d h k. p (suc i) (suc j) d (omega arith) (omega arith)))

-- the texts of lines are read back, and have no line feed
lines_back : (layout : Layout) → IsLayout layout → (ls : List StateLine) → AllBounded layout ls →
    map (line_of layout) (map (λ l. joined (words_of_line layout l)) ls) ≡ map (λ l. Some l) ls
lines_back layout good [] p = refl
lines_back layout good (l ∷ ls) p = rw (line_back layout good l p.0, lines_back layout good ls p.1) refl

lines_above : (layout : Layout) → IsLayout layout → (ls : List StateLine) → AllBounded layout ls → AllAbove 31 (map (λ l. joined (words_of_line layout l)) ls)
lines_above layout good [] p = tt
lines_above layout good (l ∷ ls) p = (line_above layout good l p.0, lines_above layout good ls p.1)

module _ (layout : Layout) (good : IsLayout layout) (known : ℕ →
    Bool) (t : StateText) (written : IsWritten layout known t.start) (named : IsNamed t.named) where
  behind_bounded : AllBounded layout (lines_behind layout t.start)
  behind_bounded =
      let w = t.start in
      let both = length-append layout.registers layout.flags in
      let bytes = bytes_of known w.bytes written.bytes written.unknown in
      let last = bounded-append layout (map (λ c. ChoiceLine c.0 c.1) w.choices) (EndLine
      ∷ []) (choices_bounded layout w.choices (choices_of w.choices written.choices)) (tt, tt) in
      let more = bounded-append layout (map (λ b. ByteLine b.0 b.1) w.bytes) (choice_lines layout w) (bytes_bounded layout known w.bytes bytes) last in
      let registers = registers_bounded layout 0 w.regs (omega (arith, written.count)) (omega (arith, both)) written.words in
      let flags = bits_bounded layout (0 + length w.regs) (length layout.flags) w.flags (omega (arith, written.count)) (omega (arith, both, written.count)) in
      let values : AllBounded layout (register_lines 0 (w.regs ++ bits layout w)) =
      rw (register_lines-append 0 w.regs (bits layout w)) (bounded-append layout (register_lines 0 w.regs)
      (register_lines (0 + length w.regs) (bits layout w)) registers flags) in
      (tt, bounded-append layout (register_lines 0 (w.regs ++ bits layout w)) (byte_lines layout w) values more)

  all_bounded : AllBounded layout (NamedLine t.named ∷ lines_behind layout t.start)
  all_bounded = (named, behind_bounded)

  told_back : told_of layout known (map (λ l. Some l) (NamedLine t.named ∷ lines_behind layout t.start)) ≡ StateIs t
  told_back =
      let w = t.start in
      let free = state_free layout known t.named w written.count (bytes_of known w.bytes written.bytes written.unknown) (rising_of w.bytes written.bytes_rise)
      (choices_of w.choices written.choices) (rising_of w.choices written.choices_rise) in
      ap (λ r. told_by layout r (map (λ l. Some l) (NamedLine t.named ∷ lines_behind layout w))) free
      ∙ ap (λ x. StateIs (record { named = t.named; start = x })) (start_given layout w written.count written.flags)

  pub printed_back : state_of layout known (printed layout t) ≡ StateIs t
  unfolding state_of printed
  printed_back =
      ap (λ ls. told_of layout known (map (line_of layout) ls))
      (split_lines_of (state_lines layout t) (lines_above layout good (NamedLine t.named ∷ lines_behind layout t.start) all_bounded))
      ∙ ap (told_of layout known) (lines_back layout good (NamedLine t.named ∷ lines_behind layout t.start) all_bounded) ∙ told_back
