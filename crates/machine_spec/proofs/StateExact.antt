-- A text that says a state is printed of it.
use Rattle.std.proofs.Common.{◌≡◌, ℕ, zero, suc, ◌+◌, ◌*◌, ◌^◌, ◌<◌, ◌≤◌, refl, ap, sym, ◌∙◌, subst, arith, Bool, false, List, [], ◌∷◌, ◌++◌, Option, Some, None, length, get_or, take, drop, length-append, length-take, length-drop, mod-eq_of_lt, zero-add}
use Rattle.std.proofs.Math.Nat.{pow-suc}
use Rattle.std.specs.Prelude.{map, All}
use Rattle.std.proofs.lemmas.List.{map-append, take-append-drop}
use Rattle.word_spec.specs.Texts.{joined, split_lines}
use Rattle.machine_spec.specs.StateText.{Layout, StateText, IsWritten, IsNamed, AreRising, StateLine, NamedLine, MachineLine, ByteLine, ChoiceLine, EndLine, StateFault, value_names, words_of_line, register_lines, flag_bits, lines_behind, state_lines, line_of, last_step, first_refused, number_of_bits, StateIs, StateRefused, told_by, told_of, state_of}
use Rattle.word_spec.specs.State.{Written}
use Rattle.machine_spec.proofs.StateBack.{Bytes, Choices, Next, Rising, none_behind, bits_count, bits_number, start_given}
use Rattle.machine_spec.proofs.StateSaid.{IsSmall, line_said}
use Rattle.machine_spec.proofs.StateShape.{Good, FirstShape, first_shape, RegisterShape, register_shape, ByteShape, byte_shape}

-- bits and their number
abbrev Bits : List ℕ → Type 0
Bits [] = Unit {0}
Bits (b ∷ bs) = (b ≤ 1) × Bits bs

bits_below : (bs : List ℕ) → Bits bs → number_of_bits bs < 2 ^ length bs
bits_below [] p = omega arith
bits_below (zero ∷ bs) p = omega (arith, bits_below bs p.1, pow-suc 2 (length bs))
bits_below (suc zero ∷ bs) p = omega (arith, bits_below bs p.1, pow-suc 2 (length bs))
bits_below (suc (suc b) ∷ bs) p = absurd (omega (arith, p.0))

same_cons : (a b : ℕ) (as' bs : List ℕ) → a ≡ b → as' ≡ bs → a ∷ as' ≡ b ∷ bs
same_cons a b as' bs e f = ap (λ x. x ∷ as') e ∙ ap (λ x. b ∷ x) f

bits_same : (as' bs : List ℕ) → length as' ≡ length bs → Bits as' → Bits bs → number_of_bits as' ≡ number_of_bits bs → as' ≡ bs
bits_same [] [] count p q e = refl
bits_same [] (b ∷ bs) count p q e = absurd (omega (arith, count))
bits_same (a ∷ as') [] count p q e = absurd (omega (arith, count))
bits_same (a ∷ as') (b ∷ bs) count p q e =
    let counts : length as' ≡ length bs = omega (arith, count) in
    let power : 2 ^ length as' ≡ 2 ^ length bs = ap (λ n. 2 ^ n) counts in
    let below = bits_below as' p.1 in
    let under = bits_below bs q.1 in
    let whole : a * 2 ^ length bs + number_of_bits as' ≡ b * 2 ^ length bs + number_of_bits bs = ap (λ x. a * x + number_of_bits as') (sym power) ∙ e in
    let both = digits a b (2 ^ length bs) (number_of_bits as') (number_of_bits bs) p.0 q.0 (omega (arith, below, power)) under whole in
    same_cons a b as' bs both.0 (bits_same as' bs counts p.1 q.1 both.1)
  where
    digits : (a b n x y : ℕ) → a ≤ 1 → b ≤ 1 → x < n → y < n → a * n + x ≡ b * n + y → (a ≡ b) × (x ≡ y)
    digits zero zero n x y h k p q e = (refl, omega (arith, e))
    digits zero (suc zero) n x y h k p q e = absurd (omega (arith, e))
    digits (suc zero) zero n x y h k p q e = absurd (omega (arith, e))
    digits (suc zero) (suc zero) n x y h k p q e = (refl, omega (arith, e))
    digits (suc (suc a)) b n x y h k p q e = absurd (omega (arith, h))
    digits zero (suc (suc b)) n x y h k p q e = absurd (omega (arith, k))
    digits (suc zero) (suc (suc b)) n x y h k p q e = absurd (omega (arith, k))

bits_are : (n f : ℕ) → Bits (flag_bits n f)
bits_are zero f = tt
bits_are (suc n) f = (omega arith, bits_are n f)

bits_back : (bs : List ℕ) → Bits bs → flag_bits (length bs) (number_of_bits bs) ≡ bs
bits_back bs p =
    bits_same (flag_bits (length bs) (number_of_bits bs)) bs (bits_count (length bs) (number_of_bits bs)) (bits_are (length bs) (number_of_bits bs)) p
    (bits_number (length bs) (number_of_bits bs) ∙ mod-eq_of_lt (bits_below bs p))

-- the facts of a start, for each element
all_bytes : (known : ℕ → Bool) (bs : List (ℕ × ℕ)) → Bytes known bs → All (λ b. (b.0 < 2 ^ 32) × (1 ≤ b.1) × (b.1 ≤ 255)) bs
all_bytes known [] p k d h = absurd (omega arith)
all_bytes known (b ∷ bs) p zero d h = (p.0, p.1, p.2)
all_bytes known (b ∷ bs) p (suc k) d h = all_bytes known bs p.4 k d (omega arith)

all_unknown : (known : ℕ → Bool) (bs : List (ℕ × ℕ)) → Bytes known bs → All (λ b. known b.0 ≡ false) bs
all_unknown known [] p k d h = absurd (omega arith)
all_unknown known (b ∷ bs) p zero d h = p.3
all_unknown known (b ∷ bs) p (suc k) d h = all_unknown known bs p.4 k d (omega arith)

all_choices : (cs : List (ℕ × ℕ)) → Choices cs → All (λ c. (c.0 ≤ last_step) × (1 ≤ c.1) × (c.1 ≤ 3)) cs
all_choices [] p k d h = absurd (omega arith)
all_choices (c ∷ cs) p zero d h = (p.0, p.1, p.2)
all_choices (c ∷ cs) p (suc k) d h = all_choices cs p.3 k d (omega arith)

above_first : (x : ℕ × ℕ) (xs : List (ℕ × ℕ)) → Next x xs → Rising xs → (j : ℕ) (d : ℕ × ℕ) → j < length xs → x.0 < (get_or xs j d).0
above_first x [] n p j d h = absurd (omega arith)
above_first x (y ∷ ys) n p zero d h = n
above_first x (y ∷ ys) n p (suc j) d h = omega (arith, n, above_first y ys p.0 p.1 j d (omega arith))

all_rising : (xs : List (ℕ × ℕ)) → Rising xs → AreRising xs
all_rising [] p i j d h k = absurd (omega arith)
all_rising (x ∷ xs) p i zero d h k = absurd (omega arith)
all_rising (x ∷ xs) p zero (suc j) d h k = above_first x xs p.0 p.1 j d (omega arith)
all_rising (x ∷ xs) p (suc i) (suc j) d h k = all_rising xs p.1 i j d (omega arith) (omega arith)

abbrev Words : List ℕ → Type 0
Words [] = Unit {0}
Words (v ∷ vs) = (v < 2 ^ 32) × Words vs

all_words : (vs : List ℕ) → Words vs → All (λ v. v < 2 ^ 32) vs
all_words [] p k d h = absurd (omega arith)
all_words (v ∷ vs) p zero d h = p.0
all_words (v ∷ vs) p (suc k) d h = all_words vs p.1 k d (omega arith)

abbrev AllSmall : List StateLine → Type 0
AllSmall [] = Unit {0}
AllSmall (l ∷ ls) = IsSmall l × AllSmall ls

small_choices : (cs : List (ℕ × ℕ)) → Choices cs → AllSmall (map (λ c. ChoiceLine c.0 c.1) cs ++ EndLine ∷ [])
small_choices [] p = (tt, tt)
small_choices (c ∷ cs) p = (omega (arith, p.2), small_choices cs p.3)

small_bytes : (bs : List (ℕ × ℕ)) (rest : List StateLine) → AllSmall rest → AllSmall (map (λ b. ByteLine b.0 b.1) bs ++ rest)
small_bytes [] rest p = p
small_bytes (b ∷ bs) rest p = (tt, small_bytes bs rest p)

small_registers : (i : ℕ) (vs : List ℕ) (rest : List StateLine) → AllSmall rest → AllSmall (register_lines i vs ++ rest)
small_registers i [] rest p = p
small_registers i (v ∷ vs) rest p = (tt, small_registers (i + 1) vs rest p)

module _ (layout : Layout) (known : ℕ → Bool) where
  -- lines that are read
  good_lines : (texts : List (List ℕ)) → Good layout known (map (line_of layout) texts)
  good_lines [] = tt
  good_lines (s ∷ texts) = by_line (line_of layout s) refl (good_lines texts)
    where
      by_line : (o : Option StateLine) → line_of layout s ≡ o → Good layout known (map (line_of layout) texts) →
          Good layout known (o ∷ map (line_of layout) texts)
      by_line None e rest = rest
      by_line (Some l) e rest = ((λ small. (line_said layout s l e small).0), rest)

  texts_are : (texts : List (List ℕ)) (ms : List StateLine) → AllSmall ms → map (line_of layout) texts ≡ map (λ l. Some l) ms →
      texts ≡ map (λ l. joined (words_of_line layout l)) ms
  texts_are [] [] small e = refl
  texts_are [] (m ∷ ms) small e = absurd (omega (arith, ap length e))
  texts_are (s ∷ texts) [] small e = absurd (omega (arith, ap length e))
  texts_are (s ∷ texts) (m ∷ ms) small e =
      let head : line_of layout s ≡ Some m = ap (λ x. get_or x 0 None) e in
      let tail : map (line_of layout) texts ≡ map (λ l. Some l) ms = ap (drop 1) e in
      ap (λ x. x ∷ texts) (line_said layout s m head small.0).1 ∙ ap (λ x. joined (words_of_line layout m) ∷ x) (texts_are texts ms small.1 tail)

  -- values of registers and flags
  drop_registers : (i : ℕ) (vs : List ℕ) (rest : List (Option StateLine)) → Good layout known (map (λ l. Some l) (register_lines i vs) ++ rest) →
      Good layout known rest
  drop_registers i [] rest p = p
  drop_registers i (v ∷ vs) rest p = drop_registers (i + 1) vs rest p.1

  register_words : (j i : ℕ) (vs : List ℕ) (rest : List (Option StateLine)) → i + j ≡ length layout.registers →
      Good layout known (map (λ l. Some l) (register_lines i vs) ++ rest) → Words (take j vs)
  register_words zero i vs rest e p = tt
  register_words (suc j) i [] rest e p = tt
  register_words (suc j) i (v ∷ vs) rest e p = ((p.0 tt).1 (omega (arith, e)), register_words j (i + 1) vs rest (omega (arith, e)) p.1)

  flag_values : (j i : ℕ) (vs : List ℕ) (rest : List (Option StateLine)) → length layout.registers ≤ i + j →
      Good layout known (map (λ l. Some l) (register_lines i vs) ++ rest) → Bits (drop j vs)
  flag_values zero i [] rest e p = tt
  flag_values zero i (v ∷ vs) rest e p = ((p.0 tt).2 (omega (arith, e)), flag_values zero (i + 1) vs rest (omega (arith, e)) p.1)
  flag_values (suc j) i [] rest e p = tt
  flag_values (suc j) i (v ∷ vs) rest e p = flag_values j (i + 1) vs rest (omega (arith, e)) p.1

  -- the state of a text that isn't refused
  pub record Exact (texts : List (List ℕ)) (t : StateText) : Type 0 where
    pub written : IsWritten layout known t.start
    pub named : IsNamed t.named
    pub lines : texts ≡ state_lines layout t

  not_refused : (ls : List (Option StateLine)) (t : StateText) (r : Option (ℕ × StateFault)) → told_by layout r ls ≡ StateIs t → r ≡ None
  not_refused ls t None e = refl
  not_refused ls t (Some x) e = absurd (let z : StateRefused x.0 x.1 ≡ StateIs t = e in cc)

  is_state : (a t : StateText) → StateIs a ≡ StateIs t → a ≡ t
  is_state a t e = cc

  module _ (texts : List (List ℕ)) (t : StateText) (e : told_of layout known (map (line_of layout) texts) ≡ StateIs t) where
    abbrev ls : List (Option StateLine)
    ls = map (line_of layout) texts

    free : first_refused layout known [] ls ≡ None
    free = not_refused ls t (first_refused layout known [] ls) e

    abbrev first : FirstShape layout known ls
    first = first_shape layout known ls free

    first_good : Good layout known (Some (NamedLine first.named) ∷ Some MachineLine ∷ first.rest)
    first_good = subst (Good layout known) first.is (good_lines texts)

    abbrev registers : RegisterShape layout known 0 (length (value_names layout)) first.rest
    registers =
        register_shape layout known (length (value_names layout)) 0 (MachineLine ∷ NamedLine first.named
        ∷ []) first.rest (zero-add (length (value_names layout))) refl refl first.free

    register_good : Good layout known (map (λ l. Some l) (register_lines 0 registers.values) ++ registers.rest)
    register_good = subst (Good layout known) registers.is first_good.1.1

    abbrev tail : ByteShape layout known registers.after registers.rest
    tail =
        byte_shape layout known registers.after registers.rest (omega (arith, registers.long)) (none_behind registers.after registers.heads)
        (drop_registers 0 registers.values registers.rest register_good) registers.free

    abbrev k : ℕ
    k = length layout.registers

    abbrev bits : List ℕ
    bits = drop k registers.values

    abbrev start : Written
    start = record { regs = take k registers.values; flags = number_of_bits bits; bytes = tail.bytes; choices = tail.choices }

    names_count : length (value_names layout) ≡ length layout.registers + length layout.flags
    names_count = length-append layout.registers layout.flags

    regs_count : length (take k registers.values) ≡ length layout.registers
    regs_count = length-take k registers.values ∙ omega (arith, registers.count, names_count)

    flags_count : length bits ≡ length layout.flags
    flags_count = length-drop k registers.values ∙ omega (arith, registers.count, names_count)

    bits_good : Bits bits
    bits_good = flag_values k 0 registers.values registers.rest (omega arith) register_good

    values_are : registers.values ≡ take k registers.values ++ flag_bits (length layout.flags) (number_of_bits bits)
    values_are =
        sym (take-append-drop k registers.values)
        ∙ ap (λ x. take k registers.values ++ x) (sym (bits_back bits bits_good) ∙ ap (λ n. flag_bits n (number_of_bits bits)) flags_count)

    abbrev more : List StateLine
    more = map (λ b. ByteLine b.0 b.1) tail.bytes ++ (map (λ c. ChoiceLine c.0 c.1) tail.choices ++ EndLine ∷ [])

    rest_is : first.rest ≡ map (λ l. Some l) (register_lines 0 (start.regs ++ flag_bits (length layout.flags) start.flags) ++ more)
    rest_is =
        registers.is ∙ ap (λ x. map (λ l. Some l) (register_lines 0 registers.values) ++ x) tail.is
        ∙ sym (map-append (λ l. Some l) (register_lines 0 registers.values) more) ∙ ap (λ x. map (λ l. Some l) (register_lines 0 x ++ more)) values_are

    ls_are : ls ≡ map (λ l. Some l) (NamedLine first.named ∷ lines_behind layout start)
    ls_are = first.is ∙ ap (λ x. Some (NamedLine first.named) ∷ Some MachineLine ∷ x) rest_is

    flags_below : start.flags < 2 ^ length layout.flags
    flags_below = subst (λ n. start.flags < 2 ^ n) flags_count (bits_below bits bits_good)

    state_is : record { named = first.named; start = start } ≡ t
    state_is =
        is_state (record { named = first.named; start = start }) t
        (ap (λ w. StateIs (record { named = first.named; start = w })) (sym (start_given layout start regs_count flags_below))
        ∙ sym (ap (told_by layout None) ls_are) ∙ sym (ap (λ r. told_by layout r ls) free) ∙ e)

    written : IsWritten layout known start
    written = record {
      count = regs_count;
      words = all_words start.regs (register_words k 0 registers.values registers.rest (omega arith) register_good);
      flags = flags_below;
      bytes = all_bytes known tail.bytes tail.good_bytes;
      bytes_rise = all_rising tail.bytes tail.rising_bytes;
      unknown = all_unknown known tail.bytes tail.good_bytes;
      choices = all_choices tail.choices tail.good_choices;
      choices_rise = all_rising tail.choices tail.rising_choices;
    }

    small : AllSmall (NamedLine first.named ∷ lines_behind layout start)
    small = (
      tt,
      (
        tt,
        small_registers 0 (start.regs ++ flag_bits (length layout.flags) start.flags) more
            (small_bytes tail.bytes (map (λ c. ChoiceLine c.0 c.1) tail.choices ++ EndLine ∷ []) (small_choices tail.choices tail.good_choices)),
      ),
    )

    pub exact : Exact texts t
    exact =
        subst (Exact texts) state_is
        (record {
          written = written;
          named = first_good.0 tt;
          lines = texts_are texts (NamedLine first.named ∷ lines_behind layout start) small ls_are;
        })

-- a text that says a state is printed of it
pub told_exact : (layout : Layout) (known : ℕ → Bool) (text : List ℕ) (t : StateText) → state_of layout known text ≡ StateIs t →
    Exact layout known (split_lines text) t
unfolding state_of
told_exact layout known text t e = exact layout known (split_lines text) t e
