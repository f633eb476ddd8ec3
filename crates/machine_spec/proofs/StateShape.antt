-- Lines of which none is refused are those of a written state.
use Rattle.std.proofs.Common.{◌≡◌, ℕ, zero, suc, ◌+◌, ◌≤◌, refl, ap, sym, ◌∙◌, arith, Bool, true, false, List, [], ◌∷◌, ◌++◌, Option, Some, None, length}
use Rattle.std.specs.Prelude.{map}
use Rattle.std.specs.List.{list_any, list_all}
use Rattle.std.proofs.lemmas.Bool.Decides.{nat_tests}
use Rattle.machine_spec.specs.Endings.{NamedEnding}
use Rattle.machine_spec.specs.StateText.{Layout, StateLine, NamedLine, MachineLine, RegisterLine, ByteLine, ChoiceLine, EndLine, StateFault, value_names, register_lines, is_byte_below, is_choice_below, is_end_line, is_behind_bytes, lines_of_head, line_refusal, end_refusal, refused_or, first_refused}
use Rattle.machine_spec.proofs.StateLines.{IsBounded}
use Rattle.machine_spec.proofs.StateBack.{is_head, no_end, Bytes, Choices, Next, Rising, BytesBelow, ChoicesBelow}
use Rattle.machine_spec.proofs.StateSaid.{IsSmall}

-- a line that isn't refused, before lines of which none is
parts : (n : ℕ) (r : Option StateFault) (later : Option (ℕ × StateFault)) → refused_or n r later ≡ None → (r ≡ None) × (later ≡ None)
parts n (Some f) later e = absurd (let z : ◌≡◌ {A = Option (ℕ × StateFault)} (Some (n, f)) None = e in cc)
parts n None later e = (refl, e)

no_line : {P : Type 0} (x : ℕ × StateFault) → ◌≡◌ {A = Option (ℕ × StateFault)} (Some x) None → P
no_line x e = absurd (let z : ◌≡◌ {A = Option (ℕ × StateFault)} (Some x) None = e in cc)

module _ (layout : Layout) (known : ℕ → Bool) where
  abbrev IsFree : List StateLine → List (Option StateLine) → Type 0
  IsFree before ls = first_refused layout known before ls ≡ None

  free_end : (before : List StateLine) → IsFree before [] → end_refusal layout before ≡ None
  free_end before e = (parts (length before + 1) (end_refusal layout before) None e).0

  free_line : (before : List StateLine) (l : StateLine) (rest : List (Option StateLine)) → IsFree before (Some l ∷ rest) →
      (line_refusal layout known before l ≡ None) × IsFree (l ∷ before) rest
  free_line before l rest e = parts (length before + 1) (line_refusal layout known before l) (first_refused layout known (l ∷ before) rest) e

  -- every line is one that can be written, but for great choices
  abbrev pub Good : List (Option StateLine) → Type 0
  Good [] = Unit {0}
  Good (None ∷ rest) = Good rest
  Good (Some l ∷ rest) = (IsSmall l → IsBounded layout l) × Good rest

  pub record FirstShape (ls : List (Option StateLine)) : Type 0 where
    pub named : NamedEnding
    pub rest : List (Option StateLine)
    pub is : ls ≡ Some (NamedLine named) ∷ Some MachineLine ∷ rest
    pub free : IsFree (MachineLine ∷ NamedLine named ∷ []) rest

  second_shape : (n : NamedEnding) (ls : List (Option StateLine)) → IsFree (NamedLine n ∷ []) ls → FirstShape (Some (NamedLine n) ∷ ls)
  second_shape n [] e = absurd (grind (arith, nat_tests, free_end (NamedLine n ∷ []) e))
  second_shape n (None ∷ rest) e = no_line _ e
  second_shape n (Some (NamedLine m) ∷ rest) e = no_line _ e
  second_shape n (Some MachineLine ∷ rest) e = record { named = n; rest = rest; is = refl; free = e }
  second_shape n (Some (RegisterLine i v) ∷ rest) e = no_line _ e
  second_shape n (Some (ByteLine a v) ∷ rest) e = no_line _ e
  second_shape n (Some (ChoiceLine s c) ∷ rest) e = no_line _ e
  second_shape n (Some EndLine ∷ rest) e = no_line _ e

  pub first_shape : (ls : List (Option StateLine)) → IsFree [] ls → FirstShape ls
  first_shape [] e = absurd (grind (arith, nat_tests, free_end [] e))
  first_shape (None ∷ rest) e = no_line _ e
  first_shape (Some (NamedLine n) ∷ rest) e = second_shape n rest e
  first_shape (Some MachineLine ∷ rest) e = no_line _ e
  first_shape (Some (RegisterLine i v) ∷ rest) e = no_line _ e
  first_shape (Some (ByteLine a v) ∷ rest) e = no_line _ e
  first_shape (Some (ChoiceLine s c) ∷ rest) e = no_line _ e
  first_shape (Some EndLine ∷ rest) e = no_line _ e

  -- registers and flags
  pub record RegisterShape (i k : ℕ) (ls : List (Option StateLine)) : Type 0 where
    pub values : List ℕ
    pub rest : List (Option StateLine)
    pub after : List StateLine
    pub count : length values ≡ k
    pub is : ls ≡ map (λ l. Some l) (register_lines i values) ++ rest
    pub long : length after ≡ lines_of_head layout
    pub heads : list_all is_head after ≡ true
    pub free : IsFree after rest

  one_register : (i j v : ℕ) (values : List ℕ) (ls rest : List (Option StateLine)) → i ≡ j → ls ≡ map (λ l. Some l) (register_lines (i + 1) values) ++ rest →
      Some (RegisterLine j v) ∷ ls ≡ map (λ l. Some l) (register_lines i (v ∷ values)) ++ rest
  one_register i j v values ls rest same is = ap (λ x. Some (RegisterLine x v) ∷ ls) (sym same) ∙ ap (λ x. Some (RegisterLine i v) ∷ x) is

  pub register_shape : (k i : ℕ) (before : List StateLine) (ls : List (Option StateLine)) → i + k ≡ length (value_names layout) → length before ≡ 2 + i →
      list_all is_head before ≡ true → IsFree before ls → RegisterShape i k ls
  register_shape zero i before ls all many heads e =
      record { values = []; rest = ls; after = before; count = refl; is = refl; long = omega (arith, all, many); heads = heads; free = e }
  register_shape (suc k) i before [] all many heads e = absurd (grind (arith, nat_tests, free_end before e))
  register_shape (suc k) i before (None ∷ rest) all many heads e = no_line _ e
  register_shape (suc k) i before (Some (NamedLine n) ∷ rest) all many heads e = absurd (grind (arith, nat_tests, (free_line before (NamedLine n) rest e).0))
  register_shape (suc k) i before (Some MachineLine ∷ rest) all many heads e = absurd (grind (arith, nat_tests, (free_line before MachineLine rest e).0))
  register_shape (suc k) i before (Some (RegisterLine j v) ∷ rest) all many heads e =
      let p = free_line before (RegisterLine j v) rest e in
      let same : i ≡ j = grind (arith, nat_tests, p.0) in
      let later = register_shape k (i + 1) (RegisterLine j v ∷ before) rest (omega (arith, all)) (omega (arith, many)) heads p.1 in
      record {
        values = v ∷ later.values;
        rest = later.rest;
        after = later.after;
        count = ap suc later.count;
        is = one_register i j v later.values rest later.rest same later.is;
        long = later.long;
        heads = later.heads;
        free = later.free;
      }
  register_shape (suc k) i before (Some (ByteLine a v) ∷ rest) all many heads e = absurd (grind (arith, nat_tests, (free_line before (ByteLine a v) rest e).0))
  register_shape (suc k) i before (Some (ChoiceLine s c) ∷ rest) all many heads e = absurd
      (grind (arith, nat_tests, (free_line before (ChoiceLine s c) rest e).0))
  register_shape (suc k) i before (Some EndLine ∷ rest) all many heads e = absurd (grind (arith, nat_tests, (free_line before EndLine rest e).0))

  -- what stands behind the end
  nothing_behind : (before : List StateLine) (ls : List (Option StateLine)) → lines_of_head layout ≤ length before → list_any is_end_line before ≡ true →
      Good ls →
      IsFree before ls → ls ≡ []
  nothing_behind before [] long ended good e = refl
  nothing_behind before (None ∷ rest) long ended good e = no_line _ e
  nothing_behind before (Some (NamedLine n) ∷ rest) long ended good e = absurd (grind (arith, nat_tests, (free_line before (NamedLine n) rest e).0))
  nothing_behind before (Some MachineLine ∷ rest) long ended good e = absurd (grind (arith, nat_tests, (free_line before MachineLine rest e).0))
  nothing_behind before (Some (RegisterLine i v) ∷ rest) long ended good e =
      let place = (good.0 tt).0 in absurd (grind (arith, nat_tests, place, (free_line before (RegisterLine i v) rest e).0))
  nothing_behind before (Some (ByteLine a v) ∷ rest) long ended good e = absurd (by_test (list_any is_behind_bytes before) refl)
    where
      by_test : (t : Bool) → list_any is_behind_bytes before ≡ t → ⊥
      by_test true t = grind (arith, nat_tests, (free_line before (ByteLine a v) rest e).0)
      by_test false t = let z : true ≡ false = sym ended ∙ no_end before t in cc
  nothing_behind before (Some (ChoiceLine s c) ∷ rest) long ended good e = absurd (grind (arith, nat_tests, (free_line before (ChoiceLine s c) rest e).0))
  nothing_behind before (Some EndLine ∷ rest) long ended good e = absurd (grind (arith, nat_tests, (free_line before EndLine rest e).0))

  -- choices and the end
  pub record ChoiceShape (before : List StateLine) (ls : List (Option StateLine)) : Type 0 where
    pub choices : List (ℕ × ℕ)
    pub is : ls ≡ map (λ l. Some l) (map (λ c. ChoiceLine c.0 c.1) choices ++ EndLine ∷ [])
    pub below : ChoicesBelow before choices
    pub good : Choices choices
    pub rising : Rising choices

  end_shape : (before : List StateLine) (rest : List (Option StateLine)) → rest ≡ [] → ChoiceShape before (Some EndLine ∷ rest)
  end_shape before rest e = record { choices = []; is = ap (λ x. Some EndLine ∷ x) e; below = tt; good = tt; rising = tt }

  next_choice_of : (before : List StateLine) (c : ℕ × ℕ) (cs : List (ℕ × ℕ)) → ChoicesBelow (ChoiceLine c.0 c.1 ∷ before) cs → Next c cs
  next_choice_of before c [] below = tt
  next_choice_of before c (d ∷ cs) below = grind (arith, nat_tests, below)

  choice_shape : (before : List StateLine) (ls : List (Option StateLine)) → lines_of_head layout ≤ length before → list_any is_end_line before ≡ false →
      list_any is_behind_bytes before ≡ true → Good ls → IsFree before ls → ChoiceShape before ls
  choice_shape before [] long open' behind good e = absurd (grind (arith, nat_tests, free_end before e))
  choice_shape before (None ∷ rest) long open' behind good e = no_line _ e
  choice_shape before (Some (NamedLine n) ∷ rest) long open' behind good e = absurd (grind (arith, nat_tests, (free_line before (NamedLine n) rest e).0))
  choice_shape before (Some MachineLine ∷ rest) long open' behind good e = absurd (grind (arith, nat_tests, (free_line before MachineLine rest e).0))
  choice_shape before (Some (RegisterLine i v) ∷ rest) long open' behind good e =
      let place = (good.0 tt).0 in absurd (grind (arith, nat_tests, place, (free_line before (RegisterLine i v) rest e).0))
  choice_shape before (Some (ByteLine a v) ∷ rest) long open' behind good e = absurd (grind (arith, nat_tests, (free_line before (ByteLine a v) rest e).0))
  choice_shape before (Some (ChoiceLine s c) ∷ rest) long open' behind good e =
      let p = free_line before (ChoiceLine s c) rest e in
      let below : list_all (is_choice_below s) before ≡ true = grind (arith, nat_tests, p.0) in
      let low : 1 ≤ c = grind (arith, nat_tests, p.0) in
      let high : c ≤ 3 = grind (arith, nat_tests, p.0) in
      let bounds = good.0 (omega arith) in
      let later = choice_shape (ChoiceLine s c ∷ before) rest (omega (arith, long)) open' refl good.1 p.1 in
      record {
        choices = (s, c) ∷ later.choices;
        is = ap (λ x. Some (ChoiceLine s c) ∷ x) later.is;
        below = below;
        good = (bounds.0, low, high, later.good);
        rising = (next_choice_of before (s, c) later.choices later.below, later.rising);
      }
  choice_shape before (Some EndLine ∷ rest) long open' behind good e =
      end_shape before rest (nothing_behind (EndLine ∷ before) rest (omega (arith, long)) refl good.1 (free_line before EndLine rest e).1)

  -- bytes, and what stands behind them
  pub record ByteShape (before : List StateLine) (ls : List (Option StateLine)) : Type 0 where
    pub bytes : List (ℕ × ℕ)
    pub choices : List (ℕ × ℕ)
    pub is : ls ≡ map (λ l. Some l) (map (λ b. ByteLine b.0 b.1) bytes ++ (map (λ c. ChoiceLine c.0 c.1) choices ++ EndLine ∷ []))
    pub below : BytesBelow before bytes
    pub good_bytes : Bytes known bytes
    pub rising_bytes : Rising bytes
    pub good_choices : Choices choices
    pub rising_choices : Rising choices

  no_more_bytes : (before : List StateLine) (ls : List (Option StateLine)) → ChoiceShape before ls → ByteShape before ls
  no_more_bytes before ls c = record {
    bytes = [];
    choices = c.choices;
    is = c.is;
    below = tt;
    good_bytes = tt;
    rising_bytes = tt;
    good_choices = c.good;
    rising_choices = c.rising;
  }

  next_byte_of : (before : List StateLine) (b : ℕ × ℕ) (bs : List (ℕ × ℕ)) → BytesBelow (ByteLine b.0 b.1 ∷ before) bs → Next b bs
  next_byte_of before b [] below = tt
  next_byte_of before b (d ∷ bs) below = grind (arith, nat_tests, below)

  first_choice : (before : List StateLine) (s c : ℕ) (rest : List (Option StateLine)) → lines_of_head layout ≤ length before →
      list_any is_behind_bytes before ≡ false →
      Good (Some (ChoiceLine s c) ∷ rest) → IsFree before (Some (ChoiceLine s c) ∷ rest) → ChoiceShape before (Some (ChoiceLine s c) ∷ rest)
  first_choice before s c rest long none good e =
      let p = free_line before (ChoiceLine s c) rest e in
      let below : list_all (is_choice_below s) before ≡ true = grind (arith, nat_tests, p.0) in
      let low : 1 ≤ c = grind (arith, nat_tests, p.0) in
      let high : c ≤ 3 = grind (arith, nat_tests, p.0) in
      let bounds = good.0 (omega arith) in
      let later = choice_shape (ChoiceLine s c ∷ before) rest (omega (arith, long)) (no_end before none) refl good.1 p.1 in
      record {
        choices = (s, c) ∷ later.choices;
        is = ap (λ x. Some (ChoiceLine s c) ∷ x) later.is;
        below = below;
        good = (bounds.0, low, high, later.good);
        rising = (next_choice_of before (s, c) later.choices later.below, later.rising);
      }

  pub byte_shape : (before : List StateLine) (ls : List (Option StateLine)) → lines_of_head layout ≤ length before → list_any is_behind_bytes before ≡ false →
      Good ls →
      IsFree before ls → ByteShape before ls
  byte_shape before [] long none good e = absurd (let z = no_end before none in grind (arith, nat_tests, z, free_end before e))
  byte_shape before (None ∷ rest) long none good e = no_line _ e
  byte_shape before (Some (NamedLine n) ∷ rest) long none good e = absurd (grind (arith, nat_tests, (free_line before (NamedLine n) rest e).0))
  byte_shape before (Some MachineLine ∷ rest) long none good e = absurd (grind (arith, nat_tests, (free_line before MachineLine rest e).0))
  byte_shape before (Some (RegisterLine i v) ∷ rest) long none good e =
      let place = (good.0 tt).0 in absurd (grind (arith, nat_tests, place, (free_line before (RegisterLine i v) rest e).0))
  byte_shape before (Some (ByteLine a v) ∷ rest) long none good e =
      let p = free_line before (ByteLine a v) rest e in
      let below : list_all (is_byte_below a) before ≡ true = grind (arith, nat_tests, p.0) in
      let low : 1 ≤ v = grind (arith, nat_tests, p.0) in
      let free : known a ≡ false = grind (arith, nat_tests, p.0) in
      let bounds = good.0 tt in
      let later = byte_shape (ByteLine a v ∷ before) rest (omega (arith, long)) none good.1 p.1 in
      record {
        bytes = (a, v) ∷ later.bytes;
        choices = later.choices;
        is = ap (λ x. Some (ByteLine a v) ∷ x) later.is;
        below = below;
        good_bytes = (bounds.0, low, omega (arith, bounds.1), free, later.good_bytes);
        rising_bytes = (next_byte_of before (a, v) later.bytes later.below, later.rising_bytes);
        good_choices = later.good_choices;
        rising_choices = later.rising_choices;
      }
  byte_shape before (Some (ChoiceLine s c) ∷ rest) long none good e = no_more_bytes before (Some (ChoiceLine s c)
      ∷ rest) (first_choice before s c rest long none good e)
  byte_shape before (Some EndLine ∷ rest) long none good e =
      no_more_bytes before (Some EndLine ∷ rest)
      (end_shape before rest (nothing_behind (EndLine ∷ before) rest (omega (arith, long)) refl good.1 (free_line before EndLine rest e).1))
