-- The symbols that names have are those that a script declares.
use Rattle.std.proofs.Common.{◌≡◌, ◌≢◌, ◌⊎◌, inl, inr, ◌++◌, ℕ, zero, suc, ◌+◌, ◌-◌, ◌<◌, ◌≤◌, ◌^◌, Bool, true, false, arith, List, [], ◌∷◌, Option, Some, None, refl, sym, ap, ◌∙◌, subst, length}
use Rattle.std.specs.Prelude.{◌==◌, ◌&&◌, nat_lt, nat_le, if◌then◌else◌, codes, slice_get, slice_index_or, IfSome}
use Rattle.std.specs.Str.{bytes_eq}
use Rattle.std.specs.Fmt.{digits}
use Rattle.std.proofs.lemmas.Bool.{eqb-true}
use Rattle.std.proofs.lemmas.Bool.Decides.{nat_tests}
use Rattle.std.proofs.lemmas.Slice.Eq.{bytes_eq-Decides}
use Rattle.std.proofs.lemmas.List.{get_or_append_left, get_or-append-add, length-append}
use Rattle.std.proofs.lemmas.Option.{slice_get_within}
use Rattle.word_spec.specs.Memory.{endian}
use Rattle.word_spec.specs.Texts.{at_most, decimal_word, number_text}
use Rattle.machine_spec.specs.StateText.{Layout, rv_layout, arm_layout, value_names, place_in}
use Rattle.machine_spec.proofs.StateLines.{IsLayout, rv_is_layout, arm_is_layout, and_true, is_place, is_plain, is_free, fits, all_below}
use Rattle.machine_spec.proofs.Spelling.{decimal_back}
use Rattle.bilv_spec.specs.Scripts.{choice_name}
use Rattle.start_value.specs.declared.layout.Layout as forms
use Rattle.start_value.specs.declared.layout.Layout.TheVariants.{Rv32, Arm}
use Rattle.start_value.specs.Starts.{layout_of, profile_in}
use Rattle.model_spec.specs.ModelText.{Declared}
use Rattle.frame_spec.specs.FrameScripts.{of_given, of_head}
use Rattle.model_text.specs.declared.symbol.Gift.{Gift}
use Rattle.model_text.specs.declared.symbol.Others.{Others}
use Rattle.model_text.specs.declared.symbol.Symbol.{Symbol}
use Rattle.model_text.specs.declared.symbol.Symbol.TheVariants.{Register, Flag, Choice, Memory, OtherRegister, OtherFlag, OtherMemory}
use Rattle.model_text.specs.Symbols.{IsSymbol, register, flag, memory, choice, AreSymbols, IsFrameSymbol, of_program, of_head_state, of_step, AreFrameSymbols, choice_number, choice_if, choice_symbol, gift_symbol_if, or_other, other_symbol, value_symbol, symbol_in, sort_of, name_at, count_of, is_other, IsNamed, IsOtherName}
use Rattle.model_text.specs.Drafts.{AreApart}
use Rattle.model_text.proofs.DecimalNames.{decimal_said}
use Rattle.model_text.proofs.AnswerForms.{Knows}
use Rattle.model_text.proofs.OtherNames.{gift_named, name_found, or_none, other_first, other_found, some_number, step_named}

-- ---- the names of layouts

-- no two names of registers and flags are alike, and none is the memory's or a choice's
pub record HasOwnNames (layout : Layout) : Type 0 where
  pub place : (i : ℕ) → i < length (value_names layout) → place_in (value_names layout) (slice_index_or (value_names layout) i []) ≡ Some i
  pub no_memory : place_in (value_names layout) (codes "mem") ≡ None
  pub no_choice : (n : ℕ) → place_in (value_names layout) (choice_name n) ≡ None
  pub no_head : (w : List ℕ) → place_in (value_names layout) (104 ∷ w) ≡ None
  pub no_given : (w : List ℕ) → place_in (value_names layout) (103 ∷ w) ≡ None

each_below : (f : ℕ → Bool) (n i : ℕ) → all_below f n ≡ true → i < n → f i ≡ true
each_below f zero i e h = absurd (omega arith)
each_below f (suc n) i e h = by (i == n) refl (and_true (f n) (all_below f n) e) (λ p l. each_below f n i p l)
  where
    by : (b : Bool) → (i == n) ≡ b → (f n ≡ true) × (all_below f n ≡ true) → (all_below f n ≡ true → i < n → f i ≡ true) → f i ≡ true
    by true q p ih = ap f (eqb-true i n q) ∙ p.0
    by false q p ih = ih p.1 (grind (arith, nat_tests, q, h))

placed_at : (o : Option ℕ) (i : ℕ) → is_place o i ≡ true → o ≡ Some i
placed_at None i h = absurd (cc)
placed_at (Some j) i h = let p = and_true (nat_le i j) (nat_le j i) h in let same : j ≡ i = grind (arith, nat_tests, p.0, p.1) in ap Some same

name_place : (layout : Layout) → IsLayout layout → (i : ℕ) → i < length (value_names layout) →
    place_in (value_names layout) (slice_index_or (value_names layout) i []) ≡ Some i
name_place layout good i l =
    let w : List ℕ = slice_index_or (value_names layout) i [] in
    let one = and_true (is_plain w) (is_free w && is_place (place_in (value_names layout) w) i)
    (each_below (fits layout) (length (value_names layout)) i good.names l) in
    placed_at (place_in (value_names layout) w) i (and_true (is_free w) (is_place (place_in (value_names layout) w) i) one.1).1

pub own_names : (form : forms.Layout) → HasOwnNames (layout_of form)
unfolding digits
own_names (Rv32 compressed) = record {
  place = name_place (rv_layout compressed) (rv_is_layout compressed);
  no_memory = refl;
  no_choice = λ n. refl;
  no_head = λ w. refl;
  no_given = λ w. refl;
}
own_names (Arm big profile) = record {
  place = name_place (arm_layout (endian big) (profile_in profile)) (arm_is_layout (endian big) (profile_in profile));
  no_memory = refl;
  no_choice = λ n. refl;
  no_head = λ w. refl;
  no_given = λ w. refl;
}

-- the name of a choice, from its number
pub choice_named : (w : List ℕ) (n : ℕ) → choice_number w ≡ Some n → n < 2 ^ 64 → w ≡ choice_name n
choice_named [] n h l = absurd (cc)
choice_named (b ∷ ds) n h l = by (b == 99) refl h
  where
    by : (t : Bool) → (b == 99) ≡ t → (if t then decimal_word ds else None) ≡ Some n → b ∷ ds ≡ choice_name n
    by true e f = ap (λ (z : ℕ). z ∷ ds) (eqb-true b 99 e) ∙ ap (λ (z : List ℕ). 99 ∷ z) (decimal_said ds n f l)
    by false e f = absurd (cc)

pub choice_if_some : (o : Option Bool) (place : ℕ) (s : Symbol) → choice_if o place ≡ Some s → (o ≡ Some true) × (s ≡ Choice place)
choice_if_some None place s h = absurd (cc)
choice_if_some (Some false) place s h = absurd (cc)
choice_if_some (Some true) place s h = (refl, cc)

module _ (layout : Layout) (drawn : List Bool) (o : Others) (own : HasOwnNames layout) (few : length drawn < 2 ^ 64) (short : length o.given.items < 2 ^ 64) where
  abbrev names : List (List ℕ)
  names = value_names layout

  abbrev as_sort : List ℕ → Symbol → Declared
  as_sort w s = record { name = w; sort = sort_of s }

  choice_found : (w : List ℕ) (o : Option ℕ) (s : Symbol) → choice_number w ≡ o → choice_symbol layout drawn o ≡ Some s → IsSymbol layout drawn (as_sort w s)
  choice_found w None s e h = absurd (cc)
  choice_found w (Some n) s e h =
      let r = choice_if_some (slice_get drawn n) (length names + n) s h in
      let l = slice_get_within drawn n true r.0 in
      subst (λ (z : Symbol). IsSymbol layout drawn (as_sort w z)) (sym r.1)
      (subst (λ (z : List ℕ). IsSymbol layout drawn (as_sort z (Choice (length names + n)))) (sym (choice_named w n e (omega (arith, l, few)))) (choice n r.0))

  place_found : (w : List ℕ) (i : ℕ) (b : Bool) → nat_lt i (length layout.registers) ≡ b → place_in names w ≡ Some i →
      IsSymbol layout drawn (as_sort w (if b then Register i else Flag i))
  place_found w i true e h =
      let r = name_found names w i h in
      let l : i < length layout.registers = grind (arith, nat_tests, e) in
      subst (λ (z : List ℕ). IsSymbol layout drawn (as_sort z (Register i))) (sym (get_or_append_left layout.registers layout.flags [] i l) ∙ r.1) (register
      i l)
  place_found w i false e h =
      let r = name_found names w i h in
      let le : length layout.registers ≤ i = grind (arith, nat_tests, e) in
      let j = i - length layout.registers in
      let back : length layout.registers + j ≡ i = omega (arith, le) in
      let l : j < length layout.flags = omega (arith, le, r.0, length-append layout.registers layout.flags) in
      let name : slice_index_or layout.flags j [] ≡ w =
      sym (get_or-append-add layout.registers layout.flags j []) ∙ ap (λ (z : ℕ). slice_index_or names z []) back ∙ r.1 in
      subst (λ (z : List ℕ). IsSymbol layout drawn (as_sort z (Flag i))) name (flag j l)

  symbol_found : (w : List ℕ) (s : Symbol) → symbol_in layout drawn o w ≡ Some s → IsFrameSymbol layout drawn o (as_sort w s)
  symbol_found w s h = by (bytes_eq w (codes "mem")) refl h
    where
      of_none : (c : Option Symbol) → choice_symbol layout drawn (choice_number w) ≡ c → or_other c (other_symbol layout o w) ≡ Some s →
          IsFrameSymbol layout drawn o (as_sort w s)
      of_none (Some c) e f = of_program (choice_found w (choice_number w) s refl (e ∙ f))
      of_none None e f = other_found layout drawn o short w s f

      of_value : (i : Option ℕ) → place_in names w ≡ i → value_symbol layout drawn o w i ≡ Some s → IsFrameSymbol layout drawn o (as_sort w s)
      of_value None e f = of_none (choice_symbol layout drawn (choice_number w)) refl f
      of_value (Some i) e f =
          let same : (if nat_lt i (length layout.registers) then Register i else Flag i) ≡ s = cc in
          subst (λ (z : Symbol). IsFrameSymbol layout drawn o (as_sort w z)) same (of_program (place_found w i (nat_lt i (length layout.registers)) refl e))

      by : (b : Bool) → bytes_eq w (codes "mem") ≡ b → (if b then Some Memory else value_symbol layout drawn o w (place_in names w)) ≡ Some s →
          IsFrameSymbol layout drawn o (as_sort w s)
      by true e f =
          let same : Memory ≡ s = cc in
          subst (λ (z : Symbol). IsFrameSymbol layout drawn o (as_sort w z)) same
          (subst (λ (z : List ℕ). IsFrameSymbol layout drawn o (as_sort z Memory)) (sym ((bytes_eq-Decides w (codes "mem")).0 e)) (of_program memory))
      by false e f = of_value (place_in names w) refl f

  -- a name of a register or a flag is not the memory's
  not_memory : (i : ℕ) (w : List ℕ) → place_in names w ≡ Some i → (b : Bool) → bytes_eq w (codes "mem") ≡ b → b ≡ false
  not_memory i w h false e = refl
  not_memory i w h true e =
      let x : None ≡ Some i = sym own.no_memory ∙ ap (place_in names) (sym ((bytes_eq-Decides w (codes "mem")).0 e)) ∙ h in absurd (cc)

  pub placed_symbol : (i : ℕ) (w : List ℕ) → place_in names w ≡ Some i → symbol_in layout drawn o w ≡ Some (if nat_lt i (length layout.registers) then Register
      i else Flag i)
  placed_symbol i w h =
      ap (λ (b : Bool). if b then Some Memory else value_symbol layout drawn o w (place_in names w)) (not_memory i w h (bytes_eq w (codes "mem")) refl)
      ∙ ap (value_symbol layout drawn o w) h

  pub register_symbol : (i : ℕ) → i < length layout.registers → symbol_in layout drawn o (slice_index_or layout.registers i []) ≡ Some (Register i)
  register_symbol i l =
      let name : slice_index_or names i [] ≡ slice_index_or layout.registers i [] = get_or_append_left layout.registers layout.flags [] i l in
      let there = own.place i (omega (arith, l, length-append layout.registers layout.flags)) in
      let less : nat_lt i (length layout.registers) ≡ true = grind (arith, nat_tests) in
      ap (symbol_in layout drawn o) (sym name) ∙ placed_symbol i (slice_index_or names i []) there ∙ ap (λ (b : Bool). Some (if b then Register i else Flag i))
      less

  pub flag_symbol : (i : ℕ) → i < length layout.flags →
      symbol_in layout drawn o (slice_index_or layout.flags i []) ≡ Some (Flag (length layout.registers + i))
  flag_symbol i l =
      let at = length layout.registers + i in
      let name : slice_index_or names at [] ≡ slice_index_or layout.flags i [] = get_or-append-add layout.registers layout.flags i [] in
      let there = own.place at (omega (arith, l, length-append layout.registers layout.flags)) in
      let more : nat_lt at (length layout.registers) ≡ false = grind (arith, nat_tests) in
      ap (symbol_in layout drawn o) (sym name) ∙ placed_symbol at (slice_index_or names at []) there ∙ ap (λ (b : Bool). Some (if b then Register at else Flag
      at)) more

  pub choice_symbol_is : (n : ℕ) → n < 2 ^ 64 → symbol_in layout drawn o (choice_name n) ≡ choice_if (slice_get drawn n) (length names + n)
  choice_symbol_is n l =
      ap (λ (i : Option ℕ). value_symbol layout drawn o (choice_name n) i) (own.no_choice n)
      ∙ ap (λ (i : Option ℕ). or_other (choice_symbol layout drawn i) None) (decimal_back n l)
      ∙ or_none (choice_if (slice_get drawn n) (length names + n))

  symbol_named : (d : Declared) → IsFrameSymbol layout drawn o d → (s : Symbol) × (symbol_in layout drawn o d.name ≡ Some s) × (sort_of s ≡ d.sort)
  symbol_named d (of_program (register i l)) = (Register i, register_symbol i l, refl)
  symbol_named d (of_program (flag i l)) = (Flag (length layout.registers + i), flag_symbol i l, refl)
  symbol_named d (of_program memory) = (Memory, refl, refl)
  symbol_named d (of_program (choice n e)) =
      let l = slice_get_within drawn n true e in
      (Choice (length names + n), choice_symbol_is n (omega (arith, l, few)) ∙ ap (λ (b : Option Bool). choice_if b (length names + n)) e, refl)
  symbol_named d (of_head_state g w sort e h) =
      let r = gift_named layout own.place own.no_memory g w sort h in (
        r.0,
        ap (value_symbol layout drawn o (of_head w)) (own.no_head (95 ∷ w)) ∙ ap (λ (x : Option Gift). gift_symbol_if layout x w) e ∙ r.1,
        r.2,
      )
  symbol_named d (of_step n g w sort e h) =
      let r = gift_named layout own.place own.no_memory g w sort h in
      let l = slice_get_within o.given.items n (Some g) e in (
        r.0,
        ap (value_symbol layout drawn o (of_given n w)) (own.no_given ((number_text n ++ codes "_") ++ w))
            ∙ step_named layout o.given.items n g w (omega (arith, l, short)) e ∙ r.1,
        r.2,
      )

  pub symbols_known : (declared : List Declared) → AreFrameSymbols layout drawn o declared → Knows (symbol_in layout drawn o) declared
  symbols_known declared are = record {
    found = λ w s h. (are (as_sort w s)).1 (symbol_found w s h);
    other = λ d c. symbol_named d ((are d).0 c);
  }

-- ---- the names of symbols

not_got : (drawn : List Bool) (n : ℕ) → length drawn ≤ n → slice_get drawn n ≡ None
not_got [] n l = refl
not_got (b ∷ drawn) zero l = absurd (omega (arith, l))
not_got (b ∷ drawn) (suc n) l = not_got drawn n (omega (arith, l))

module _ (layout : Layout) (drawn : List Bool) where
  -- a number above all is that of no choice
  pub no_choice_at : (o : Option ℕ) → at_most (length drawn) o ≡ None → choice_symbol layout drawn o ≡ None
  no_choice_at None h = refl
  no_choice_at (Some n) h = by (nat_le n (length drawn)) refl h
    where
      by : (b : Bool) → nat_le n (length drawn) ≡ b → (if b then Some n else None) ≡ None → choice_if (slice_get drawn n) (length (value_names layout) + n) ≡
          None
      by true e f = absurd (cc)
      by false e f =
          let l : length drawn ≤ n = grind (arith, nat_tests, e) in
          ap (λ (z : Option Bool). choice_if z (length (value_names layout) + n)) (not_got drawn n l)

  pub placed_named : (w : List ℕ) (i : ℕ) → place_in (value_names layout) w ≡ Some i → (i < count_of layout drawn) × (w ≡ name_at layout i)
  placed_named w i h =
      let r = name_found (value_names layout) w i h in
      let e : nat_lt i (length (value_names layout)) ≡ true = grind (arith, nat_tests, r.0) in (
        omega (arith, r.0),
        sym (ap (λ (b : Bool). if b then slice_index_or (value_names layout) i [] else choice_name (i - length (value_names layout))) e ∙ r.1),
      )

  choice_named_at : (w : List ℕ) (n : ℕ) (s : Symbol) → length drawn < 2 ^ 64 → choice_number w ≡ Some n →
      choice_if (slice_get drawn n) (length (value_names layout) + n) ≡ Some s → IsNamed layout (count_of layout drawn) s w
  choice_named_at w n s few e h =
      let r = choice_if_some (slice_get drawn n) (length (value_names layout) + n) s h in
      let l = slice_get_within drawn n true r.0 in
      let at = length (value_names layout) + n in
      let f : nat_lt at (length (value_names layout)) ≡ false = grind (arith, nat_tests) in
      let back : at - length (value_names layout) ≡ n = omega arith in
      let name : name_at layout at ≡ choice_name n =
      ap (λ (b : Bool). if b then slice_index_or (value_names layout) at [] else choice_name (at - length (value_names layout))) f ∙ ap choice_name back in
      subst (λ (z : Symbol). IsNamed layout (count_of layout drawn) z w) (sym r.1) (omega (arith, l), choice_named w n e (omega (arith, l, few)) ∙ sym name)

  pub choice_is_named : (w : List ℕ) (o : Option ℕ) (r : Option Symbol) → length drawn < 2 ^ 64 → choice_number w ≡ o → r ≡ choice_symbol layout drawn o →
      IfSome r (λ s. IsNamed layout (count_of layout drawn) s w)
  choice_is_named w o None few e h = tt
  choice_is_named w None (Some s) few e h = absurd (cc)
  choice_is_named w (Some n) (Some s) few e h = choice_named_at w n s few e (sym h)

-- names of places are apart
module _ (layout : Layout) (drawn : List Bool) (own : HasOwnNames layout) (few : length drawn < 2 ^ 64) where
  abbrev size : ℕ
  size = length (value_names layout)

  -- where a name stands among the registers and the flags
  name_stands : (i : ℕ) (b : Bool) → nat_lt i size ≡ b →
      place_in (value_names layout) (if b then slice_index_or (value_names layout) i [] else choice_name (i - size)) ≡ (if b then Some i else None)
  name_stands i true e = own.place i (grind (arith, nat_tests, e))
  name_stands i false e = own.no_choice (i - size)

  same_choice : (i j : ℕ) → size ≤ i → size ≤ j → i < count_of layout drawn → j < count_of layout drawn → choice_name (i - size) ≡ choice_name (j - size) →
      i ≡ j
  same_choice i j g h k l e =
      let digits_are : number_text (i - size) ≡ number_text (j - size) = ap rest e in
      let numbers : Some (i - size) ≡ Some (j - size) =
      sym (decimal_back (i - size) (omega (arith, k, few))) ∙ ap decimal_word digits_are ∙ decimal_back (j - size) (omega (arith, l, few)) in
      let same = some_number (i - size) (j - size) numbers in omega (arith, same, g, h)
    where
      rest : List ℕ → List ℕ
      rest [] = []
      rest (b ∷ w) = w

  each_apart : (i j : ℕ) (b c : Bool) → nat_lt i size ≡ b → nat_lt j size ≡ c → i < count_of layout drawn → j < count_of layout drawn →
      (if b then slice_index_or (value_names layout) i [] else choice_name (i - size))
      ≡ (if c then slice_index_or (value_names layout) j [] else choice_name (j - size)) → i ≡ j
  each_apart i j true true e f k l same =
      some_number i j (sym (name_stands i true e) ∙ ap (place_in (value_names layout)) same ∙ name_stands j true f)
  each_apart i j true false e f k l same =
      let x : Some i ≡ None = sym (name_stands i true e) ∙ ap (place_in (value_names layout)) same ∙ name_stands j false f in absurd (cc)
  each_apart i j false true e f k l same =
      let x : None ≡ Some j = sym (name_stands i false e) ∙ ap (place_in (value_names layout)) same ∙ name_stands j true f in absurd (cc)
  each_apart i j false false e f k l same = same_choice i j (grind (arith, nat_tests, e)) (grind (arith, nat_tests, f)) k l same

  memory_apart : (i : ℕ) (b : Bool) → nat_lt i size ≡ b → (t : Bool) →
      bytes_eq (if b then slice_index_or (value_names layout) i [] else choice_name (i - size)) (codes "mem") ≡ t → t ≡ false
  memory_apart i b e false h = refl
  memory_apart i true e true h =
      let same = (bytes_eq-Decides (slice_index_or (value_names layout) i []) (codes "mem")).0 h in
      let x : Some i ≡ None = sym (name_stands i true e) ∙ ap (place_in (value_names layout)) same ∙ own.no_memory in absurd (cc)
  memory_apart i false e true h = absurd (cc)

  pub names_apart : AreApart layout (count_of layout drawn)
  names_apart = record {
    each = λ i j k l h. each_apart i j (nat_lt i size) (nat_lt j size) refl refl k l ((bytes_eq-Decides (name_at layout i) (name_at layout j)).0 h);
    memory = λ i k. memory_apart i (nat_lt i size) refl (bytes_eq (name_at layout i) (codes "mem")) refl;
  }

-- the names of the others are apart from those
module _ (layout : Layout) (drawn : List Bool) (o : Others) (own : HasOwnNames layout) where
  none_alike : (w : List ℕ) → place_in (value_names layout) w ≡ None → ((n : ℕ) → choice_name n ≡ w → ⊥) → (codes "mem" ≡ w → ⊥) →
      IsOtherName layout (count_of layout drawn) w
  none_alike w none choices apart = (λ i l. by i (bytes_eq (name_at layout i) w) refl, by_memory (bytes_eq (codes "mem") w) refl)
    where
      alike : (i : ℕ) (c : Bool) → nat_lt i (length (value_names layout)) ≡ c →
          (if c then slice_index_or (value_names layout) i [] else choice_name (i - length (value_names layout))) ≡ w → ⊥
      alike i true e f =
          let there = own.place i (grind (arith, nat_tests, e)) in
          let x : Some i ≡ None = sym there ∙ ap (place_in (value_names layout)) f ∙ none in cc
      alike i false e f = choices (i - length (value_names layout)) f

      by : (i : ℕ) (b : Bool) → bytes_eq (name_at layout i) w ≡ b → b ≡ false
      by i false e = refl
      by i true e = absurd (alike i (nat_lt i (length (value_names layout))) refl ((bytes_eq-Decides (name_at layout i) w).0 e))

      by_memory : (b : Bool) → bytes_eq (codes "mem") w ≡ b → b ≡ false
      by_memory false e = refl
      by_memory true e = absurd (apart ((bytes_eq-Decides (codes "mem") w).0 e))

  first_of : List ℕ → ℕ
  first_of [] = 0
  first_of (b ∷ w) = b

  pub other_is_named : (w : List ℕ) (r : Option Symbol) → r ≡ other_symbol layout o w → IfSome r (λ s. IsNamed layout (count_of layout drawn) s w)
  unfolding first_of
  other_is_named w None e = tt
  other_is_named w (Some s) e = by (other_first layout o w s (sym e))
    where
      apart : (b : ℕ) (v : List ℕ) → w ≡ b ∷ v → b ≢ 99 → b ≢ 109 → place_in (value_names layout) (b ∷ v) ≡ None → IsOtherName layout (count_of layout drawn) w
      apart b v f c m none =
          none_alike w (ap (place_in (value_names layout)) f ∙ none) (λ n h. c (sym (ap first_of (h ∙ f)))) (λ h. m (sym (ap first_of (h ∙ f))))

      of_other : (s : Symbol) (w : List ℕ) → is_other s ≡ true → IsOtherName layout (count_of layout drawn) w → IsNamed layout (count_of layout drawn) s w
      of_other (Register i) w h k = absurd (cc)
      of_other (Flag i) w h k = absurd (cc)
      of_other (Choice i) w h k = absurd (cc)
      of_other Memory w h k = absurd (cc)
      of_other OtherRegister w h k = k
      of_other OtherFlag w h k = k
      of_other OtherMemory w h k = k

      by : (is_other s ≡ true) × (((v : List ℕ) × (w ≡ 104 ∷ v)) ⊎ ((v : List ℕ) × (w ≡ 103 ∷ v))) → IsNamed layout (count_of layout drawn) s w
      by (other, inl (v, f)) = of_other s w other (apart 104 v f (λ h. omega (arith, h)) (λ h. omega (arith, h)) (own.no_head v))
      by (other, inr (v, f)) = of_other s w other (apart 103 v f (λ h. omega (arith, h)) (λ h. omega (arith, h)) (own.no_given v))

-- where there are no others, the symbols are those of a program
pub only_program : (layout : Layout) (drawn : List Bool) (o : Others) (declared : List Declared) → o.head ≡ None → o.given.items ≡ [] →
    AreSymbols layout drawn declared → AreFrameSymbols layout drawn o declared
only_program layout drawn o declared no_head no_given are d = (λ h. of_program ((are d).0 h), λ h. (are d).1 (back d h))
  where
    back : (d : Declared) → IsFrameSymbol layout drawn o d → IsSymbol layout drawn d
    back d (of_program h) = h
    back d (of_head_state g w sort e h) = absurd (let x : None ≡ Some g = sym no_head ∙ e in cc)
    back d (of_step n g w sort e h) =
        absurd (let x : ◌≡◌ {A = Option (Option Gift)} None (Some (Some g)) = sym (ap (λ (z : List (Option Gift)). slice_get z n) no_given) ∙ e in cc)
