-- The symbols of a head state and of what contract steps are given, by their names.
use Rattle.std.proofs.Common.{◌≡◌, ◌≢◌, ◌⊎◌, inl, inr, ℕ, zero, suc, ◌+◌, ◌-◌, ◌<◌, ◌≤◌, ◌^◌, Bool, true, false, arith, List, [], ◌∷◌, ◌++◌, Option, Some, None, refl, sym, ap, ◌∙◌, subst, length, take, drop, append_assoc}
use Rattle.std.specs.Prelude.{◌==◌, nat_le, nat_lt, if◌then◌else◌, codes, slice_get, slice_index_or}
use Rattle.std.specs.Option.{option_map}
use Rattle.std.specs.Str.{bytes_eq}
use Rattle.std.specs.Str.Parse.{AllDigits}
use Rattle.std.proofs.lemmas.Fmt.{decimal_is_IsNumeral}
use Rattle.std.proofs.lemmas.Str.Parse.{digit_from_value}
use Rattle.std.proofs.lemmas.Bool.{eqb-true}
use Rattle.std.proofs.lemmas.Bool.Decides.{nat_tests}
use Rattle.std.proofs.lemmas.Slice.Eq.{bytes_eq-Decides}
use Rattle.std.proofs.lemmas.List.{get_or_append_left, get_or-append-add, length-append}
use Rattle.std.proofs.lemmas.Option.{slice_get_within, slice_get-get_or}
use Rattle.word_spec.specs.Texts.{at_most, decimal_word, number_text}
use Rattle.machine_spec.specs.StateText.{Layout, value_names, place_in}
use Rattle.machine_spec.proofs.Spelling.{decimal_back}
use Rattle.frame_spec.specs.FrameScripts.{of_given}
use Rattle.model_spec.specs.ModelText.{Declared, Sort, Words, Memories}
use Rattle.notes_value.specs.FrameViews.{is_in}
use Rattle.model_text.specs.declared.symbol.Gift.{Gift}
use Rattle.model_text.specs.declared.symbol.Others.{Others}
use Rattle.model_text.specs.declared.symbol.Symbol.{Symbol}
use Rattle.model_text.specs.declared.symbol.Symbol.TheVariants.{OtherRegister, OtherFlag, OtherMemory}
use Rattle.model_text.specs.Symbols.{IsGiven, given_register, given_flag, given_memory, IsFrameSymbol, of_head_state, of_step, cut, gift_at, gift_in, gift_symbol, gift_symbol_if, gift_value, head_symbol, is_other, mark_in, or_other, other_symbol, parted, sort_of, step_symbol, symbol_if}
use Rattle.model_text.proofs.DecimalNames.{decimal_said}

pub or_none : (s : Option Symbol) → or_other s None ≡ s
or_none None = refl
or_none (Some c) = refl

pub some_number : (m n : ℕ) → Some m ≡ Some n → m ≡ n
some_number m n h = cc

-- a name stands at its place
pub name_found : (names : List (List ℕ)) (w : List ℕ) (i : ℕ) → place_in names w ≡ Some i → (i < length names) × (slice_index_or names i [] ≡ w)
name_found [] w i h = absurd (cc)
name_found (n ∷ names) w i h = by (bytes_eq w n) refl h (λ j e. name_found names w j e)
  where
    later : (o : Option ℕ) → place_in names w ≡ o → option_map (λ j. j + 1) o ≡ Some i →
        ((j : ℕ) → place_in names w ≡ Some j → (j < length names) × (slice_index_or names j [] ≡ w)) → (i < length (n ∷ names)) × (slice_index_or (n ∷ names)
        i [] ≡ w)
    later None e f ih = absurd (cc)
    later (Some j) e f ih =
        let r = ih j e in
        let same : suc j ≡ i = omega (arith, some_number (j + 1) i f) in
        subst (λ (z : ℕ). (z < length (n ∷ names)) × (slice_index_or (n ∷ names) z [] ≡ w)) same (omega (arith, r.0), r.1)

    by : (b : Bool) → bytes_eq w n ≡ b → (if b then Some 0 else option_map (λ j. j + 1) (place_in names w)) ≡ Some i →
        ((j : ℕ) → place_in names w ≡ Some j → (j < length names) × (slice_index_or names j [] ≡ w)) →
        (i < length (n ∷ names)) × (slice_index_or (n ∷ names) i [] ≡ w)
    by true e f ih =
        let same : 0 ≡ i = some_number 0 i f in
        subst (λ (z : ℕ). (z < length (n ∷ names)) × (slice_index_or (n ∷ names) z [] ≡ w)) same (omega arith, sym ((bytes_eq-Decides w n).0 e))
    by false e f ih = later (place_in names w) refl f ih

-- ---- the parts of a name

no_mark : (b : ℕ) → b ≢ 95 → (b == 95) ≡ false
no_mark b h = grind (arith, nat_tests, h)

mark_bare : (ds w : List ℕ) → AllDigits 10 ds → mark_in (ds ++ 95 ∷ w) ≡ length ds
mark_bare [] w h = refl
mark_bare (d ∷ ds) w h =
    ap (λ (b : Bool). if b then 0 else suc (mark_in (ds ++ 95 ∷ w))) (no_mark d (λ e. let k = digit_from_value d h.0 in omega (arith, k, e)))
    ∙ ap (λ (n : ℕ). suc n) (mark_bare ds w h.1)

take_front : (ds w : List ℕ) → take (length ds) (ds ++ w) ≡ ds
take_front [] w = refl
take_front (d ∷ ds) w = ap (λ (z : List ℕ). d ∷ z) (take_front ds w)

drop_front : (ds w : List ℕ) → drop (length ds) (ds ++ w) ≡ w
drop_front [] w = refl
drop_front (d ∷ ds) w = drop_front ds w

pub cut_bare : (ds w : List ℕ) → AllDigits 10 ds → cut (ds ++ 95 ∷ w) ≡ Some (ds, w)
cut_bare ds w h =
    ap (λ (n : ℕ). parted (take n (ds ++ 95 ∷ w)) (drop n (ds ++ 95 ∷ w))) (mark_bare ds w h)
    ∙ ap (λ (z : List ℕ). parted z (drop (length ds) (ds ++ 95 ∷ w))) (take_front ds (95 ∷ w)) ∙ ap (parted ds) (drop_front ds (95 ∷ w))

-- what is cut stood together
pub cut_back : (w a b : List ℕ) → cut w ≡ Some (a, b) → w ≡ a ++ 95 ∷ b
cut_back [] a b h = absurd (cc)
cut_back (c ∷ w) a b h = by (c == 95) refl h (cut_back w)
  where
    parts : (x y : List ℕ × List ℕ) → Some x ≡ Some y → (x.0 ≡ y.0) × (x.1 ≡ y.1)
    parts x y e = let f : x ≡ y = cc in (ap (λ (z : List ℕ × List ℕ). z.0) f, ap (λ (z : List ℕ × List ℕ). z.1) f)

    later : (t r : List ℕ) → (parted t r ≡ parted (take (mark_in w) w) (drop (mark_in w) w)) → parted (c ∷ t) r ≡ Some (a, b) →
        ((x y : List ℕ) → cut w ≡ Some (x, y) → w ≡ x ++ 95 ∷ y) → c ∷ w ≡ a ++ 95 ∷ b
    later t [] same e ih = absurd (cc)
    later t (d ∷ r) same e ih =
        let p = parts (c ∷ t, r) (a, b) e in
        let q = ih t r (sym same) in
        ap (λ (z : List ℕ). c ∷ z) q ∙ ap (λ (z : List ℕ). z ++ 95 ∷ r) p.0 ∙ ap (λ (z : List ℕ). a ++ 95 ∷ z) p.1

    by : (t : Bool) → (c == 95) ≡ t →
        parted (take (if t then 0 else suc (mark_in w)) (c ∷ w)) (drop (if t then 0 else suc (mark_in w)) (c ∷ w)) ≡ Some (a, b) →
        ((x y : List ℕ) → cut w ≡ Some (x, y) → w ≡ x ++ 95 ∷ y) → c ∷ w ≡ a ++ 95 ∷ b
    by true e f ih =
        let p = parts ([], w) (a, b) f in
        ap (λ (z : ℕ). z ∷ w) (eqb-true c 95 e) ∙ ap (λ (z : List ℕ). z ++ 95 ∷ w) p.0 ∙ ap (λ (z : List ℕ). a ++ 95 ∷ z) p.1
    by false e f ih = later (take (mark_in w) w) (drop (mark_in w) w) refl f ih

-- ---- gifts

none_got : {A : Type 0} (xs : List A) (n : ℕ) → length xs ≤ n → slice_get xs n ≡ None
none_got [] n l = refl
none_got (x ∷ xs) zero l = absurd (omega (arith, l))
none_got (x ∷ xs) (suc n) l = none_got xs n (omega (arith, l))

-- a number above all is that of none
pub no_gift_at : (given : List (Option Gift)) (n : Option ℕ) → at_most (length given) n ≡ None → gift_at given n ≡ None
no_gift_at given None h = refl
no_gift_at given (Some n) h = by (nat_le n (length given)) refl h
  where
    by : (b : Bool) → nat_le n (length given) ≡ b → (if b then Some n else None) ≡ None → gift_in (slice_get given n) ≡ None
    by true e f = absurd (cc)
    by false e f = let l : length given ≤ n = grind (arith, nat_tests, e) in ap gift_in (none_got given n l)

at_most_some : (bound : ℕ) (o : Option ℕ) (n : ℕ) → Some n ≡ at_most bound o → o ≡ Some n
at_most_some bound None n h = absurd (cc)
at_most_some bound (Some m) n h = by (nat_le m bound) h
  where
    by : (b : Bool) → Some n ≡ (if b then Some m else None) → Some m ≡ Some n
    by true e = sym e
    by false e = absurd (cc)

pub gift_there : (given : List (Option Gift)) (o : Option ℕ) (n : ℕ) → Some n ≡ at_most (length given) o → n < length given →
    slice_index_or given n None ≡ gift_at given o
gift_there given o n h l = sym (ap (gift_at given) (at_most_some (length given) o n h) ∙ ap gift_in (slice_get-get_or given n None l))

pub gift_beyond : (given : List (Option Gift)) (o : Option ℕ) (n : ℕ) → Some n ≡ at_most (length given) o → length given ≤ n →
    ◌≡◌ {A = Option Gift} None (gift_at given o)
gift_beyond given o n h l = sym (ap (gift_at given) (at_most_some (length given) o n h) ∙ ap gift_in (none_got given n l))

symbol_if_some : (b : Bool) (t s : Symbol) → symbol_if b t ≡ Some s → (b ≡ true) × (t ≡ s)
symbol_if_some true t s h = (refl, cc)
symbol_if_some false t s h = absurd (cc)

module _ (layout : Layout) where
  abbrev names : List (List ℕ)
  names = value_names layout

  parts : length names ≡ length layout.registers + length layout.flags
  parts = length-append layout.registers layout.flags

  gift_placed : (g : Gift) (w : List ℕ) (s : Symbol) (i : ℕ) (b : Bool) → nat_lt i (length layout.registers) ≡ b → place_in names w ≡ Some i →
      (if b then symbol_if (is_in g.registers (layout.first + i)) OtherRegister else symbol_if (is_in g.flags (length names - 1 - i)) OtherFlag) ≡ Some s →
      IsGiven layout g w (sort_of s)
  gift_placed g w s i true e h f =
      let r = name_found names w i h in
      let l : i < length layout.registers = grind (arith, nat_tests, e) in
      let t = symbol_if_some (is_in g.registers (layout.first + i)) OtherRegister s f in
      subst (λ (z : Symbol). IsGiven layout g w (sort_of z)) t.1
      (subst (λ (z : List ℕ). IsGiven layout g z (Words 32)) (sym (get_or_append_left layout.registers layout.flags [] i l) ∙ r.1) (given_register i l t.0))
  gift_placed g w s i false e h f =
      let r = name_found names w i h in
      let le : length layout.registers ≤ i = grind (arith, nat_tests, e) in
      let j = i - length layout.registers in
      let back : length layout.registers + j ≡ i = omega (arith, le) in
      let l : j < length layout.flags = omega (arith, le, r.0, parts) in
      let t = symbol_if_some (is_in g.flags (length names - 1 - i)) OtherFlag s f in
      let number : length names - 1 - i ≡ length layout.flags - 1 - j = omega (arith, parts, le) in
      let name : slice_index_or layout.flags j [] ≡ w =
      sym (get_or-append-add layout.registers layout.flags j []) ∙ ap (λ (z : ℕ). slice_index_or names z []) back ∙ r.1 in
      subst (λ (z : Symbol). IsGiven layout g w (sort_of z)) t.1
      (subst (λ (z : List ℕ). IsGiven layout g z (Words 1)) name (given_flag j l (ap (is_in g.flags) (sym number) ∙ t.0)))

  gift_found : (g : Gift) (w : List ℕ) (s : Symbol) → gift_symbol layout g w ≡ Some s → IsGiven layout g w (sort_of s)
  gift_found g w s h = by (bytes_eq w (codes "mem")) refl h
    where
      of_value : (i : Option ℕ) → place_in names w ≡ i → gift_value layout g i ≡ Some s → IsGiven layout g w (sort_of s)
      of_value None e f = absurd (cc)
      of_value (Some i) e f = gift_placed g w s i (nat_lt i (length layout.registers)) refl e f

      by : (b : Bool) → bytes_eq w (codes "mem") ≡ b → (if b then symbol_if g.memory OtherMemory else gift_value layout g (place_in names w)) ≡ Some s →
          IsGiven layout g w (sort_of s)
      by true e f =
          let t = symbol_if_some g.memory OtherMemory s f in
          subst (λ (z : Symbol). IsGiven layout g w (sort_of z)) t.1
          (subst (λ (z : List ℕ). IsGiven layout g z Memories) (sym ((bytes_eq-Decides w (codes "mem")).0 e)) (given_memory t.0))
      by false e f = of_value (place_in names w) refl f

  gift_if_found : (o : Option Gift) (w : List ℕ) (s : Symbol) → gift_symbol_if layout o w ≡ Some s →
      (g : Gift) × (o ≡ Some g) × IsGiven layout g w (sort_of s)
  gift_if_found None w s h = absurd (cc)
  gift_if_found (Some g) w s h = (g, refl, gift_found g w s h)

  module _ (own : (i : ℕ) → i < length names → place_in names (slice_index_or names i []) ≡ Some i) (memory : place_in names (codes "mem") ≡ None) where
    not_memory : (i : ℕ) (w : List ℕ) → place_in names w ≡ Some i → (b : Bool) → bytes_eq w (codes "mem") ≡ b → b ≡ false
    not_memory i w h false e = refl
    not_memory i w h true e =
        let x : None ≡ Some i = sym memory ∙ ap (place_in names) (sym ((bytes_eq-Decides w (codes "mem")).0 e)) ∙ h in absurd (cc)

    at_place : (g : Gift) (i : ℕ) (w : List ℕ) → place_in names w ≡ Some i → gift_symbol layout g w ≡ gift_value layout g (Some i)
    at_place g i w h =
        ap (λ (b : Bool). if b then symbol_if g.memory OtherMemory else gift_value layout g (place_in names w))
        (not_memory i w h (bytes_eq w (codes "mem")) refl) ∙ ap (gift_value layout g) h

    pub gift_named : (g : Gift) (w : List ℕ) (sort : Sort) → IsGiven layout g w sort → (s : Symbol) × (gift_symbol layout g w ≡ Some s) × (sort_of s ≡ sort)
    gift_named g w sort (given_register i l b) =
        let name : slice_index_or names i [] ≡ slice_index_or layout.registers i [] = get_or_append_left layout.registers layout.flags [] i l in
        let there = own i (omega (arith, l, parts)) in
        let less : nat_lt i (length layout.registers) ≡ true = grind (arith, nat_tests) in (
          OtherRegister,
          ap (gift_symbol layout g) (sym name) ∙ at_place g i (slice_index_or names i []) there
              ∙ ap (λ (t : Bool). if t then symbol_if (is_in g.registers (layout.first + i)) OtherRegister else symbol_if (is_in g.flags (length names - 1 - i))
              OtherFlag) less
              ∙ ap (λ (t : Bool). symbol_if t OtherRegister) b,
          refl,
        )
    gift_named g w sort (given_flag i l b) =
        let at = length layout.registers + i in
        let name : slice_index_or names at [] ≡ slice_index_or layout.flags i [] = get_or-append-add layout.registers layout.flags i [] in
        let there = own at (omega (arith, l, parts)) in
        let more : nat_lt at (length layout.registers) ≡ false = grind (arith, nat_tests) in
        let number : length names - 1 - at ≡ length layout.flags - 1 - i = omega (arith, parts) in (
          OtherFlag,
          ap (gift_symbol layout g) (sym name) ∙ at_place g at (slice_index_or names at []) there
              ∙ ap (λ (t : Bool). if t then symbol_if (is_in g.registers (layout.first + at)) OtherRegister else symbol_if (is_in g.flags (length names - 1 - at))
              OtherFlag) more
              ∙ ap (λ (z : ℕ). symbol_if (is_in g.flags z) OtherFlag) number ∙ ap (λ (t : Bool). symbol_if t OtherFlag) b,
          refl,
        )
    gift_named g w sort (given_memory b) = (OtherMemory, ap (λ (t : Bool). symbol_if t OtherMemory) b, refl)

  -- ---- numbers

  gift_at_some : (given : List (Option Gift)) (n : Option ℕ) (g : Gift) → gift_at given n ≡ Some g → (m : ℕ) × (n ≡ Some m) × (slice_get given m ≡ Some (Some g))
  gift_at_some given None g h = absurd (cc)
  gift_at_some given (Some m) g h = (m, refl, by (slice_get given m) h)
    where
      by : (x : Option (Option Gift)) → gift_in x ≡ Some g → x ≡ Some (Some g)
      by None e = absurd (cc)
      by (Some y) e = ap Some e

  pub step_named : (given : List (Option Gift)) (n : ℕ) (g : Gift) (w : List ℕ) → n < 2 ^ 64 → slice_get given n ≡ Some (Some g) →
      step_symbol layout given (cut ((number_text n ++ codes "_") ++ w)) ≡ gift_symbol layout g w
  step_named given n g w l h =
      ap (λ (z : List ℕ). step_symbol layout given (cut z)) (append_assoc (number_text n) (codes "_") w)
      ∙ ap (step_symbol layout given) (cut_bare (number_text n) w (decimal_is_IsNumeral n l).0.1)
      ∙ ap (λ (z : Option ℕ). gift_symbol_if layout (gift_at given z) w) (decimal_back n l)
      ∙ ap (λ (z : Option (Option Gift)). gift_symbol_if layout (gift_in z) w) h

  module _ (drawn : List Bool) (o : Others) (short : length o.given.items < 2 ^ 64) where
    abbrev as_sort : List ℕ → Symbol → Declared
    as_sort w s = record { name = w; sort = sort_of s }

    head_found : (w : List ℕ) (s : Symbol) → head_symbol layout o.head w ≡ Some s → IsFrameSymbol layout drawn o (as_sort (104 ∷ w) s)
    head_found [] s h = absurd (cc)
    head_found (b ∷ w) s h = by (b == 95) refl h
      where
        by : (t : Bool) → (b == 95) ≡ t → (if t then gift_symbol_if layout o.head w else None) ≡ Some s → IsFrameSymbol layout drawn o (as_sort (104 ∷ b ∷ w) s)
        by false e f = absurd (cc)
        by true e f =
            let r = gift_if_found o.head w s f in
            subst (λ (z : ℕ). IsFrameSymbol layout drawn o (as_sort (104 ∷ z ∷ w) s)) (sym (eqb-true b 95 e)) (of_head_state r.0 w (sort_of s) r.1 r.2)

    step_found : (w : List ℕ) (c : Option (List ℕ × List ℕ)) (s : Symbol) → cut w ≡ c → step_symbol layout o.given.items c ≡ Some s →
        IsFrameSymbol layout drawn o (as_sort (103 ∷ w) s)
    step_found w None s e h = absurd (cc)
    step_found w (Some p) s e h =
        let r = gift_if_found (gift_at o.given.items (decimal_word p.0)) p.1 s h in
        let q = gift_at_some o.given.items (decimal_word p.0) r.0 r.1 in
        let l = slice_get_within o.given.items q.0 (Some r.0) q.2 in
        let whole : w ≡ p.0 ++ 95 ∷ p.1 = cut_back w p.0 p.1 e in
        let digits_are : p.0 ≡ number_text q.0 = decimal_said p.0 q.0 q.1 (omega (arith, l, short)) in
        let name : 103 ∷ w ≡ of_given q.0 p.1 =
        ap (λ (z : List ℕ). 103 ∷ z) (whole ∙ ap (λ (z : List ℕ). z ++ 95 ∷ p.1) digits_are ∙ sym (append_assoc (number_text q.0) (codes "_") p.1)) in
        subst (λ (z : List ℕ). IsFrameSymbol layout drawn o (as_sort z s)) (sym name) (of_step q.0 r.0 p.1 (sort_of s) q.2 r.2)

    pub other_found : (w : List ℕ) (s : Symbol) → other_symbol layout o w ≡ Some s → IsFrameSymbol layout drawn o (as_sort w s)
    other_found [] s h = absurd (cc)
    other_found (b ∷ w) s h = by (b == 104) (b == 103) refl refl h
      where
        by : (t u : Bool) → (b == 104) ≡ t → (b == 103) ≡ u →
            (if t then head_symbol layout o.head w else if u then step_symbol layout o.given.items (cut w) else None) ≡ Some s →
            IsFrameSymbol layout drawn o (as_sort (b ∷ w) s)
        by true u e f g = subst (λ (z : ℕ). IsFrameSymbol layout drawn o (as_sort (z ∷ w) s)) (sym (eqb-true b 104 e)) (head_found w s g)
        by false true e f g = subst (λ (z : ℕ). IsFrameSymbol layout drawn o (as_sort (z ∷ w) s)) (sym (eqb-true b 103 f)) (step_found w (cut w) s refl g)
        by false false e f g = absurd (cc)

-- ---- the first letter

others_of : (layout : Layout) (g : Gift) (w : List ℕ) (s : Symbol) → gift_symbol layout g w ≡ Some s → is_other s ≡ true
others_of layout g w s h = by (bytes_eq w (codes "mem")) h
  where
    of_if : (b : Bool) (t : Symbol) → is_other t ≡ true → symbol_if b t ≡ Some s → is_other s ≡ true
    of_if b t other e = let r = symbol_if_some b t s e in ap is_other (sym r.1) ∙ other

    placed : (i : ℕ) (b : Bool) →
        (if b then symbol_if (is_in g.registers (layout.first + i)) OtherRegister else symbol_if (is_in g.flags (length (value_names layout) - 1 - i))
        OtherFlag) ≡ Some s → is_other s ≡ true
    placed i true e = of_if (is_in g.registers (layout.first + i)) OtherRegister refl e
    placed i false e = of_if (is_in g.flags (length (value_names layout) - 1 - i)) OtherFlag refl e

    of_value : (i : Option ℕ) → gift_value layout g i ≡ Some s → is_other s ≡ true
    of_value None e = absurd (cc)
    of_value (Some i) e = placed i (nat_lt i (length layout.registers)) e

    by : (b : Bool) → (if b then symbol_if g.memory OtherMemory else gift_value layout g (place_in (value_names layout) w)) ≡ Some s → is_other s ≡ true
    by true e = of_if g.memory OtherMemory refl e
    by false e = of_value (place_in (value_names layout) w) e

others_if : (layout : Layout) (g : Option Gift) (w : List ℕ) (s : Symbol) → gift_symbol_if layout g w ≡ Some s → is_other s ≡ true
others_if layout None w s h = absurd (cc)
others_if layout (Some g) w s h = others_of layout g w s h

step_other : (layout : Layout) (given : List (Option Gift)) (c : Option (List ℕ × List ℕ)) (s : Symbol) → step_symbol layout given c ≡ Some s → is_other s ≡ true
step_other layout given None s h = absurd (cc)
step_other layout given (Some p) s h = others_if layout (gift_at given (decimal_word p.0)) p.1 s h

head_other : (layout : Layout) (g : Option Gift) (w : List ℕ) (s : Symbol) → head_symbol layout g w ≡ Some s → is_other s ≡ true
head_other layout g [] s h = absurd (cc)
head_other layout g (b ∷ w) s h = by (b == 95) h
  where
    by : (t : Bool) → (if t then gift_symbol_if layout g w else None) ≡ Some s → is_other s ≡ true
    by true e = others_if layout g w s e
    by false e = absurd (cc)

pub other_first : (layout : Layout) (o : Others) (w : List ℕ) (s : Symbol) → other_symbol layout o w ≡ Some s →
    (is_other s ≡ true) × (((v : List ℕ) × (w ≡ 104 ∷ v)) ⊎ ((v : List ℕ) × (w ≡ 103 ∷ v)))
other_first layout o [] s h = absurd (cc)
other_first layout o (b ∷ w) s h = by (b == 104) (b == 103) refl refl h
  where
    by : (t u : Bool) → (b == 104) ≡ t → (b == 103) ≡ u →
        (if t then head_symbol layout o.head w else if u then step_symbol layout o.given.items (cut w) else None) ≡ Some s →
        (is_other s ≡ true) × (((v : List ℕ) × (b ∷ w ≡ 104 ∷ v)) ⊎ ((v : List ℕ) × (b ∷ w ≡ 103 ∷ v)))
    by true u e f g = (head_other layout o.head w s g, inl (w, ap (λ (z : ℕ). z ∷ w) (eqb-true b 104 e)))
    by false true e f g = (step_other layout o.given.items (cut w) s g, inr (w, ap (λ (z : ℕ). z ∷ w) (eqb-true b 103 f)))
    by false false e f g = absurd (cc)
