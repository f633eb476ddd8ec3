-- The values of an answer's reading are those that the answer gives.
use Rattle.std.proofs.Common.{◌≡◌, ℕ, zero, suc, ◌+◌, ◌<◌, ◌^◌, refl, ap, sym, ◌∙◌, arith, List, [], ◌∷◌, Option, Some, None, Bool, true, false, length}
use Rattle.std.specs.Prelude.{◌==◌, ◌&&◌, ◌-◌, nat_le, nat_lt, map, codes, slice_get, slice_index_or, if◌then◌else◌}
use Rattle.std.specs.Option.{option_map}
use Rattle.std.specs.Str.{bytes_eq}
use Rattle.std.specs.Fmt.{digits}
use Rattle.std.proofs.lemmas.Bool.Decides.{nat_tests}
use Rattle.std.proofs.lemmas.List.{get_or_append_left, get_or-append-add, length-append}
use Rattle.word_spec.specs.Memory.{Endian}
use Rattle.word_spec.specs.RowFiles.{from_to}
use Rattle.word_spec.specs.Texts.{number_text, decimal_word}
use Rattle.machine_spec.specs.StateText.{Layout, rv_layout, arm_layout, value_names, place_in}
use Rattle.machine_spec.proofs.StateLines.{IsLayout, and_true, is_place, is_plain, is_free, fits, all_below}
use Rattle.machine_spec.proofs.Spelling.{same_text, decimal_back}
use Rattle.call_spec.specs.Calls.{Options}
use Rattle.bilv_spec.specs.Elf.{file_endian}
use Rattle.bilv_spec.specs.Files.{is_rv, layout_of}
use Rattle.bilv_spec.specs.Points.{Point}
use Rattle.bilv_spec.specs.Questions.{Reading}
use Rattle.bilv_spec.specs.Run.{Program}
use Rattle.bilv_spec.specs.SmtLib.{WordValue, ArrayValue}
use Rattle.bilv_spec.specs.Scripts.{choice_name, choice_names, choice_value, choice_at, register_value, named_value, values_of}
use Rattle.bilv_spec.proofs.PointSteps.{same_list}
use Rattle.bilv_spec.proofs.StateTold.{file_layout}
use Rattle.model_spec.specs.ModelText.{Definition}
use Rattle.model_spec.specs.Models.{given, word_of, IsReadingOf}
use Rattle.model_spec.specs.ModelLaws.{ValuesAreGiven}

each_below : (f : ℕ → Bool) (n i : ℕ) → all_below f n ≡ true → i < n → f i ≡ true
each_below f zero i e h = absurd (omega arith)
each_below f (suc n) i e h = by (i == n) refl (and_true (f n) (all_below f n) e) (λ r l. each_below f n i r l)
  where
    by : (b : Bool) → (i == n) ≡ b → (f n ≡ true) × (all_below f n ≡ true) → (all_below f n ≡ true → i < n → f i ≡ true) → f i ≡ true
    by true q p later = ap f (let t = q in grind (arith, nat_tests)) ∙ p.0
    by false q p later = later p.1 (let t = q in grind (arith, nat_tests))

placed : (o : Option ℕ) (i : ℕ) → is_place o i ≡ true → o ≡ Some i
placed None i h = absurd (let c : false ≡ true = h in cc)
placed (Some j) i h = let both = and_true (nat_le i j) (nat_le j i) h in ap Some (let l = both.0 in let r = both.1 in grind (arith, nat_tests))

-- a name of a layout is found at its place
name_place : (layout : Layout) → IsLayout layout → (i : ℕ) → i < length (value_names layout) →
    place_in (value_names layout) (slice_index_or (value_names layout) i []) ≡ Some i
name_place layout good i l =
    let w : List ℕ = slice_index_or (value_names layout) i [] in
    let one = and_true (is_plain w) (is_free w && is_place (place_in (value_names layout) w) i)
    (each_below (fits layout) (length (value_names layout)) i good.names l) in
    placed (place_in (value_names layout) w) i (and_true (is_free w) (is_place (place_in (value_names layout) w) i) one.1).1

-- neither the memory nor a choice has the name of a register or a flag
mem_by : (b : Bool) (e : Endian) (o : Options) → place_in (value_names (if b then rv_layout o.compressed else arm_layout e o.profile)) (codes "mem") ≡ None
unfolding digits
mem_by true e o = refl
mem_by false e o = refl

choice_by : (b : Bool) (e : Endian) (o : Options) (n : ℕ) →
    place_in (value_names (if b then rv_layout o.compressed else arm_layout e o.profile)) (choice_name n) ≡ None
unfolding digits
choice_by true e o n = refl
choice_by false e o n = refl

-- choices of other numbers have other names
apart : (m n : ℕ) → m < n → n < 2 ^ 64 → bytes_eq (choice_name n) (choice_name m) ≡ false
apart m n l small = by (bytes_eq (choice_name n) (choice_name m)) refl
  where
    rest : List ℕ → List ℕ
    rest [] = []
    rest (b ∷ w) = w

    by : (b : Bool) → bytes_eq (choice_name n) (choice_name m) ≡ b → b ≡ false
    by false q = refl
    by true q = absurd (
        let names : number_text n ≡ number_text m = ap rest (same_list (choice_name n) (choice_name m) q) in
        let numbers : Some n ≡ Some m = sym (decimal_back n small) ∙ ap decimal_word names ∙ decimal_back m (omega arith) in
        let same : n ≡ m = cc in omega (arith, same, l))

choice_place : (count from n : ℕ) → n < count → from + n < 2 ^ 64 → place_in (map choice_name (from_to from count)) (choice_name (from + n)) ≡ Some n
choice_place zero from n l small = absurd (omega arith)
choice_place (suc count) from zero l small =
    let here : from + 0 ≡ from = omega arith in
    ap (λ z. place_in (choice_name from ∷ map choice_name (from_to (from + 1) count)) (choice_name z)) here
    ∙ ap (λ (b : Bool). if b then Some 0 else option_map (λ i. i + 1) (place_in (map choice_name (from_to (from + 1) count)) (choice_name from)))
    (same_text (choice_name from))
choice_place (suc count) from (suc n) l small =
    let there : from + suc n ≡ from + 1 + n = omega arith in
    let next : n + 1 ≡ suc n = omega arith in
    ap (λ (b : Bool). if b then Some 0 else option_map (λ i. i + 1) (place_in (map choice_name (from_to (from + 1) count)) (choice_name (from + suc n))))
    (apart from (from + suc n) (omega arith) small)
    ∙ ap (λ z. option_map (λ i. i + 1) (place_in (map choice_name (from_to (from + 1) count)) (choice_name z))) there
    ∙ ap (option_map (λ i. i + 1)) (choice_place count (from + 1) n (omega arith) (omega arith)) ∙ ap Some next

got_within : (points : List Point) (n : ℕ) (point : Point) → slice_get points n ≡ Some point → n < length points
got_within [] n point h = absurd (cc)
got_within (q ∷ points) zero point h = omega arith
got_within (q ∷ points) (suc n) point h = let l = got_within points n point h in omega arith

module _ (p : Program) (layout : Layout) (good : IsLayout layout) (no_mem : place_in (value_names layout) (codes "mem") ≡ None)
    (no_choice : (n : ℕ) → place_in (value_names layout) (choice_name n) ≡ None) (points : List Point) (ds : List Definition) (r : Reading)
    (is : IsReadingOf p layout points ds r) (few : length points < 2 ^ 64) where
  names : ℕ
  names = length (value_names layout)

  both : length (value_names layout) ≡ length layout.registers + length layout.flags
  both = length-append layout.registers layout.flags

  value_at : (i : ℕ) → i < length (value_names layout) →
      values_of layout points r (slice_index_or (value_names layout) i []) ≡ Some (register_value layout r i)
  value_at i l =
      ap (λ z. named_value layout points r z (slice_index_or (value_names layout) i [])) (name_place layout good i l)

  register : (i : ℕ) → i < length layout.registers →
      values_of layout points r (slice_index_or layout.registers i []) ≡ Some (WordValue 32 (word_of (given ds (slice_index_or layout.registers i []))))
  register i l =
      let less : nat_lt i (length layout.registers) ≡ true = grind (arith, nat_tests) in
      ap (values_of layout points r) (sym (get_or_append_left layout.registers layout.flags [] i l))
      ∙ value_at i (let b = both in omega (arith, b, l))
      ∙ ap (λ (b : Bool). Some (if b then WordValue 32 (r.state.regs (layout.first + i)) else
      WordValue 1 (r.state.flags (length (value_names layout) - 1 - i)))) less
      ∙ ap (λ z. Some (WordValue 32 z)) (is.regs i l)

  flag : (i : ℕ) → i < length layout.flags →
      values_of layout points r (slice_index_or layout.flags i []) ≡ Some (WordValue 1 (word_of (given ds (slice_index_or layout.flags i []))))
  flag i l =
      let b = both in
      let more : nat_lt (length layout.registers + i) (length layout.registers) ≡ false = grind (arith, nat_tests) in
      let f : length (value_names layout) - 1 - (length layout.registers + i) ≡ length layout.flags - 1 - i = omega (arith, b, l) in
      let back : length layout.flags - 1 - (length layout.flags - 1 - i) ≡ i = omega (arith, l) in
      ap (values_of layout points r) (sym (get_or-append-add layout.registers layout.flags i []))
      ∙ value_at (length layout.registers + i) (omega (arith, b, l))
      ∙ ap (λ (b : Bool). Some (if b then WordValue 32 (r.state.regs (layout.first + (length layout.registers + i))) else
      WordValue 1 (r.state.flags (length (value_names layout) - 1 - (length layout.registers + i))))) more
      ∙ ap (λ z. Some (WordValue 1 (r.state.flags z))) f
      ∙ ap (λ z. Some (WordValue 1 z)) (is.flags (length layout.flags - 1 - i) (omega (arith, l)))
      ∙ ap (λ z. Some (WordValue 1 (word_of (given ds (slice_index_or layout.flags z []))))) back

  choice : (n : ℕ) (point : Point) → slice_get points n ≡ Some point →
      values_of layout points r (choice_name n) ≡ Some (WordValue 2 (word_of (given ds (choice_name n))))
  choice n point at =
      let l = got_within points n point at in
      let none_added : n ≡ 0 + n = omega arith in
      let found : place_in (choice_names (length points)) (choice_name n) ≡ Some n =
      ap (λ z. place_in (choice_names (length points)) (choice_name z)) none_added ∙ choice_place (length points) 0 n l (omega (arith, l, few)) in
      ap (λ z. named_value layout points r z (choice_name n)) (no_choice n)
      ∙ ap (choice_at points r) found
      ∙ ap (choice_value r) at ∙ ap (λ z. Some (WordValue 2 z)) (is.choice n point at)

  memory : values_of layout points r (codes "mem") ≡ Some (ArrayValue r.state.mem)
  memory = ap (λ z. named_value layout points r z (codes "mem")) no_mem

pub values_are_given : ValuesAreGiven
values_are_given p o file points ds r is few =
    let good = file_layout o file in
    let no_mem = mem_by (is_rv file) (file_endian file) o in
    let no_choice = choice_by (is_rv file) (file_endian file) o in (
      register p (layout_of o file) good no_mem no_choice points ds r is few,
      flag p (layout_of o file) good no_mem no_choice points ds r is few,
      choice p (layout_of o file) good no_mem no_choice points ds r is few,
      (r.state.mem, memory p (layout_of o file) good no_mem no_choice points ds r is few, is.mem),
    )
