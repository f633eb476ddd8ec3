-- The model of the values that are kept is that of the definitions.
use Rattle.std.proofs.Common.{◌≡◌, ℕ, ◌+◌, ◌-◌, ◌%◌, ◌^◌, ◌<◌, Bool, true, false, arith, List, [], Option, Some, None, refl, sym, ap, ◌∙◌, subst, length, map, take, drop, All}
use Rattle.std.specs.Prelude.{nat_lt, if◌then◌else◌, codes, slice_get, slice_index, slice_index_or}
use Rattle.std.proofs.lemmas.Bool.Decides.{nat_tests}
use Rattle.std.proofs.lemmas.List.{length-append, length-take-le, length-drop, length-map, get_or-map, get_or-take, get_or-drop, get_or_append_left, get_or-append-add}
use Rattle.std.proofs.Math.Nat.{mod-eq_of_lt}
use Rattle.std.proofs.lemmas.Nat.{pow_pos}
use Rattle.machine_spec.specs.StateText.{Layout, value_names}
use Rattle.bilv_spec.specs.Scripts.{choice_name}
use Rattle.model_spec.specs.ModelText.{Value, WordIs, ConstantIs, StoredIs, Definition, Sort, Words}
use Rattle.model_spec.specs.Models.{given, word_of}
use Rattle.model_text.specs.declared.symbol.Others.{Others}
use Rattle.model_text.specs.declared.symbol.Symbol.{Symbol}
use Rattle.model_text.specs.declared.symbol.Symbol.TheVariants.{Flag, Choice}
use Rattle.model_text.specs.declared.model.Model.{Model}
use Rattle.model_text.specs.declared.findings.Findings.{Findings}
use Rattle.model_text.specs.Symbols.{symbol_in, choice_if, sort_of, name_at, count_of}
use Rattle.model_text.specs.Drafts.{or_zero, AreFlags, AreFindings}
use Rattle.model_text.specs.Answers.{IsMemoryIf, IsModelOf}
use Rattle.model_text.specs.Traces.{Known, is_of_sort}
use Rattle.model_text.proofs.SortTests.{of_sort, given_gives}
use Rattle.model_text.proofs.Law.{AreSorted}
use Rattle.model_text.proofs.SymbolNames.{HasOwnNames, flag_symbol, choice_symbol_is}

-- a word that is given to a symbol is below the bound of its sort
word_below : (n : ℕ) (v : Value) → is_of_sort (Words n) v ≡ true → word_of (Some v) < 2 ^ n
word_below n (WordIs m v) h = (of_sort (Words n) (WordIs m v) h).1
word_below n (ConstantIs sort m v) h = absurd (cc)
word_below n (StoredIs a m i k v) h = absurd (cc)

given_below : (known : Known) (ds : List Definition) (w : List ℕ) (n : ℕ) → AreSorted known ds → ((s : Symbol) → known w ≡ Some s → sort_of s ≡ Words n) →
    word_of (given ds w) < 2 ^ n
given_below known ds w n sorted sort = by (given ds w) refl
  where
    by : (o : Option Value) → given ds w ≡ o → word_of o < 2 ^ n
    by None e = pow_pos n
    by (Some v) e =
        let c = given_gives ds w v e in
        let s = sorted w c.0 v c.1 in
        word_below n v (ap (λ (z : Sort). is_of_sort z v) (sym (sort s.0 s.1)) ∙ s.2)

some_symbol : (a b : Symbol) → Some a ≡ Some b → a ≡ b
some_symbol a b e = cc

below_itself : (m n : ℕ) → m < n → m % n ≡ m
below_itself m n h = mod-eq_of_lt h

module _ (layout : Layout) (drawn : List Bool) (o : Others) (own : HasOwnNames layout) (few : length drawn < 2 ^ 64) (short : length o.given.items < 2 ^ 64) (ds : List Definition) (f : Findings)
    (found : AreFindings layout (count_of layout drawn) None f ds) (sorted : AreSorted (symbol_in layout drawn o) ds) where
  abbrev words : List (Option ℕ)
  words = f.words.items

  abbrev size : ℕ
  size = length (value_names layout)

  parts : length (value_names layout) ≡ length layout.registers + length layout.flags
  parts = length-append layout.registers layout.flags

  word_at : (i : ℕ) → i < count_of layout drawn → or_zero (slice_index_or words i None) ≡ word_of (given ds (name_at layout i))
  word_at i l = (found.words i l).word refl

  -- names by their places
  value_name : (i : ℕ) → i < size → name_at layout i ≡ slice_index_or (value_names layout) i []
  value_name i l =
      let e : nat_lt i size ≡ true = grind (arith, nat_tests) in
      ap (λ (b : Bool). if b then slice_index_or (value_names layout) i [] else choice_name (i - size)) e

  register_name : (i : ℕ) → i < length layout.registers → name_at layout i ≡ slice_index_or layout.registers i []
  register_name i l = value_name i (omega (arith, l, parts)) ∙ get_or_append_left layout.registers layout.flags [] i l

  flag_name : (i : ℕ) → i < length layout.flags → name_at layout (length layout.registers + i) ≡ slice_index_or layout.flags i []
  flag_name i l = value_name (length layout.registers + i) (omega (arith, l, parts)) ∙ get_or-append-add layout.registers layout.flags i []

  choice_name_at : (n : ℕ) → name_at layout (size + n) ≡ choice_name n
  choice_name_at n =
      let e : nat_lt (size + n) size ≡ false = grind (arith, nat_tests) in
      let back : size + n - size ≡ n = omega arith in
      ap (λ (b : Bool). if b then slice_index_or (value_names layout) (size + n) [] else choice_name (size + n - size)) e ∙ ap choice_name back

  -- their sorts
  flag_sort : (i : ℕ) → i < length layout.flags → (s : Symbol) → symbol_in layout drawn o (slice_index_or layout.flags i []) ≡ Some s → sort_of s ≡ Words 1
  flag_sort i l s e =
      let same : Flag (length layout.registers + i) ≡ s = some_symbol (Flag (length layout.registers + i)) s (sym (flag_symbol layout drawn o own few short i l) ∙ e) in
      ap sort_of (sym same)

  choice_sort : (n : ℕ) → n < length drawn → (s : Symbol) → symbol_in layout drawn o (choice_name n) ≡ Some s → sort_of s ≡ Words 2
  choice_sort n l s e = by (slice_get drawn n) (sym (choice_symbol_is layout drawn o own few short n (omega (arith, l, few))) ∙ e)
    where
      by : (o : Option Bool) → choice_if o (size + n) ≡ Some s → sort_of s ≡ Words 2
      by None g = absurd (cc)
      by (Some false) g = absurd (cc)
      by (Some true) g = ap sort_of (sym (some_symbol (Choice (size + n)) s g))

  flag_word : (i : ℕ) → i < length layout.flags →
      or_zero (slice_index_or words (length layout.registers + i) None) % 2 ≡ word_of (given ds (slice_index_or layout.flags i []))
  flag_word i l =
      let here = word_at (length layout.registers + i) (omega (arith, l, parts)) ∙ ap (λ (w : List ℕ). word_of (given ds w)) (flag_name i l) in
      ap (λ (n : ℕ). n % 2) here
      ∙ below_itself (word_of (given ds (slice_index_or layout.flags i []))) 2
      (given_below (symbol_in layout drawn o) ds (slice_index_or layout.flags i []) 1 sorted (flag_sort i l))

  choice_word : (n : ℕ) → n < length drawn → or_zero (slice_index_or words (size + n) None) % 4 ≡ word_of (given ds (choice_name n))
  choice_word n l =
      let here = word_at (size + n) (omega (arith, l)) ∙ ap (λ (w : List ℕ). word_of (given ds w)) (choice_name_at n) in
      ap (λ (m : ℕ). m % 4) here
      ∙ below_itself (word_of (given ds (choice_name n))) 4 (given_below (symbol_in layout drawn o) ds (choice_name n) 2 sorted (choice_sort n l))

  register_words : length (take (length layout.registers) words) ≡ length layout.registers
  register_words = length-take-le (length layout.registers) words (omega (arith, parts, found.count_is))

  flag_words : length (take (length layout.flags) (drop (length layout.registers) words)) ≡ length layout.flags
  flag_words =
      length-take-le (length layout.flags) (drop (length layout.registers) words)
      (omega (arith, parts, found.count_is, length-drop (length layout.registers) words))

  choice_words : length (drop size words) ≡ length drawn
  choice_words = length-drop size words ∙ (omega (arith, found.count_is))

  pub is_model : (m : Model) → m.registers.items ≡ map or_zero (take (length layout.registers) words) →
      AreFlags (take (length layout.flags) (drop (length layout.registers) words)) m.flags →
      m.choices.items ≡ map (λ o. or_zero o % 4) (drop size words) → IsMemoryIf (given ds (codes "mem")) m.memory → IsModelOf layout (length drawn) ds m
  is_model m rs fs cs memory = record {
    registers = ap length rs ∙ length-map (take (length layout.registers) words) or_zero ∙ register_words;
    register = λ i l.
        ap (λ (z : List ℕ). slice_index z i) rs
        ∙ get_or-map or_zero (take (length layout.registers) words) i None 0 (subst (λ (z : ℕ). i < z) (sym register_words) l)
        ∙ ap or_zero (get_or-take (length layout.registers) words i None l)
        ∙ word_at i (omega (arith, l, parts)) ∙ ap (λ (w : List ℕ). word_of (given ds w)) (register_name i l);
    flags = subst (λ (z : ℕ). m.flags < 2 ^ z) flag_words fs.small;
    flag = λ k l.
        let at = length layout.flags - 1 - k in
        let within : at < length layout.flags = omega (arith, l) in
        fs.bits k (subst (λ (z : ℕ). k < z) (sym flag_words) l)
        ∙ ap (λ (z : ℕ). or_zero (slice_index_or (take (length layout.flags) (drop (length layout.registers) words)) (z - 1 - k) None) % 2) flag_words
        ∙ ap (λ (o : Option ℕ). or_zero o % 2) (get_or-take (length layout.flags) (drop (length layout.registers) words) at None within
        ∙ get_or-drop (length layout.registers) words at None)
        ∙ flag_word at within;
    choices = ap length cs ∙ length-map (drop size words) (λ (o : Option ℕ). or_zero o % 4) ∙ choice_words;
    choice = λ n l.
        ap (λ (z : List ℕ). slice_index z n) cs
        ∙ get_or-map (λ (o : Option ℕ). or_zero o % 4) (drop size words) n None 0 (subst (λ (z : ℕ). n < z) (sym choice_words) l)
        ∙ ap (λ (o : Option ℕ). or_zero o % 4) (get_or-drop size words n None)
        ∙ choice_word n l;
    small = subst (All (λ c. c < 4)) (sym cs) small_words;
    memory = memory;
  }
    where
      small_words : All (λ c. c < 4) (map (λ (o : Option ℕ). or_zero o % 4) (drop size words))
      small_words k d l =
          let within : k < length (drop size words) = subst (λ (z : ℕ). k < z) (length-map (drop size words) (λ (o : Option ℕ). or_zero o % 4)) l in
          subst (λ (z : ℕ). z < 4) (sym (get_or-map (λ (o : Option ℕ). or_zero o % 4) (drop size words) k None d within))
          (omega arith)
