-- The symbols that a script declares, with their sorts.
use Rattle.std.proofs.Common.{◌≡◌, inl, inr, ◌⊎◌, ℕ, zero, suc, ◌+◌, ◌<◌, Bool, true, false, List, [], ◌∷◌, ◌++◌, Some, length, map, append_assoc, refl, ap, sym, ◌∙◌, subst, arith}
use Rattle.std.specs.Prelude.{◌&&◌, not, codes, if◌then◌else◌, slice_get, slice_index_or, Contains}
use Rattle.std.specs.Str.{bytes_eq}
use Rattle.std.proofs.lemmas.List.Elements.{Contains-append_left, Contains-append_right, Contains-append_cases}
use Rattle.std.proofs.lemmas.Option.{slice_get_within}
use Rattle.machine_spec.specs.StateText.{Layout, value_names}
use Rattle.bilv_spec.specs.Run.{Program}
use Rattle.bilv_spec.specs.Points.{Point, file_row}
use Rattle.bilv_spec.specs.Scripts.{choice_name, draws, drawn_names}
use Rattle.model_spec.specs.ModelText.{Declared, Words, Memories}
use Rattle.model_spec.specs.Models.{AreDeclared}
use Rattle.model_text.specs.Symbols.{AreSymbols, IsSymbol, register, flag, memory, choice}
use Rattle.start_value.specs.declared.layout.Layout as forms
use Rattle.start_value.specs.Starts.{layout_of}
use Rattle.smtlib_print.proofs.Layouts.{each_own, is_lettered, is_own, name_at, usable_of}
use Rattle.smtlib_print.proofs.Names.{is_symbol}
use Rattle.smtlib_print.proofs.ReadBack.{is_word}

-- words of a width
abbrev word_named : ℕ → List ℕ → Declared
word_named n w = record { name = w; sort = Words n }

-- the choices that are drawn, from a number on
choices_from : ℕ → List Bool → List Declared
choices_from n [] = []
choices_from n (d ∷ ds) = if d then word_named 2 (choice_name n) ∷ choices_from (n + 1) ds else choices_from (n + 1) ds

abbrev all_memory : Declared
all_memory = record { name = codes "mem"; sort = Memories }

-- the registers, the flags, the memory and the choices
pub declared_of : Layout → List Bool → List Declared
declared_of layout drawn = map (word_named 32) layout.registers ++ (map (word_named 1) layout.flags ++ (all_memory ∷ choices_from 0 drawn))

-- ---- they are the symbols

later : {X : Type 0} (x y : X) (xs : List X) → Contains xs y → Contains (x ∷ xs) y
later x y xs (i, l, e) = (suc i, omega (arith, l), e)

words_to : (n : ℕ) (ws : List (List ℕ)) (d : Declared) → Contains (map (word_named n) ws) d →
    (i : ℕ) × (i < length ws) × (d ≡ word_named n (slice_index_or ws i []))
words_to n [] d h = absurd (omega (arith, h.1))
words_to n (w ∷ ws) d (zero, l, e) = (0, omega arith, sym e)
words_to n (w ∷ ws) d (suc i, l, e) = let r = words_to n ws d (i, omega (arith, l), e) in (suc r.0, omega (arith, r.1), r.2)

words_from : (n : ℕ) (ws : List (List ℕ)) (i : ℕ) → i < length ws → Contains (map (word_named n) ws) (word_named n (slice_index_or ws i []))
words_from n [] i l = absurd (omega (arith, l))
words_from n (w ∷ ws) zero l = (0, omega arith, refl)
words_from n (w ∷ ws) (suc i) l = later (word_named n w) (word_named n (slice_index_or ws i [])) (map (word_named n) ws) (words_from n ws i (omega (arith, l)))

-- a drawn choice stands first, or behind
if_first : (b : Bool) (c d : Declared) (rest : List Declared) → Contains (if b then c ∷ rest else rest) d → ((b ≡ true) × (d ≡ c)) ⊎ Contains rest d
if_first true c d rest (zero, l, e) = inl (refl, sym e)
if_first true c d rest (suc i, l, e) = inr (i, omega (arith, l), e)
if_first false c d rest h = inr h

first_if : (b : Bool) (c : Declared) (rest : List Declared) → b ≡ true → Contains (if b then c ∷ rest else rest) c
first_if true c rest h = (0, omega arith, refl)
first_if false c rest h = absurd (cc)

later_if : (b : Bool) (c d : Declared) (rest : List Declared) → Contains rest d → Contains (if b then c ∷ rest else rest) d
later_if true c d rest h = later c d rest h
later_if false c d rest h = h

choices_to : (n : ℕ) (ds : List Bool) (d : Declared) → Contains (choices_from n ds) d →
    (at : ℕ) × (slice_get ds at ≡ Some true) × (d ≡ word_named 2 (choice_name (n + at)))
unfolding choices_from
choices_to n [] d h = absurd (omega (arith, h.1))
choices_to n (b ∷ ds) d h = elim (if_first b (word_named 2 (choice_name n)) d (choices_from (n + 1) ds) h) [
  | inl t ↦ (0, ap Some t.0, t.1 ∙ ap (λ m. word_named 2 (choice_name m)) (let e : n ≡ n + 0 = omega arith in e))
  | inr t ↦ (let r = choices_to (n + 1) ds d t in
      (suc r.0, r.1, r.2 ∙ ap (λ m. word_named 2 (choice_name m)) (let e : n + 1 + r.0 ≡ n + suc r.0 = omega arith in e)))
]

choices_in : (n : ℕ) (ds : List Bool) (at : ℕ) → slice_get ds at ≡ Some true → Contains (choices_from n ds) (word_named 2 (choice_name (n + at)))
unfolding choices_from
choices_in n [] at e = absurd (omega (arith, slice_get_within [] at true e))
choices_in n (b ∷ ds) zero e =
    let t : b ≡ true = cc in
    subst (λ (m : ℕ). Contains (choices_from n (b ∷ ds)) (word_named 2 (choice_name m))) (let z : n ≡ n + 0 = omega arith in z)
    (first_if b (word_named 2 (choice_name n)) (choices_from (n + 1) ds) t)
choices_in n (b ∷ ds) (suc i) e =
    later_if b (word_named 2 (choice_name n)) (word_named 2 (choice_name (n + suc i))) (choices_from (n + 1) ds)
    (subst (λ (m : ℕ). Contains (choices_from (n + 1) ds) (word_named 2 (choice_name m))) (let z : n + 1 + i ≡ n + suc i = omega arith in z)
    (choices_in (n + 1) ds i e))

module _ (layout : Layout) (drawn : List Bool) where
  symbol_to : (d : Declared) → Contains (declared_of layout drawn) d → IsSymbol layout drawn d
  unfolding declared_of
  symbol_to d h = elim (Contains-append_cases (map (word_named 32) layout.registers)
      (map (word_named 1) layout.flags ++ (all_memory ∷ choices_from 0 drawn)) d h) [
        | inl t ↦ (let r = words_to 32 layout.registers d t in subst (IsSymbol layout drawn) (sym r.2) (register r.0 r.1))
        | inr t ↦ elim (Contains-append_cases (map (word_named 1) layout.flags) (all_memory ∷ choices_from 0 drawn) d t) [
          | inl s ↦ (let r = words_to 1 layout.flags d s in subst (IsSymbol layout drawn) (sym r.2) (flag r.0 r.1))
          | inr s ↦ behind s
        ]
      ]
    where
      behind : Contains (all_memory ∷ choices_from 0 drawn) d → IsSymbol layout drawn d
      behind (zero, l, e) = subst (IsSymbol layout drawn) e memory
      behind (suc i, l, e) =
          let r = choices_to 0 drawn d (i, omega (arith, l), e) in
          let n : 0 + r.0 ≡ r.0 = omega arith in
          subst (IsSymbol layout drawn) (sym (r.2 ∙ ap (λ m. word_named 2 (choice_name m)) n)) (choice r.0 r.1)

  behind_registers : (d : Declared) → Contains (map (word_named 1) layout.flags ++ (all_memory ∷ choices_from 0 drawn)) d →
      Contains (declared_of layout drawn) d
  unfolding declared_of
  behind_registers d h =
      Contains-append_right (map (word_named 32) layout.registers) (map (word_named 1) layout.flags ++ (all_memory ∷ choices_from 0 drawn)) d h

  behind_flags : (d : Declared) → Contains (all_memory ∷ choices_from 0 drawn) d → Contains (declared_of layout drawn) d
  behind_flags d h = behind_registers d (Contains-append_right (map (word_named 1) layout.flags) (all_memory ∷ choices_from 0 drawn) d h)

  symbol_from : (d : Declared) → IsSymbol layout drawn d → Contains (declared_of layout drawn) d
  unfolding declared_of
  symbol_from d (register i l) =
      Contains-append_left (map (word_named 32) layout.registers) (map (word_named 1) layout.flags ++ (all_memory ∷ choices_from 0 drawn))
      (word_named 32 (slice_index_or layout.registers i [])) (words_from 32 layout.registers i l)
  symbol_from d (flag i l) =
      behind_registers (word_named 1 (slice_index_or layout.flags i []))
      (Contains-append_left (map (word_named 1) layout.flags) (all_memory ∷ choices_from 0 drawn) (word_named 1 (slice_index_or layout.flags i []))
      (words_from 1 layout.flags i l))
  symbol_from d memory = behind_flags all_memory (0, omega arith, refl)
  symbol_from d (choice n e) =
      let z : 0 + n ≡ n = omega arith in
      behind_flags (word_named 2 (choice_name n)) (later all_memory (word_named 2 (choice_name n)) (choices_from 0 drawn)
      (subst (λ (m : ℕ). Contains (choices_from 0 drawn) (word_named 2 (choice_name m))) z (choices_in 0 drawn n e)))

  pub are_symbols : AreSymbols layout drawn (declared_of layout drawn)
  are_symbols d = (symbol_to d, symbol_from d)

-- ---- they are those of a script

names_words : (n : ℕ) (ws : List (List ℕ)) (rest : List Declared) → map (λ d. d.name) (map (word_named n) ws ++ rest) ≡ ws ++ map (λ d. d.name) rest
names_words n [] rest = refl
names_words n (w ∷ ws) rest = ap (λ z. w ∷ z) (names_words n ws rest)

if_named : (b : Bool) (c : Declared) (rest : List Declared) → map (λ d. d.name) (if b then c ∷ rest else rest)
    ≡ (if b then c.name ∷ map (λ d. d.name) rest else map (λ d. d.name) rest)
if_named true c rest = refl
if_named false c rest = refl

names_choices : (p : Program) (n : ℕ) (points : List Point) →
    map (λ d. d.name) (choices_from n (map (λ (q : Point). draws (file_row p q.at)) points)) ≡ drawn_names p n points
unfolding choices_from
names_choices p n [] = refl
names_choices p n (q ∷ qs) =
    if_named (draws (file_row p q.at)) (word_named 2 (choice_name n)) (choices_from (n + 1) (map (λ (x : Point). draws (file_row p x.at)) qs))
    ∙ ap (λ z. if draws (file_row p q.at) then choice_name n ∷ z else z) (names_choices p (n + 1) qs)

-- no register and no flag has the name of a choice
both : (a b : Bool) → (a && b) ≡ true → (a ≡ true) × (b ≡ true)
both true b h = (refl, h)
both false b h = absurd (cc)

not_both : (a : Bool) → a ≡ true → not a ≡ true → ⊥
not_both true h g = cc
not_both false h g = cc

own_is_none : (w : List ℕ) (n : ℕ) → is_own w ≡ true → w ≡ choice_name n → ⊥
own_is_none w n own e =
    let h : is_own (choice_name n) ≡ true = subst (λ (v : List ℕ). is_own v ≡ true) e own in
    let a = both (is_symbol (choice_name n))
    (is_word (choice_name n) && (not (is_lettered (choice_name n)) && not (bytes_eq (choice_name n) (codes "mem")))) h in
    let b = both (is_word (choice_name n)) (not (is_lettered (choice_name n)) && not (bytes_eq (choice_name n) (codes "mem"))) a.1 in
    let c = both (not (is_lettered (choice_name n))) (not (bytes_eq (choice_name n) (codes "mem"))) b.1 in
    not_both (is_lettered (choice_name n)) refl c.0

first_of : List ℕ → ℕ
first_of [] = 0
first_of (b ∷ w) = b

memory_is_none : (n : ℕ) → codes "mem" ≡ choice_name n → ⊥
unfolding first_of
memory_is_none n e = let h : 109 ≡ 99 = ap first_of e in absurd (omega (arith, h))

left_name : (xs ys : List (List ℕ)) (i : ℕ) → i < length xs → name_at (xs ++ ys) i ≡ slice_index_or xs i []
left_name [] ys i l = absurd (omega (arith, l))
left_name (x ∷ xs) ys zero l = refl
left_name (x ∷ xs) ys (suc i) l = left_name xs ys i (omega (arith, l))

right_name : (xs ys : List (List ℕ)) (i : ℕ) → name_at (xs ++ ys) (length xs + i) ≡ slice_index_or ys i []
right_name [] ys i = ap (λ n. slice_index_or ys n []) (let e : 0 + i ≡ i = omega arith in e)
right_name (x ∷ xs) ys i = ap (name_at (x ∷ (xs ++ ys))) (let e : suc (length xs) + i ≡ suc (length xs + i) = omega arith in e) ∙ right_name xs ys i

in_both : (xs ys : List (List ℕ)) (i : ℕ) → i < length ys → length xs + i < length (xs ++ ys)
in_both [] ys i l = omega (arith, l)
in_both (x ∷ xs) ys i l = let h = in_both xs ys i l in omega (arith, h)

in_left : (xs ys : List (List ℕ)) (i : ℕ) → i < length xs → i < length (xs ++ ys)
in_left [] ys i l = absurd (omega (arith, l))
in_left (x ∷ xs) ys zero l = omega arith
in_left (x ∷ xs) ys (suc i) l = let h = in_left xs ys i (omega (arith, l)) in omega (arith, h)

module _ (form : forms.Layout) (drawn : List Bool) where
  abbrev layout : Layout
  layout = layout_of form

  register_is_none : (i n : ℕ) → i < length layout.registers → slice_index_or layout.registers i [] ≡ choice_name n → ⊥
  register_is_none i n l e =
      own_is_none (slice_index_or layout.registers i []) n
      (subst (λ (w : List ℕ). is_own w ≡ true) (left_name layout.registers layout.flags i l)
      (each_own is_own (value_names layout) i (usable_of form).own (in_left layout.registers layout.flags i l))) e

  flag_is_none : (i n : ℕ) → i < length layout.flags → slice_index_or layout.flags i [] ≡ choice_name n → ⊥
  flag_is_none i n l e =
      own_is_none (slice_index_or layout.flags i []) n
      (subst (λ (w : List ℕ). is_own w ≡ true) (right_name layout.registers layout.flags i)
      (each_own is_own (value_names layout) (length layout.registers + i) (usable_of form).own (in_both layout.registers layout.flags i l))) e

  sort_is : (d : Declared) → IsSymbol layout drawn d → (n : ℕ) → d.name ≡ choice_name n → d.sort ≡ Words 2
  sort_is d (register i l) n e = absurd (register_is_none i n l e)
  sort_is d (flag i l) n e = absurd (flag_is_none i n l e)
  sort_is d memory n e = absurd (memory_is_none n e)
  sort_is d (choice m h) n e = refl

  pub are_declared : (p : Program) (points : List Point) → drawn ≡ map (λ (q : Point). draws (file_row p q.at)) points →
      AreDeclared p layout points (declared_of layout drawn)
  unfolding declared_of
  are_declared p points e = record {
    names =
        names_words 32 layout.registers (map (word_named 1) layout.flags ++ (all_memory ∷ choices_from 0 drawn))
        ∙ ap (λ z. layout.registers ++ z) (names_words 1 layout.flags (all_memory ∷ choices_from 0 drawn))
        ∙ sym (append_assoc layout.registers layout.flags (codes "mem" ∷ map (λ d. d.name) (choices_from 0 drawn)))
        ∙ ap (λ z. value_names layout ++ codes "mem" ∷ z) (ap (λ z. map (λ d. d.name) (choices_from 0 z)) e ∙ names_choices p 0 points);
    registers = λ i l. symbol_from layout drawn (word_named 32 (slice_index_or layout.registers i [])) (register i l);
    flags = λ i l. symbol_from layout drawn (word_named 1 (slice_index_or layout.flags i [])) (flag i l);
    memory = symbol_from layout drawn all_memory memory;
    choices = λ d h n is. sort_is d (symbol_to layout drawn d h) n is;
  }
