-- The names of a script have the values of a reading.
use Rattle.std.proofs.Common.{◌≡◌, ℕ, zero, suc, ◌+◌, ◌-◌, ◌^◌, ◌<◌, ◌≤◌, refl, ap, sym, ◌∙◌, arith, true, false, Bool, List, [], ◌∷◌, Some, length, length-append, map, inl, inr}
use Rattle.std.specs.Prelude.{◌==◌, ◌||◌, not, nat_lt, codes, slice_get}
use Rattle.std.specs.List.{list_all}
use Rattle.std.specs.Str.{bytes_eq}
use Rattle.std.proofs.lemmas.Bool.{cases_eq}
use Rattle.std.proofs.lemmas.Bool.Decides.{nat_tests}
use Rattle.std.proofs.lemmas.Fmt.{decimal_injective}
use Rattle.std.proofs.lemmas.List.{get_or_append_left, get_or-append_right}
use Rattle.bilv_spec.specs.Points.{Point}
use Rattle.bilv_spec.specs.Questions.{Reading}
use Rattle.word_spec.specs.RowFiles.{from_to}
use Rattle.bilv_spec.specs.Scripts.{choice_name, values_of}
use Rattle.bilv_spec.specs.SmtLib.{WordValue, ArrayValue}
use Rattle.machine_spec.specs.StateText.{Layout, value_names, place_in}
use Rattle.word_spec.specs.Texts.{number_text}
use Rattle.machine_spec.proofs.Spelling.{same_text}
use Rattle.smtlib_print.proofs.Declared.{both_true, is_false}
use Rattle.smtlib_print.proofs.Defined.{among}
use Rattle.smtlib_print.proofs.Layouts.{is_lettered, is_own, IsUsable, name_at, place_at, place_none}
use Rattle.smtlib_print.proofs.Names.{is_symbol, other_text}
use Rattle.smtlib_print.proofs.ReadBack.{is_word}

-- what a name of a layout is
pub record IsOwn (w : List ℕ) : Type 0 where
  pub symbol : is_symbol w ≡ true
  pub word : is_word w ≡ true
  pub plain : is_lettered w ≡ false
  pub other : bytes_eq w (codes "mem") ≡ false

pub own_of : (w : List ℕ) → is_own w ≡ true → IsOwn w
own_of w h =
    let a = both_true (is_symbol w) _ h in
    let b = both_true (is_word w) _ a.1 in
    let c = both_true (not (is_lettered w)) _ b.1 in
    record { symbol = a.0; word = b.0; plain = is_false _ c.0; other = is_false _ c.1 }

either_false : (a b : Bool) → (a || b) ≡ false → (a ≡ false) × (b ≡ false)
either_false true b h = absurd (cc h)
either_false false b h = (refl, h)

-- no name of a layout begins as that of a term or a choice
other_letter : (b : ℕ) (v w : List ℕ) → ((b == 116) || (b == 99)) ≡ true → is_lettered w ≡ false → bytes_eq (b ∷ v) w ≡ false
other_letter b v [] h k = refl
other_letter b v (c ∷ w) h k =
    let n = either_false (c == 116) (c == 99) k in
    let e : (b == c) ≡ false = grind (arith, nat_tests, h, n.0, n.1) in
    rw e refl

pub not_lettered : (p : List ℕ → Bool) → ((w : List ℕ) → p w ≡ true → is_lettered w ≡ false) → (b : ℕ) (v : List ℕ) (names : List (List ℕ)) →
    ((b == 116) || (b == 99)) ≡ true → list_all p names ≡ true → among names (b ∷ v) ≡ false
not_lettered p plain b v [] h k = refl
not_lettered p plain b v (n ∷ ns) h k =
    let t = both_true (p n) (list_all p ns) k in
    rw (other_letter b v n h (plain n t.0), not_lettered p plain b v ns h t.1) refl

pub own_plain : (w : List ℕ) → is_own w ≡ true → is_lettered w ≡ false
own_plain w h = (own_of w h).plain

pub not_memory : (names : List (List ℕ)) → list_all is_own names ≡ true → among names (codes "mem") ≡ false
not_memory [] k = refl
not_memory (n ∷ ns) k =
    let t = both_true (is_own n) (list_all is_own ns) k in
    let f = other_text (codes "mem") n (λ e. absurd (cc (sym (ap (λ w. bytes_eq w (codes "mem")) (sym e)) ∙ (own_of n t.0).other))) in
    rw (f, not_memory ns t.1) refl

-- names of choices
pub other_choice : (m n : ℕ) → m < 2 ^ 64 → n < 2 ^ 64 → (m ≡ n → ⊥) → bytes_eq (choice_name m) (choice_name n) ≡ false
other_choice m n h k d = other_text (number_text m) (number_text n) (λ e. d (decimal_injective m n h k e))

pub choice_place : (first count n : ℕ) → first ≤ n → n < first + count → first + count < 2 ^ 64 →
    place_in (map choice_name (from_to first count)) (choice_name n) ≡ Some (n - first)
choice_place first zero n h k s = absurd (omega (arith, h, k))
choice_place first (suc count) n h k s = elim (cases_eq n first) [
  | inl e ↦ (let z : n - first ≡ 0 = omega (arith, e) in rw (ap (λ m. bytes_eq (choice_name n) (choice_name m)) (sym e) ∙ same_text (choice_name n), z) refl)
  | inr d ↦ (
      let f = other_choice n first (omega (arith, k, s)) (omega (arith, s)) d in
      let l : first + 1 ≤ n = omega (arith, h, d) in
      let z : n - (first + 1) + 1 ≡ n - first = omega (arith, l) in
      rw (f, choice_place (first + 1) count n l (omega (arith, k)) (omega (arith, s))) (ap Some z))
]

module _ (layout : Layout) (usable : IsUsable layout) where
  -- the places of registers among the names of values
  pub register_place : (i : ℕ) → i < length layout.registers → place_in (value_names layout) (name_at layout.registers i) ≡ Some i
  register_place i l =
      let n = get_or_append_left layout.registers layout.flags [] i l in
      let p = place_at (value_names layout) i usable.distinct (omega (arith, l, length-append layout.registers layout.flags)) in
      ap (place_in (value_names layout)) (sym n) ∙ p

  pub before_flags : (i : ℕ) → i < length layout.registers → nat_lt i (length layout.registers) ≡ true
  before_flags i l = grind (arith, nat_tests)

  -- and of flags, of which the one with the highest number comes first
  pub flag_place : (f : ℕ) → f < length layout.flags →
      place_in (value_names layout) (name_at layout.flags (length layout.flags - 1 - f)) ≡ Some (length layout.registers + (length layout.flags - 1 - f))
  flag_place f l =
      let j = length layout.flags - 1 - f in
      let i = length layout.registers + j in
      let a = length-append layout.registers layout.flags in
      let b : i - length layout.registers ≡ j = omega arith in
      let n = get_or-append_right layout.registers layout.flags (length layout.registers) i [] refl (omega arith) ∙ ap (name_at layout.flags) b in
      let p = place_at (value_names layout) i usable.distinct (omega (arith, l, a)) in
      ap (place_in (value_names layout)) (sym n) ∙ p

  pub behind_registers : (j : ℕ) → nat_lt (length layout.registers + j) (length layout.registers) ≡ false
  behind_registers j = grind (arith, nat_tests)

  pub flag_back : (f : ℕ) → f < length layout.flags → length (value_names layout) - 1 - (length layout.registers + (length layout.flags - 1 - f)) ≡ f
  flag_back f l = omega (arith, l, length-append layout.registers layout.flags)

module _ (layout : Layout) (usable : IsUsable layout) (points : List Point) (few : length points < 2 ^ 64) (r : Reading) where
  -- the values of registers, by their numbers
  pub register_is : (i : ℕ) → i < length layout.registers →
      values_of layout points r (name_at layout.registers i) ≡ Some (WordValue 32 (r.state.regs (layout.first + i)))
  register_is i l = rw (register_place layout usable i l, before_flags layout usable i l) refl

  -- and of flags
  pub flag_is : (f : ℕ) → f < length layout.flags →
      values_of layout points r (name_at layout.flags (length layout.flags - 1 - f)) ≡ Some (WordValue 1 (r.state.flags f))
  flag_is f l =
      rw (flag_place layout usable f l, behind_registers layout usable (length layout.flags - 1 - f), flag_back layout usable f l) refl

  pub memory_is : values_of layout points r (codes "mem") ≡ Some (ArrayValue r.state.mem)
  memory_is = rw (place_none (value_names layout) (codes "mem") (not_memory (value_names layout) usable.own)) refl

  pub choice_is : (n : ℕ) (q : Point) → n < length points → slice_get points n ≡ Some q →
      values_of layout points r (choice_name n) ≡ Some (WordValue 2 (r.choice q))
  choice_is n q l e =
      let z : n - 0 ≡ n = omega arith in
      rw (
        place_none (value_names layout) (choice_name n) (not_lettered is_own own_plain 99 (number_text n) (value_names layout) refl usable.own),
        choice_place 0 (length points) n (omega arith) (omega (arith, l)) (omega (arith, few)),
        z,
        e,
      ) refl
