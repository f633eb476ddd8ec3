-- The names of a script of a frame have the values of a reading.
use Rattle.std.proofs.Common.{◌≡◌, ℕ, ◌+◌, ◌-◌, ◌^◌, ◌<◌, zero, suc, refl, ap, sym, subst, ◌∙◌, arith, true, false, List, [], ◌∷◌, Option, Some, None, length, map}
use Rattle.std.specs.Prelude.{◌==◌, not, codes, if◌then◌else◌, slice_get}
use Rattle.std.specs.List.{list_all}
use Rattle.std.proofs.lemmas.Bool.Decides.{nat_tests}
use Rattle.std.specs.Option.{option_map}
use Rattle.std.specs.Str.{bytes_eq}
use Rattle.std.proofs.lemmas.Option.{slice_get_within}
use Rattle.word_spec.specs.RowFiles.{from_to}
use Rattle.bilv_spec.specs.Scripts.{choice_name, choice_names}
use Rattle.bilv_spec.specs.SmtLib.{SmtValue, WordValue, ArrayValue}
use Rattle.machine_spec.proofs.Spelling.{same_text}
use Rattle.frame_spec.specs.FramePoints.{Point}
use Rattle.frame_spec.specs.FrameQuestions.{Reading}
use Rattle.frame_spec.specs.FrameScripts.{frame_values_of, given_by, given_value, head_names, of_given, of_head}
use Rattle.machine_spec.specs.StateText.{Layout, value_names, place_in}
use Rattle.word_spec.specs.Texts.{number_text}
use Rattle.smtlib_print.proofs.Declared.{both_true, is_false}
use Rattle.smtlib_print.proofs.Defined.{among}
use Rattle.smtlib_print.proofs.GivenNames.{among_other, other_given, place_given}
use Rattle.smtlib_print.proofs.Layouts.{IsUsable, is_headed, is_own, name_at, no_gift, place_none}
use Rattle.smtlib_print.proofs.Valued.{before_flags, behind_registers, choice_place, flag_back, flag_place, not_lettered, not_memory, own_plain, register_place}

-- no name of a layout is one of the head
unheaded : (w n : List ℕ) → is_headed n ≡ false → bytes_eq (of_head w) n ≡ false
unheaded w [] h = refl
unheaded w (b ∷ n) h = rw (other b h) refl
  where
    other : (c : ℕ) → (c == 104) ≡ false → (104 == c) ≡ false
    other c e = grind (arith, nat_tests)

no_head : (names : List (List ℕ)) (w : List ℕ) → list_all (λ n. not (is_headed n)) names ≡ true → among names (of_head w) ≡ false
no_head [] w h = refl
no_head (n ∷ ns) w h =
    let t = both_true (not (is_headed n)) (list_all (λ m. not (is_headed m)) ns) h in
    rw (unheaded w n (is_false (is_headed n) t.0)) (no_head ns w t.1)

-- the names of the head have the places of the names
head_place : (names : List (List ℕ)) (w : List ℕ) → place_in (map of_head names) (of_head w) ≡ place_in names w
head_place [] w = refl
head_place (n ∷ ns) w = ap (λ o. if bytes_eq w n then Some 0 else option_map (λ i. i + 1) o) (head_place ns w)

-- none is that of a choice
no_choice : (names : List (List ℕ)) (n : ℕ) → among (map of_head names) (choice_name n) ≡ false
no_choice [] n = refl
no_choice (m ∷ ms) n = no_choice ms n

-- none is that of what is given
no_given : (names : List (List ℕ)) (w : List ℕ) → among (map of_head names) (103 ∷ w) ≡ false
no_given [] w = refl
no_given (m ∷ ms) w = no_given ms w

no_chosen : (ns : List ℕ) (w : List ℕ) → among (map choice_name ns) (103 ∷ w) ≡ false
no_chosen [] w = refl
no_chosen (n ∷ ns) w = no_chosen ns w

-- what is given at a point, among those from a number on
given_found : (layout : Layout) (r : Reading) (w : List ℕ) (v : SmtValue) (points : List Point) (m i : ℕ) (q : Point) → m + length points < 2 ^ 64 →
    slice_get points i ≡ Some q →
    ((other : Option SmtValue) → given_by layout (r.given q) (place_in (map (of_given (m + i)) (value_names layout)) (of_given (m + i) w))
    (bytes_eq (of_given (m + i) w) (of_given (m + i) (codes "mem"))) other ≡ Some v) →
    given_value layout r m points (of_given (m + i) w) ≡ Some v
given_found layout r w v [] m i q few e is = absurd (omega (arith, slice_get_within [] i q e))
given_found layout r w v (p ∷ ps) m zero q few e is =
    let z : m ≡ m + 0 = omega arith in
    let same : p ≡ q = cc in
    ap (λ n. given_by layout (r.given p) (place_in (map (of_given n) (value_names layout)) (of_given (m + 0) w))
    (bytes_eq (of_given (m + 0) w) (of_given n (codes "mem"))) (given_value layout r (m + 1) ps (of_given (m + 0) w))) z
    ∙ ap (λ x. given_by layout (r.given x) (place_in (map (of_given (m + 0)) (value_names layout)) (of_given (m + 0) w))
    (bytes_eq (of_given (m + 0) w) (of_given (m + 0) (codes "mem"))) (given_value layout r (m + 1) ps (of_given (m + 0) w))) same
    ∙ is (given_value layout r (m + 1) ps (of_given (m + 0) w))
given_found layout r w v (p ∷ ps) m (suc i) q few e is =
    let l = slice_get_within (p ∷ ps) (suc i) q e in
    let n = m + suc i in
    let z : m + 1 + i ≡ n = omega arith in
    let small : m < 2 ^ 64 = omega (arith, few) in
    let below : n < 2 ^ 64 = omega (arith, few, l) in
    let other : m ≡ n → ⊥ = λ s. (let t : m ≡ m + suc i = s in omega (arith, t)) in
    let rest = given_value layout r (m + 1) ps (of_given n w) in
    let none = place_none (map (of_given m) (value_names layout)) (of_given n w) (among_other m n (value_names layout) w small below other) in
    let differs = other_given n m w (codes "mem") below small (λ s. other (sym s)) in
    ap (λ o. given_by layout (r.given p) o (bytes_eq (of_given n w) (of_given m (codes "mem"))) rest) none
    ∙ ap (λ b. given_by layout (r.given p) None b rest) differs
    ∙ ap (λ k. given_value layout r (m + 1) ps (of_given k w)) (sym z)
    ∙ given_found layout r w v ps (m + 1) i q (omega (arith, few)) e
    (subst (λ (k : ℕ). (o : Option SmtValue) → given_by layout (r.given q) (place_in (map (of_given k) (value_names layout)) (of_given k w))
    (bytes_eq (of_given k w) (of_given k (codes "mem"))) o ≡ Some v) (sym z) is)

module _ (layout : Layout) (usable : IsUsable layout) (points : List Point) (few : length points < 2 ^ 64) (r : Reading) where
  pub entry_register : (i : ℕ) → i < length layout.registers →
      frame_values_of layout points r (name_at layout.registers i) ≡ Some (WordValue 32 (r.state.regs (layout.first + i)))
  entry_register i l = rw (register_place layout usable i l, before_flags layout usable i l) refl

  pub entry_flag : (f : ℕ) → f < length layout.flags →
      frame_values_of layout points r (name_at layout.flags (length layout.flags - 1 - f)) ≡ Some (WordValue 1 (r.state.flags f))
  entry_flag f l =
      rw (flag_place layout usable f l, behind_registers layout usable (length layout.flags - 1 - f), flag_back layout usable f l) refl

  pub entry_memory : frame_values_of layout points r (codes "mem") ≡ Some (ArrayValue r.state.mem)
  entry_memory = rw (place_none (value_names layout) (codes "mem") (not_memory (value_names layout) usable.own)) refl

  no_value : (w : List ℕ) → place_in (value_names layout) (of_head w) ≡ None
  no_value w = place_none (value_names layout) (of_head w) (no_head (value_names layout) w usable.bare)

  pub head_register : (i : ℕ) → i < length layout.registers →
      frame_values_of layout points r (of_head (name_at layout.registers i)) ≡ Some (WordValue 32 (r.head.regs (layout.first + i)))
  head_register i l =
      rw (
        no_value (name_at layout.registers i),
        head_place (value_names layout) (name_at layout.registers i) ∙ register_place layout usable i l,
        before_flags layout usable i l,
      ) refl

  pub head_flag : (f : ℕ) → f < length layout.flags →
      frame_values_of layout points r (of_head (name_at layout.flags (length layout.flags - 1 - f))) ≡ Some (WordValue 1 (r.head.flags f))
  head_flag f l =
      rw (
        no_value (name_at layout.flags (length layout.flags - 1 - f)),
        head_place (value_names layout) (name_at layout.flags (length layout.flags - 1 - f)) ∙ flag_place layout usable f l,
        behind_registers layout usable (length layout.flags - 1 - f),
        flag_back layout usable f l,
      ) refl

  pub head_memory : frame_values_of layout points r (of_head (codes "mem")) ≡ Some (ArrayValue r.head.mem)
  head_memory =
      rw (
        no_value (codes "mem"),
        head_place (value_names layout) (codes "mem")
            ∙ place_none (value_names layout) (codes "mem") (not_memory (value_names layout) usable.own),
      ) refl

  pub frame_choice : (n : ℕ) (q : Point) → n < length points → slice_get points n ≡ Some q →
      frame_values_of layout points r (choice_name n) ≡ Some (WordValue 2 (r.choice q))
  frame_choice n q l e =
      let z : n - 0 ≡ n = omega arith in
      rw (
        place_none (value_names layout) (choice_name n) (not_lettered is_own own_plain 99 (number_text n) (value_names layout) refl usable.own),
        place_none (head_names layout) (choice_name n) (no_choice (value_names layout) n),
        choice_place 0 (length points) n (omega arith) (omega (arith, l)) (omega (arith, few)),
        z,
        e,
      ) refl

  -- what is given at the point of a number
  given_is : (n : ℕ) (q : Point) (w : List ℕ) (v : SmtValue) → slice_get points n ≡ Some q →
      ((other : Option SmtValue) → given_by layout (r.given q) (place_in (map (of_given n) (value_names layout)) (of_given n w))
      (bytes_eq (of_given n w) (of_given n (codes "mem"))) other ≡ Some v) →
      frame_values_of layout points r (of_given n w) ≡ Some v
  given_is n q w v e is =
      let z : n ≡ 0 + n = omega arith in
      let found = given_found layout r w v points 0 n q (omega (arith, few)) e
      (subst (λ (k : ℕ). (o : Option SmtValue) → given_by layout (r.given q) (place_in (map (of_given k) (value_names layout)) (of_given k w))
      (bytes_eq (of_given k w) (of_given k (codes "mem"))) o ≡ Some v) z is) in
      rw (
        place_none (value_names layout) (of_given n w) (no_gift (value_names layout) _ usable.own_ungiven),
        place_none (head_names layout) (of_given n w) (no_given (value_names layout) _),
        place_none (choice_names (length points)) (of_given n w) (no_chosen (from_to 0 (length points)) _),
      ) (ap (λ k. given_value layout r 0 points (of_given k w)) z ∙ found)

  pub given_register : (n i : ℕ) (q : Point) → slice_get points n ≡ Some q → i < length layout.registers →
      frame_values_of layout points r (of_given n (name_at layout.registers i)) ≡ Some (WordValue 32 ((r.given q).regs (layout.first + i)))
  given_register n i q e l =
      given_is n q (name_at layout.registers i) _ e
      (λ o. rw (place_given n (value_names layout) (name_at layout.registers i) ∙ register_place layout usable i l, before_flags layout usable i l) refl)

  pub given_flag : (n f : ℕ) (q : Point) → slice_get points n ≡ Some q → f < length layout.flags →
      frame_values_of layout points r (of_given n (name_at layout.flags (length layout.flags - 1 - f))) ≡ Some (WordValue 1 ((r.given q).flags f))
  given_flag n f q e l =
      let w = name_at layout.flags (length layout.flags - 1 - f) in
      given_is n q w _ e
      (λ o. rw (
        place_given n (value_names layout) w ∙ flag_place layout usable f l,
        behind_registers layout usable (length layout.flags - 1 - f),
        flag_back layout usable f l,
      ) refl)

  pub given_memory : (n : ℕ) (q : Point) → slice_get points n ≡ Some q →
      frame_values_of layout points r (of_given n (codes "mem")) ≡ Some (ArrayValue (r.given q).mem)
  given_memory n q e =
      given_is n q (codes "mem") _ e
      (λ o. rw (
        place_given n (value_names layout) (codes "mem")
            ∙ place_none (value_names layout) (codes "mem") (not_memory (value_names layout) usable.own),
        same_text (of_given n (codes "mem")),
      ) refl)
