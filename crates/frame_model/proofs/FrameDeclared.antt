-- The symbols by which an answer to a question of a frame is read are those that are declared of the frame.
use Rattle.std.proofs.Common.{◌≡◌, inl, inr, ◌⊎◌, ℕ, zero, suc, ◌+◌, ◌-◌, ◌<◌, Bool, true, false, List, [], ◌∷◌, ◌++◌, Option, Some, None, length, map, refl, ap, sym, ◌∙◌, subst, arith}
use Rattle.std.specs.Prelude.{codes, if◌then◌else◌, nat_eq, slice_get, slice_index_or, Contains}
use Rattle.std.specs.List.{list_any}
use Rattle.std.proofs.lemmas.List.Elements.{Contains-append_left, Contains-append_right, Contains-append_cases}
use Rattle.std.proofs.lemmas.Option.{slice_get_within}
use Rattle.machine_spec.specs.StateText.{Layout}
use Rattle.bilv_spec.specs.Scripts.{choice_name}
use Rattle.frame_spec.specs.Frames.{Contract, Frame, contract_at}
use Rattle.frame_spec.specs.FramePoints.{Point, has_heads}
use Rattle.frame_spec.specs.FrameScripts.{changed_flags, changed_registers, frame_drawn_names, of_given, of_head, point_draws, writes_some, written_memory}
use Rattle.model_spec.specs.ModelText.{Declared, Sort, Words, Memories}
use Rattle.notes_value.specs.FrameViews.{is_in}
use Rattle.model_text.specs.declared.symbol.Gift.{Gift}
use Rattle.model_text.specs.declared.symbol.Others.{Others}
use Rattle.model_text.specs.Symbols.{AreFrameSymbols, IsFrameSymbol, of_program, of_head_state, of_step, IsSymbol, register, flag, memory, choice, IsGiven, given_register, given_flag, given_memory, gift_in}
use Rattle.answer_spec.specs.FrameModels.{all_given_declared, entry_declared, frame_declared, given_declared, head_declared, memories_named, words_named}
use Rattle.frame_model.specs.FrameSymbols.{AreOfFrame, DeclaredAreRead, IsGiftIf, IsGiftOf, IsHeadGift, IsWhole, stepped_by}

abbrev declared_as : Sort → List ℕ → Declared
declared_as sort w = record { name = w; sort = sort }

-- ---- lists of names

-- a name of a list
abbrev Named : List (List ℕ) → List ℕ → Type 0
Named names w = (i : ℕ) × (i < length names) × (slice_index_or names i [] ≡ w)

words_to : (n : ℕ) (names : List (List ℕ)) (d : Declared) → Contains (words_named n names) d → Named names d.name × (d.sort ≡ Words n)
words_to n [] d h = absurd (omega (arith, h.1))
words_to n (w ∷ names) d (zero, l, e) = ((0, omega arith, ap (λ (x : Declared). x.name) e), ap (λ (x : Declared). x.sort) (sym e))
words_to n (w ∷ names) d (suc i, l, e) =
    let r = words_to n names d (i, omega (arith, l), e) in ((suc r.0.0, omega (arith, r.0.1), r.0.2), r.1)

words_from : (n : ℕ) (names : List (List ℕ)) (w : List ℕ) → Named names w → Contains (words_named n names) (declared_as (Words n) w)
words_from n [] w h = absurd (omega (arith, h.1))
words_from n (v ∷ names) w (zero, l, e) = (0, omega arith, ap (declared_as (Words n)) e)
words_from n (v ∷ names) w (suc i, l, e) = let c = words_from n names w (i, omega (arith, l), e) in (suc c.0, omega (arith, c.1), c.2)

memories_to : (names : List (List ℕ)) (d : Declared) → Contains (memories_named names) d → Named names d.name × (d.sort ≡ Memories)
memories_to [] d h = absurd (omega (arith, h.1))
memories_to (w ∷ names) d (zero, l, e) = ((0, omega arith, ap (λ (x : Declared). x.name) e), ap (λ (x : Declared). x.sort) (sym e))
memories_to (w ∷ names) d (suc i, l, e) =
    let r = memories_to names d (i, omega (arith, l), e) in ((suc r.0.0, omega (arith, r.0.1), r.0.2), r.1)

memories_from : (names : List (List ℕ)) (w : List ℕ) → Named names w → Contains (memories_named names) (declared_as Memories w)
memories_from [] w h = absurd (omega (arith, h.1))
memories_from (v ∷ names) w (zero, l, e) = (0, omega arith, ap (declared_as Memories) e)
memories_from (v ∷ names) w (suc i, l, e) = let c = memories_from names w (i, omega (arith, l), e) in (suc c.0, omega (arith, c.1), c.2)

-- names behind letters
mapped_to : (g : List ℕ → List ℕ) (names : List (List ℕ)) (w : List ℕ) → Named (map g names) w → (v : List ℕ) × Named names v × (w ≡ g v)
mapped_to g [] w h = absurd (omega (arith, h.1))
mapped_to g (v ∷ names) w (zero, l, e) = (v, (0, omega arith, refl), sym e)
mapped_to g (v ∷ names) w (suc i, l, e) =
    let r = mapped_to g names w (i, omega (arith, l), e) in (r.0, (suc r.1.0, omega (arith, r.1.1), r.1.2), r.2)

mapped_from : (g : List ℕ → List ℕ) (names : List (List ℕ)) (v : List ℕ) → Named names v → Named (map g names) (g v)
mapped_from g [] v h = absurd (omega (arith, h.1))
mapped_from g (u ∷ names) v (zero, l, e) = (0, omega arith, ap g e)
mapped_from g (u ∷ names) v (suc i, l, e) = let r = mapped_from g names v (i, omega (arith, l), e) in (suc r.0, omega (arith, r.1), r.2)

-- names of registers that may change
later : (v : List ℕ) (names : List (List ℕ)) (w : List ℕ) → Named names w → Named (v ∷ names) w
later v names w (i, l, e) = (suc i, omega (arith, l), e)

registers_to : (changed : List ℕ) (r : ℕ) (names : List (List ℕ)) (w : List ℕ) → Named (changed_registers changed r names) w →
    (i : ℕ) × (i < length names) × (list_any (nat_eq (r + i)) changed ≡ true) × (slice_index_or names i [] ≡ w)
registers_to changed r [] w h = absurd (omega (arith, h.1))
registers_to changed r (v ∷ names) w h = by (list_any (nat_eq r) changed) refl h (λ k. registers_to changed (r + 1) names w k)
  where
    more : (Named (changed_registers changed (r + 1) names) w →
        (i : ℕ) × (i < length names) × (list_any (nat_eq (r + 1 + i)) changed ≡ true) × (slice_index_or names i [] ≡ w)) →
        Named (changed_registers changed (r + 1) names) w →
        (i : ℕ) × (i < length (v ∷ names)) × (list_any (nat_eq (r + i)) changed ≡ true) × (slice_index_or (v ∷ names) i [] ≡ w)
    more ih k =
        let q = ih k in
        let z : r + suc q.0 ≡ r + 1 + q.0 = omega arith in
        (suc q.0, omega (arith, q.1), ap (λ (n : ℕ). list_any (nat_eq n) changed) z ∙ q.2, q.3)

    by : (b : Bool) → list_any (nat_eq r) changed ≡ b →
        Named (if b then v ∷ changed_registers changed (r + 1) names else changed_registers changed (r + 1) names) w →
        (Named (changed_registers changed (r + 1) names) w →
        (i : ℕ) × (i < length names) × (list_any (nat_eq (r + 1 + i)) changed ≡ true) × (slice_index_or names i [] ≡ w)) →
        (i : ℕ) × (i < length (v ∷ names)) × (list_any (nat_eq (r + i)) changed ≡ true) × (slice_index_or (v ∷ names) i [] ≡ w)
    by true e (zero, l, f) ih =
        let z : r + 0 ≡ r = omega arith in (0, omega arith, ap (λ (n : ℕ). list_any (nat_eq n) changed) z ∙ e, f)
    by true e (suc i, l, f) ih = more ih (i, omega (arith, l), f)
    by false e k ih = more ih k

registers_from : (changed : List ℕ) (r : ℕ) (names : List (List ℕ)) (i : ℕ) → i < length names → list_any (nat_eq (r + i)) changed ≡ true →
    Named (changed_registers changed r names) (slice_index_or names i [])
registers_from changed r [] i l h = absurd (omega (arith, l))
registers_from changed r (v ∷ names) zero l h =
    let z : r ≡ r + 0 = omega arith in by (list_any (nat_eq r) changed) (ap (λ (n : ℕ). list_any (nat_eq n) changed) z ∙ h)
  where
    by : (b : Bool) → b ≡ true → Named (if b then v ∷ changed_registers changed (r + 1) names else changed_registers changed (r + 1) names) v
    by true e = (0, omega arith, refl)
    by false e = absurd (cc)
registers_from changed r (v ∷ names) (suc i) l h = by (list_any (nat_eq r) changed)
    (let z : r + 1 + i ≡ r + suc i = omega arith in
    registers_from changed (r + 1) names i (omega (arith, l)) (ap (λ (n : ℕ). list_any (nat_eq n) changed) z ∙ h))
  where
    by : (b : Bool) → Named (changed_registers changed (r + 1) names) (slice_index_or names i []) →
        Named (if b then v ∷ changed_registers changed (r + 1) names else changed_registers changed (r + 1) names) (slice_index_or names i [])
    by true k = later v (changed_registers changed (r + 1) names) (slice_index_or names i []) k
    by false k = k

flags_to : (changed : List ℕ) (names : List (List ℕ)) (w : List ℕ) → Named (changed_flags changed names) w →
    (i : ℕ) × (i < length names) × (list_any (nat_eq (length names - 1 - i)) changed ≡ true) × (slice_index_or names i [] ≡ w)
flags_to changed [] w h = absurd (omega (arith, h.1))
flags_to changed (v ∷ names) w h = by (list_any (nat_eq (length names)) changed) refl h (λ k. flags_to changed names w k)
  where
    more : (Named (changed_flags changed names) w →
        (i : ℕ) × (i < length names) × (list_any (nat_eq (length names - 1 - i)) changed ≡ true) × (slice_index_or names i [] ≡ w)) →
        Named (changed_flags changed names) w →
        (i : ℕ) × (i < length (v ∷ names)) × (list_any (nat_eq (length (v ∷ names) - 1 - i)) changed ≡ true) × (slice_index_or (v ∷ names) i [] ≡ w)
    more ih k =
        let q = ih k in
        let z : length (v ∷ names) - 1 - suc q.0 ≡ length names - 1 - q.0 = omega (arith, q.1) in
        (suc q.0, omega (arith, q.1), ap (λ (n : ℕ). list_any (nat_eq n) changed) z ∙ q.2, q.3)

    by : (b : Bool) → list_any (nat_eq (length names)) changed ≡ b →
        Named (if b then v ∷ changed_flags changed names else changed_flags changed names) w →
        (Named (changed_flags changed names) w →
        (i : ℕ) × (i < length names) × (list_any (nat_eq (length names - 1 - i)) changed ≡ true) × (slice_index_or names i [] ≡ w)) →
        (i : ℕ) × (i < length (v ∷ names)) × (list_any (nat_eq (length (v ∷ names) - 1 - i)) changed ≡ true) × (slice_index_or (v ∷ names) i [] ≡ w)
    by true e (zero, l, f) ih =
        let z : length (v ∷ names) - 1 - 0 ≡ length names = omega arith in (0, omega arith, ap (λ (n : ℕ). list_any (nat_eq n) changed) z ∙ e, f)
    by true e (suc i, l, f) ih = more ih (i, omega (arith, l), f)
    by false e k ih = more ih k

flags_from : (changed : List ℕ) (names : List (List ℕ)) (i : ℕ) → i < length names → list_any (nat_eq (length names - 1 - i)) changed ≡ true →
    Named (changed_flags changed names) (slice_index_or names i [])
flags_from changed [] i l h = absurd (omega (arith, l))
flags_from changed (v ∷ names) zero l h =
    let z : length names ≡ length (v ∷ names) - 1 - 0 = omega arith in
    by (list_any (nat_eq (length names)) changed) (ap (λ (n : ℕ). list_any (nat_eq n) changed) z ∙ h)
  where
    by : (b : Bool) → b ≡ true → Named (if b then v ∷ changed_flags changed names else changed_flags changed names) v
    by true e = (0, omega arith, refl)
    by false e = absurd (cc)
flags_from changed (v ∷ names) (suc i) l h = by (list_any (nat_eq (length names)) changed)
    (let z : length names - 1 - i ≡ length (v ∷ names) - 1 - suc i = omega (arith, l) in
    flags_from changed names i (omega (arith, l)) (ap (λ (n : ℕ). list_any (nat_eq n) changed) z ∙ h))
  where
    by : (b : Bool) → Named (changed_flags changed names) (slice_index_or names i []) →
        Named (if b then v ∷ changed_flags changed names else changed_flags changed names) (slice_index_or names i [])
    by true k = later v (changed_flags changed names) (slice_index_or names i []) k
    by false k = k

memory_to : (b : Bool) (w : List ℕ) → Named (written_memory b) w → (b ≡ true) × (w ≡ codes "mem")
memory_to true w (zero, l, e) = (refl, sym e)
memory_to true w (suc i, l, e) = absurd (omega (arith, l))
memory_to false w h = absurd (omega (arith, h.1))

memory_from : (b : Bool) → b ≡ true → Named (written_memory b) (codes "mem")
memory_from true e = (0, omega arith, refl)
memory_from false e = absurd (cc)

-- ---- a contract's step

-- three lists of declared symbols
three_cases : (a b c : List Declared) (d : Declared) → Contains (a ++ (b ++ c)) d → Contains a d ⊎ (Contains b d ⊎ Contains c d)
three_cases a b c d h = elim (Contains-append_cases a (b ++ c) d h) [
  | inl t ↦ inl t
  | inr t ↦ inr (Contains-append_cases b c d t)
]

in_second : (a b c : List Declared) (d : Declared) → Contains b d → Contains (a ++ (b ++ c)) d
in_second a b c d h = Contains-append_right a (b ++ c) d (Contains-append_left b c d h)

in_third : (a b c : List Declared) (d : Declared) → Contains c d → Contains (a ++ (b ++ c)) d
in_third a b c d h = Contains-append_right a (b ++ c) d (Contains-append_right b c d h)

-- a declared symbol by its name and its sort
as_is : (d : Declared) (w : List ℕ) (sort : Sort) → d.name ≡ w → d.sort ≡ sort → declared_as sort w ≡ d
as_is d w sort e f = ap (λ (z : List ℕ). declared_as sort z) (sym e) ∙ ap (λ (z : Sort). declared_as z d.name) (sym f)

module _ (layout : Layout) (x : Contract) (g : Gift) (is : IsGiftOf layout x g) (n : ℕ) where
  step_to : (d : Declared) → Contains (given_declared layout n (Some x)) d → (w : List ℕ) × (d.name ≡ of_given n w) × IsGiven layout g w d.sort
  step_to d h = elim (three_cases (words_named 32 (map (of_given n) (changed_registers x.registers layout.first layout.registers)))
      (words_named 1 (map (of_given n) (changed_flags x.flags layout.flags))) (memories_named (map (of_given n) (written_memory (writes_some x.writes)))) d h) [
        | inl t ↦ (let r = words_to 32 _ d t in
            let q = mapped_to (of_given n) _ d.name r.0 in
            let p = registers_to x.registers layout.first layout.registers q.0 q.1 in (
              q.0,
              q.2,
              subst (IsGiven layout g q.0) (sym r.1) (subst (λ (z : List ℕ). IsGiven layout g z (Words 32)) p.3 (given_register p.0 p.1
                  (is.registers p.0 p.1 ∙ p.2))),
            ))
        | inr (inl t) ↦ (let r = words_to 1 _ d t in
            let q = mapped_to (of_given n) _ d.name r.0 in
            let p = flags_to x.flags layout.flags q.0 q.1 in (
              q.0,
              q.2,
              subst (IsGiven layout g q.0) (sym r.1) (subst (λ (z : List ℕ). IsGiven layout g z (Words 1)) p.3 (given_flag p.0 p.1
                  (is.flags (length layout.flags - 1 - p.0) (omega (arith, p.1)) ∙ p.2))),
            ))
        | inr (inr t) ↦ (let r = memories_to _ d t in
            let q = mapped_to (of_given n) _ d.name r.0 in
            let p = memory_to (writes_some x.writes) q.0 q.1 in (
              q.0,
              q.2,
              subst (IsGiven layout g q.0) (sym r.1) (subst (λ (z : List ℕ). IsGiven layout g z Memories) (sym p.1) (given_memory
                  (is.memory ∙ p.0))),
            ))
      ]

  step_from : (w : List ℕ) (sort : Sort) → IsGiven layout g w sort → Contains (given_declared layout n (Some x)) (declared_as sort (of_given n w))
  step_from w sort (given_register i l b) =
      Contains-append_left (words_named 32 (map (of_given n) (changed_registers x.registers layout.first layout.registers)))
      (words_named 1 (map (of_given n) (changed_flags x.flags layout.flags)) ++ memories_named (map (of_given n) (written_memory (writes_some x.writes))))
      (declared_as (Words 32) (of_given n (slice_index_or layout.registers i [])))
      (words_from 32 _ _ (mapped_from (of_given n) _ _ (registers_from x.registers layout.first layout.registers i l (sym (is.registers i l) ∙ b))))
  step_from w sort (given_flag i l b) =
      in_second (words_named 32 (map (of_given n) (changed_registers x.registers layout.first layout.registers)))
      (words_named 1 (map (of_given n) (changed_flags x.flags layout.flags))) (memories_named (map (of_given n) (written_memory (writes_some x.writes))))
      (declared_as (Words 1) (of_given n (slice_index_or layout.flags i [])))
      (words_from 1 _ _ (mapped_from (of_given n) _ _ (flags_from x.flags layout.flags i l (sym (is.flags (length layout.flags - 1 - i) (omega (arith, l))) ∙ b))))
  step_from w sort (given_memory b) =
      in_third (words_named 32 (map (of_given n) (changed_registers x.registers layout.first layout.registers)))
      (words_named 1 (map (of_given n) (changed_flags x.flags layout.flags))) (memories_named (map (of_given n) (written_memory (writes_some x.writes))))
      (declared_as Memories (of_given n (codes "mem")))
      (memories_from _ _ (mapped_from (of_given n) _ _ (memory_from (writes_some x.writes) (sym is.memory ∙ b))))

-- ---- the points

module _ (f : Frame) (layout : Layout) where
  choices_to : (n : ℕ) (points : List Point) (w : List ℕ) → Named (frame_drawn_names f n points) w →
      (i : ℕ) × (slice_get (map (point_draws f) points) i ≡ Some true) × (w ≡ choice_name (n + i))
  choices_to n [] w h = absurd (omega (arith, h.1))
  choices_to n (q ∷ points) w h = by (point_draws f q) h (λ k. choices_to (n + 1) points w k)
    where
      more : (b : Bool) →
          (Named (frame_drawn_names f (n + 1) points) w →
          (i : ℕ) × (slice_get (map (point_draws f) points) i ≡ Some true) × (w ≡ choice_name (n + 1 + i))) →
          Named (frame_drawn_names f (n + 1) points) w →
          (i : ℕ) × (slice_get (b ∷ map (point_draws f) points) i ≡ Some true) × (w ≡ choice_name (n + i))
      more b ih k =
          let r = ih k in
          let z : n + 1 + r.0 ≡ n + suc r.0 = omega arith in (suc r.0, r.1, r.2 ∙ ap choice_name z)

      by : (b : Bool) → Named (if b then choice_name n ∷ frame_drawn_names f (n + 1) points else frame_drawn_names f (n + 1) points) w →
          (Named (frame_drawn_names f (n + 1) points) w → (i : ℕ) × (slice_get (map (point_draws f) points) i ≡ Some true) × (w ≡ choice_name (n + 1 + i))) →
          (i : ℕ) × (slice_get (b ∷ map (point_draws f) points) i ≡ Some true) × (w ≡ choice_name (n + i))
      by true (zero, l, e) ih = let z : n ≡ n + 0 = omega arith in (0, refl, sym e ∙ ap choice_name z)
      by true (suc i, l, e) ih = more true ih (i, omega (arith, l), e)
      by false k ih = more false ih k

  choices_from : (n : ℕ) (points : List Point) (i : ℕ) → slice_get (map (point_draws f) points) i ≡ Some true →
      Named (frame_drawn_names f n points) (choice_name (n + i))
  choices_from n [] i h = absurd (omega (arith, slice_get_within (map (point_draws f) []) i true h))
  choices_from n (q ∷ points) zero h = by (point_draws f q) h
    where
      by : (b : Bool) → Some b ≡ Some true →
          Named (if b then choice_name n ∷ frame_drawn_names f (n + 1) points else frame_drawn_names f (n + 1) points) (choice_name (n + 0))
      by true e = let z : n ≡ n + 0 = omega arith in (0, omega arith, ap choice_name z)
      by false e = absurd (cc)
  choices_from n (q ∷ points) (suc i) h = by (point_draws f q)
      (let z : n + 1 + i ≡ n + suc i = omega arith in
      subst (λ (m : ℕ). Named (frame_drawn_names f (n + 1) points) (choice_name m)) z (choices_from (n + 1) points i h))
    where
      by : (b : Bool) → Named (frame_drawn_names f (n + 1) points) (choice_name (n + suc i)) →
          Named (if b then choice_name n ∷ frame_drawn_names f (n + 1) points else frame_drawn_names f (n + 1) points) (choice_name (n + suc i))
      by true k = later (choice_name n) (frame_drawn_names f (n + 1) points) (choice_name (n + suc i)) k
      by false k = k

  -- what is declared of a point
  abbrev at_point : ℕ → Point → List Declared
  at_point n q = if q.contract then given_declared layout n (contract_at f.stepped q.at) else []

  by_step : (n : ℕ) (q : Point) (d : Declared) → Contains (at_point n q) d → Contains (given_declared layout n (stepped_by f q)) d
  by_step n q d h = by q.contract h
    where
      by : (b : Bool) → Contains (if b then given_declared layout n (contract_at f.stepped q.at) else []) d →
          Contains (given_declared layout n (if b then contract_at f.stepped q.at else None)) d
      by true k = k
      by false k = k

  step_by : (n : ℕ) (q : Point) (d : Declared) → Contains (given_declared layout n (stepped_by f q)) d → Contains (at_point n q) d
  step_by n q d h = by q.contract h
    where
      by : (b : Bool) → Contains (given_declared layout n (if b then contract_at f.stepped q.at else None)) d →
          Contains (if b then given_declared layout n (contract_at f.stepped q.at) else []) d
      by true k = k
      by false k = k

  steps_to : (n : ℕ) (points : List Point) (d : Declared) → Contains (all_given_declared f layout n points) d →
      (i : ℕ) × (q : Point) × (slice_get points i ≡ Some q) × Contains (given_declared layout (n + i) (stepped_by f q)) d
  steps_to n [] d h = absurd (omega (arith, h.1))
  steps_to n (q ∷ points) d h = elim (Contains-append_cases (at_point n q) (all_given_declared f layout (n + 1) points) d h) [
    | inl t ↦ (let z : n ≡ n + 0 = omega arith in
        (0, q, refl, subst (λ (m : ℕ). Contains (given_declared layout m (stepped_by f q)) d) z (by_step n q d t)))
    | inr t ↦ (let r = steps_to (n + 1) points d t in
        let z : n + 1 + r.0 ≡ n + suc r.0 = omega arith in
        (suc r.0, r.1, r.2, subst (λ (m : ℕ). Contains (given_declared layout m (stepped_by f r.1)) d) z r.3))
  ]

  steps_from : (n : ℕ) (points : List Point) (i : ℕ) (q : Point) (d : Declared) → slice_get points i ≡ Some q →
      Contains (given_declared layout (n + i) (stepped_by f q)) d → Contains (all_given_declared f layout n points) d
  steps_from n [] i q d e h = absurd (omega (arith, slice_get_within {A = Point} [] i q e))
  steps_from n (p ∷ points) zero q d e h =
      let same : p ≡ q = cc in
      let z : n + 0 ≡ n = omega arith in
      Contains-append_left (at_point n p) (all_given_declared f layout (n + 1) points) d
      (step_by n p d (subst (λ (x : Point). Contains (given_declared layout n (stepped_by f x)) d) (sym same)
      (subst (λ (m : ℕ). Contains (given_declared layout m (stepped_by f q)) d) z h)))
  steps_from n (p ∷ points) (suc i) q d e h =
      let z : n + suc i ≡ n + 1 + i = omega arith in
      Contains-append_right (at_point n p) (all_given_declared f layout (n + 1) points) d
      (steps_from (n + 1) points i q d e (subst (λ (m : ℕ). Contains (given_declared layout m (stepped_by f q)) d) z h))

-- ---- all

module _ (f : Frame) (layout : Layout) (points : List Point) (drawn : List Bool) (o : Others) (of : AreOfFrame f layout points drawn o) where
  abbrev heads : List Declared
  heads = head_declared layout (has_heads f)

  abbrev choices : List Declared
  choices = words_named 2 (frame_drawn_names f 0 points)

  abbrev steps : List Declared
  steps = all_given_declared f layout 0 points

  abbrev Is : Declared → Type 0
  Is d = IsFrameSymbol layout drawn o d

  -- of the entry state
  entry_to : (d : Declared) → Contains (entry_declared layout) d → Is d
  entry_to d h = elim (three_cases (words_named 32 layout.registers) (words_named 1 layout.flags) (memories_named (codes "mem" ∷ [])) d h) [
    | inl t ↦ (let r = words_to 32 layout.registers d t in
        subst Is (ap (declared_as (Words 32)) r.0.2 ∙ as_is d d.name (Words 32) refl r.1) (of_program (register r.0.0 r.0.1)))
    | inr (inl t) ↦ (let r = words_to 1 layout.flags d t in
        subst Is (ap (declared_as (Words 1)) r.0.2 ∙ as_is d d.name (Words 1) refl r.1) (of_program (flag r.0.0 r.0.1)))
    | inr (inr t) ↦ (let r = memories_to (codes "mem" ∷ []) d t in
        let m = memory_to true d.name r.0 in subst Is (as_is d (codes "mem") Memories m.1 r.1) (of_program memory))
  ]

  -- of the head state
  head_to : (b : Bool) (g : Option Gift) → IsHeadGift layout b g → o.head ≡ g → (d : Declared) → Contains (head_declared layout b) d → Is d
  head_to false g is e d h = absurd (omega (arith, h.1))
  head_to true None is e d h = absurd is
  head_to true (Some g) is e d h =
      elim (three_cases (words_named 32 (map of_head layout.registers)) (words_named 1 (map of_head layout.flags)) (memories_named (of_head (codes "mem") ∷ []))
      d h) [
        | inl t ↦ (let r = words_to 32 _ d t in
            let q = mapped_to of_head layout.registers d.name r.0 in
            subst Is (as_is d (of_head q.0) (Words 32) q.2 r.1) (of_head_state g q.0 (Words 32) e
            (subst (λ (z : List ℕ). IsGiven layout g z (Words 32)) q.1.2 (given_register q.1.0 q.1.1 (is.registers q.1.0 q.1.1)))))
        | inr (inl t) ↦ (let r = words_to 1 _ d t in
            let q = mapped_to of_head layout.flags d.name r.0 in
            subst Is (as_is d (of_head q.0) (Words 1) q.2 r.1) (of_head_state g q.0 (Words 1) e
            (subst (λ (z : List ℕ). IsGiven layout g z (Words 1)) q.1.2 (given_flag q.1.0 q.1.1
            (is.flags (length layout.flags - 1 - q.1.0) (omega (arith, q.1.1)))))))
        | inr (inr t) ↦ (let r = memories_to (map of_head (codes "mem" ∷ [])) d t in
            let q = mapped_to of_head (codes "mem" ∷ []) d.name r.0 in
            let m = memory_to true q.0 q.1 in
            subst Is (as_is d (of_head q.0) Memories q.2 r.1) (of_head_state g q.0 Memories e
            (subst (λ (z : List ℕ). IsGiven layout g z Memories) (sym m.1) (given_memory is.memory))))
      ]

  choice_to : (d : Declared) → Contains choices d → Is d
  choice_to d h =
      let r = words_to 2 (frame_drawn_names f 0 points) d h in
      let q = choices_to f layout 0 points d.name r.0 in
      let z : 0 + q.0 ≡ q.0 = omega arith in
      subst Is (as_is d (choice_name q.0) (Words 2) (q.2 ∙ ap choice_name z) r.1)
      (of_program (choice q.0 (ap (λ (xs : List Bool). slice_get xs q.0) of.draws ∙ q.1)))

  step_is : (n : ℕ) (x : Option Contract) (g : Option (Option Gift)) → IsGiftIf layout x (gift_in g) → slice_get o.given.items n ≡ g → (d : Declared) →
      Contains (given_declared layout n x) d → Is d
  step_is n None g is e d h = absurd (omega (arith, h.1))
  step_is n (Some x) None is e d h = absurd is
  step_is n (Some x) (Some None) is e d h = absurd is
  step_is n (Some x) (Some (Some g)) is e d h =
      let r = step_to layout x g is n d h in subst Is (as_is d (of_given n r.0) d.sort r.1 refl) (of_step n g r.0 d.sort e r.2)

  steps_is : (d : Declared) → Contains steps d → Is d
  steps_is d h =
      let r = steps_to f layout 0 points d h in
      let z : 0 + r.0 ≡ r.0 = omega arith in
      step_is r.0 (stepped_by f r.1) (slice_get o.given.items r.0) (of.given r.0 r.1 r.2) refl d
      (subst (λ (m : ℕ). Contains (given_declared layout m (stepped_by f r.1)) d) z r.3)

  symbol_to : (d : Declared) → Contains (frame_declared f layout points) d → Is d
  symbol_to d h = elim (Contains-append_cases (entry_declared layout) (heads ++ (choices ++ steps)) d h) [
    | inl t ↦ entry_to d t
    | inr t ↦ elim (three_cases heads choices steps d t) [
      | inl u ↦ head_to (has_heads f) o.head of.head refl d u
      | inr (inl u) ↦ choice_to d u
      | inr (inr u) ↦ steps_is d u
    ]
  ]

  -- ---- the other way round

  behind_entry : (d : Declared) → Contains (heads ++ (choices ++ steps)) d → Contains (frame_declared f layout points) d
  behind_entry d h = Contains-append_right (entry_declared layout) (heads ++ (choices ++ steps)) d h

  of_entry : (d : Declared) → Contains (entry_declared layout) d → Contains (frame_declared f layout points) d
  of_entry d h = Contains-append_left (entry_declared layout) (heads ++ (choices ++ steps)) d h

  program_from : (d : Declared) → IsSymbol layout drawn d → Contains (frame_declared f layout points) d
  program_from d (register i l) =
      of_entry (declared_as (Words 32) (slice_index_or layout.registers i []))
      (Contains-append_left (words_named 32 layout.registers) (words_named 1 layout.flags ++ memories_named (codes "mem" ∷ []))
      (declared_as (Words 32) (slice_index_or layout.registers i [])) (words_from 32 layout.registers _ (i, l, refl)))
  program_from d (flag i l) =
      of_entry (declared_as (Words 1) (slice_index_or layout.flags i []))
      (in_second (words_named 32 layout.registers) (words_named 1 layout.flags) (memories_named (codes "mem" ∷ []))
      (declared_as (Words 1) (slice_index_or layout.flags i [])) (words_from 1 layout.flags _ (i, l, refl)))
  program_from d memory =
      of_entry (declared_as Memories (codes "mem"))
      (in_third (words_named 32 layout.registers) (words_named 1 layout.flags) (memories_named (codes "mem" ∷ [])) (declared_as Memories (codes "mem"))
      (memories_from (codes "mem" ∷ []) (codes "mem") (0, omega arith, refl)))
  program_from d (choice n e) =
      let z : 0 + n ≡ n = omega arith in
      behind_entry (declared_as (Words 2) (choice_name n)) (in_second heads choices steps (declared_as (Words 2) (choice_name n))
      (words_from 2 (frame_drawn_names f 0 points) (choice_name n)
      (subst (λ (m : ℕ). Named (frame_drawn_names f 0 points) (choice_name m)) z
      (choices_from f layout 0 points n (ap (λ (xs : List Bool). slice_get xs n) (sym of.draws) ∙ e)))))

  head_from : (b : Bool) (h : Option Gift) (g : Gift) (w : List ℕ) (sort : Sort) → IsHeadGift layout b h → h ≡ Some g → IsGiven layout g w sort →
      Contains (head_declared layout b) (declared_as sort (of_head w))
  head_from false None g w sort is e k = absurd (cc)
  head_from false (Some h) g w sort is e k = absurd is
  head_from true None g w sort is e k = absurd is
  head_from true (Some h) g w sort is e (given_register i l b) =
      Contains-append_left (words_named 32 (map of_head layout.registers)) (words_named 1 (map of_head layout.flags) ++ memories_named (of_head (codes "mem") ∷ []))
      (declared_as (Words 32) (of_head (slice_index_or layout.registers i []))) (words_from 32 _ _ (mapped_from of_head layout.registers _ (i, l, refl)))
  head_from true (Some h) g w sort is e (given_flag i l b) =
      in_second (words_named 32 (map of_head layout.registers)) (words_named 1 (map of_head layout.flags)) (memories_named (of_head (codes "mem") ∷ []))
      (declared_as (Words 1) (of_head (slice_index_or layout.flags i []))) (words_from 1 _ _ (mapped_from of_head layout.flags _ (i, l, refl)))
  head_from true (Some h) g w sort is e (given_memory b) =
      in_third (words_named 32 (map of_head layout.registers)) (words_named 1 (map of_head layout.flags)) (memories_named (of_head (codes "mem") ∷ []))
      (declared_as Memories (of_head (codes "mem"))) (memories_from (of_head (codes "mem") ∷ []) (of_head (codes "mem")) (0, omega arith, refl))

  step_there : (n : ℕ) (x : Option Contract) (g : Gift) (w : List ℕ) (sort : Sort) → IsGiftIf layout x (Some g) → IsGiven layout g w sort →
      Contains (given_declared layout n x) (declared_as sort (of_given n w))
  step_there n None g w sort is k = absurd is
  step_there n (Some x) g w sort is k = step_from layout x g is n w sort k

  steps_there : (n : ℕ) (g : Gift) (w : List ℕ) (sort : Sort) (q : Option Point) → slice_get points n ≡ q → n < length points →
      slice_get o.given.items n ≡ Some (Some g) → IsGiven layout g w sort → Contains steps (declared_as sort (of_given n w))
  steps_there n g w sort None e l h k = absurd (none_within points n l e)
    where
      none_within : (xs : List Point) (n : ℕ) → n < length xs → slice_get xs n ≡ None → ⊥
      none_within [] n l e = omega (arith, l)
      none_within (x ∷ xs) zero l e = cc
      none_within (x ∷ xs) (suc n) l e = none_within xs n (omega (arith, l)) e
  steps_there n g w sort (Some q) e l h k =
      let z : n ≡ 0 + n = omega arith in
      let is : IsGiftIf layout (stepped_by f q) (Some g) =
      subst (λ (x : Option (Option Gift)). IsGiftIf layout (stepped_by f q) (gift_in x)) h (of.given n q e) in
      steps_from f layout 0 points n q (declared_as sort (of_given n w)) e
      (subst (λ (m : ℕ). Contains (given_declared layout m (stepped_by f q)) (declared_as sort (of_given n w))) z
      (step_there n (stepped_by f q) g w sort is k))

  symbol_from : (d : Declared) → Is d → Contains (frame_declared f layout points) d
  symbol_from d (of_program h) = program_from d h
  symbol_from d (of_head_state g w sort e k) =
      behind_entry (declared_as sort (of_head w)) (Contains-append_left heads (choices ++ steps) (declared_as sort (of_head w))
      (head_from (has_heads f) o.head g w sort of.head e k))
  symbol_from d (of_step n g w sort e k) =
      let l = slice_get_within o.given.items n (Some g) e in
      behind_entry (declared_as sort (of_given n w)) (in_third heads choices steps (declared_as sort (of_given n w))
      (steps_there n g w sort (slice_get points n) refl (omega (arith, l, of.count)) e k))

  pub are_frame_symbols : AreFrameSymbols layout drawn o (frame_declared f layout points)
  are_frame_symbols d = (symbol_to d, symbol_from d)

pub declared_are_read : DeclaredAreRead
declared_are_read f layout points drawn o of = are_frame_symbols f layout points drawn o of
