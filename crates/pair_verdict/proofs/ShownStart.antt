-- What is shown of the entry's segment of a program's frame is the start of the values.
use Rattle.std.proofs.Common.{◌≡◌, refl, ap, sym, ◌∙◌, subst, arith, inl, inr, ℕ, ◌%◌, ◌<◌, ◌≤◌, ◌^◌, List, Some, Bool, true, false, length, map}
use Rattle.std.specs.Prelude.{All, if◌then◌else◌, nat_eq, nat_lt, slice_index}
use Rattle.std.specs.List.{list_any}
use Rattle.std.proofs.lemmas.Bool.Decides.{nat_tests}
use Rattle.std.proofs.Math.Path.{fun_ext}
use Rattle.word_spec.specs.Memory.{Memory, byte_in}
use Rattle.word_spec.specs.State.{IsState, State, Written}
use Rattle.word_spec.specs.Words.{bit_at}
use Rattle.machine_spec.specs.StateText.{Layout, register_at}
use Rattle.bilv_spec.specs.Questions.{Reading}
use Rattle.bilv_spec.proofs.Pigeons.{truth}
use Rattle.term_spec.specs.Cells.{AreFormed, Cells, read_address}
use Rattle.term_spec.specs.ClauseForm.{IsReadingOf, IsStartOf, reading, start_memory}
use Rattle.term_spec.specs.Terms.{TermReading, with_mem}
use Rattle.walk_spec.specs.Unrolled as tables
use Rattle.walk_spec.specs.Unrolled.{Carried, ExitsLeadLater, byte_of_runs}
use Rattle.walk_spec.specs.Unrolling.{IsLaidOut}
use Rattle.walk_laws.proofs.CellValues.{word_same}
use Rattle.walk_laws.proofs.InputsWithin.{reading_in_range}
use Rattle.walk_laws.proofs.StartReadings.{high_bit, register_is}
use Rattle.frame_spec.specs.Frames.{content_at}
use Rattle.frame_spec.specs.FramePoints.{triple}
use Rattle.frame_spec.specs.FrameQuestions as frames
use Rattle.frame_spec.specs.FrameWalk.{Gift, StepsOver, UnrolledProgram, WalkIsAt, walk_of}
use Rattle.frame_laws.specs.HeadlessLaws.{as_action, as_content, as_unrolled, as_walk, entry_root}
use Rattle.frame_laws.proofs.HeadlessReads.{full_reading, is_full}
use Rattle.frame_laws.proofs.HeadlessWalks.{count_same, headless_walks, place_same}
use Rattle.frame_terms.specs.FrameStarts.{AreChoices, AreParts, IsReadingOfParts, WrittenParts, place_choice, written_content}
use Rattle.frame_terms.specs.PassiveFrames.{IsGiftAt}
use Rattle.frame_terms.specs.HeadlessTerms.{as_cells}
use Rattle.frame_terms.proofs.PartStarts.{content_is}
use Rattle.bit_blast.proofs.StepChoices.{walk_same}
use Rattle.pair_verdict.proofs.FormedFrames.{read_in}

state_is : (a b : State) → a.pc ≡ b.pc → a.regs ≡ b.regs → a.flags ≡ b.flags → a.mem ≡ b.mem → a ≡ b
state_is a b p r f m =
    ap (λ (z : ℕ). record { pc = z; regs = a.regs; flags = a.flags; mem = a.mem }) p
    ∙ ap (λ (z : ℕ → ℕ). record { pc = b.pc; regs = z; flags = a.flags; mem = a.mem }) r
    ∙ ap (λ (z : ℕ → ℕ). record { pc = b.pc; regs = b.regs; flags = z; mem = a.mem }) f
    ∙ ap (λ (z : Memory). record { pc = b.pc; regs = b.regs; flags = b.flags; mem = z }) m

small : (n : ℕ) → n < 4 → n % 4 ≡ n
small n l = omega arith

zero_if : (b : Bool) (a : ℕ) → b ≡ false → (if b then a else 0) ≡ 0
zero_if b a e = ap (λ z. if z then a else 0) e

twice_if : (b : Bool) (a : ℕ) → (if b then (if b then a else 0) else 0) ≡ (if b then a else 0)
twice_if true a = refl
twice_if false a = refl

module _ (u : tables.UnrolledProgram) (c : Cells) (v : ℕ → Bool) (layout : Layout) (laid : IsLaidOut layout u) (formed : AreFormed u c)
    (some : 0 < length u.points) (later : ExitsLeadLater u) (entry : u.entry < 2 ^ 32) (known : (a b : ℕ) → byte_of_runs u.known a ≡ Some b → b < 256)
    (p : WrittenParts) (parts : AreParts (as_unrolled u) false (as_cells c) (reading u c v) p) where
  abbrev w : UnrolledProgram
  w = as_unrolled u

  abbrev e : Written
  e = p.entry

  abbrev x : TermReading
  x = reading u c v

  -- ---- the state of a reading of the start

  register_same : (n : ℕ) → x.regs 0 n ≡ register_at layout e.regs n
  register_same n =
      sym (ap (λ (z : List ℕ). register_at layout z n) (parts.at_entry.regs ∙ ap (map (x.regs 0)) laid.registers)
      ∙ register_is (x.regs 0) layout.first (length layout.registers) n
      (λ none. zero_if (tables.is_register_of u n) _ (ap (list_any (nat_eq n)) laid.registers ∙ none)))

  flag_same : (f : ℕ) → x.flags 0 f ≡ bit_at f e.flags
  flag_same f = elim (truth (nat_lt f u.flags)) [
    | inl t ↦ sym (parts.at_entry.flags f (grind (arith, nat_tests)))
    | inr g ↦ zero_if (tables.is_flag_of u f) _ g ∙ sym (high_bit u.flags f e.flags parts.at_entry.flags_fit (grind (arith, nat_tests)))
  ]

  -- no contract step is made
  no_gift_by : (a : tables.Action) (g : Gift) → as_action a ≡ StepsOver g → ⊥
  no_gift_by (tables.Executes list) g same = cc

  no_gift : (i : ℕ) (g : Gift) → IsGiftAt w i g → ⊥
  no_gift i g at = no_gift_by (tables.point_at u i).does g (sym (ap (λ z. z.does) (place_same u i)) ∙ at.does)

  choice_same : (i : ℕ) → place_choice w x i ≡ x.choice i
  choice_same i =
      ap (λ (q : Bool). if q then x.choice i else 0) (ap (λ z. z.draws) (place_same u i)) ∙ twice_if (tables.point_at u i).draws _

  module _ (cs : List (ℕ × ℕ)) (choices : AreChoices w false layout x p entry_root cs) where
    abbrev shown : Written
    shown = record e { choices = cs }

    -- ---- a reading of it, as one of the frame

    module _ (r : Reading) (is : IsReadingOf u c v shown r) where
      s : Reading
      s = record { state = r.state; choice = λ p. r.choice p % 4 }

      kept : (i : ℕ) → i < length u.points → r.choice (tables.point_at u i).point ≡ r.choice (tables.point_at u i).point % 4
      kept i l =
          let at = is.choice i l in
          sym (small (r.choice (tables.point_at u i).point) (subst (λ (n : ℕ). n < 4) (sym at) ((reading_in_range u c v).choice i)))

      state_same : r.state ≡ content_at (written_content layout w 0 e) u.entry
      state_same =
          state_is r.state (content_at (written_content layout w 0 e) u.entry) is.pc (is.regs ∙ fun_ext register_same) (is.flags ∙ fun_ext flag_same) is.mem

      full : frames.IsReading (full_reading s)
      unfolding s
      full =
          let content = content_is w (as_cells c) x (reading_in_range u c v) 0 e parts.at_entry layout known in
          is_full s
          (subst (λ (z : State). IsState z) (sym state_same)
          (record { pc = entry; regs = content.regs; flags = content.flags; mem = content.mem }))
          (λ q. omega arith)

      of_parts : IsReadingOfParts w false layout x p (full_reading s)
      unfolding s
      of_parts = record {
        reading = full;
        state = state_same;
        at_head = λ t. absurd (let f : false ≡ true = t in cc);
        at_gift = λ i g at. absurd (no_gift i g at);
        choice = λ i l.
            (let inside : i < length u.points = subst (λ (n : ℕ). i < n) (count_same u) l in
            ap (λ z. r.choice (triple z.point) % 4) (place_same u i) ∙ sym (kept i inside) ∙ is.choice i inside ∙ sym (choice_same i));
      }

      walk_is : (step i : ℕ) (d : Carried) → tables.walk u r step ≡ tables.WalkIsAt i d → walk_of w (full_reading s) entry_root step ≡ WalkIsAt i (as_content d)
      unfolding s
      walk_is step i d at =
          headless_walks u (full_reading s) step
          ∙ ap as_walk (sym (walk_same u some later r (record { state = r.state; choice = λ p. r.choice p % 4 }) refl kept step) ∙ at)

      follows : (step i : ℕ) (d : Carried) → tables.walk u r step ≡ tables.WalkIsAt i d → byte_in cs step ≡ x.choice i
      follows step i d at = choices.follows (full_reading s) of_parts refl step i (as_content d) (walk_is step i d at) ∙ choice_same i

    -- ---- the start

    gives : (j : ℕ) → j < length c.addresses → x.base 0 j ≡ start_memory u shown (read_address c (with_mem x (start_memory u shown)) j)
    gives j l =
        parts.at_entry.gives j (read_in c j l)
        ∙ ap (start_memory u shown)
        (word_same u c formed x (with_mem x (start_memory u shown))
        (record { regs = λ n m. refl; flags = λ f m. refl; choice = λ i m. refl; base = λ i m. refl }) (slice_index c.addresses j) (formed.addresses j l).0)

    pub start_of : IsStartOf u c v shown
    start_of = record {
      regs = parts.at_entry.regs;
      flags = parts.at_entry.flags;
      flags_fit = parts.at_entry.flags_fit;
      bytes = parts.at_entry.bytes;
      bytes_rise = parts.at_entry.bytes_rise;
      unknown = parts.at_entry.unknown;
      gives = gives;
      choices = subst (λ (n : ℕ). All (λ z. (z.0 < n) × (1 ≤ z.1) × (z.1 ≤ 3)) cs) (count_same u) choices.within;
      choices_rise = choices.rise;
      follows = follows;
    }
