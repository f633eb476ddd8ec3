-- The words of the points that are met, from the parts of values, and their choices.
use Rattle.std.proofs.Common.{◌≡◌, refl, ap, sym, ◌∙◌, subst, arith, ℕ, zero, suc, ◌<◌, List, Some, Bool, true, false, length}
use Rattle.std.specs.Prelude.{Contains, map, nat_eq, nat_lt, slice_get, slice_index, if◌then◌else◌}
use Rattle.std.specs.List.{list_any}
use Rattle.std.proofs.lemmas.Bool.Decides.{nat_tests}
use Rattle.machine_spec.specs.StateText.{Layout, register_at}
use Rattle.walk_laws.proofs.StartReadings.{register_is}
use Rattle.std.proofs.Math.Path.{fun_ext}
use Rattle.word_spec.specs.State.{State}
use Rattle.clause_spec.specs.Clauses.{valuation}
use Rattle.walk_spec.specs.Unrolling.{IsLaidOut}
use Rattle.frame_spec.specs.Frames.{Content}
use Rattle.frame_spec.specs.FrameQuestions as questions
use Rattle.frame_spec.specs.FrameWalk.{Gift, UnrolledProgram, point_at}
use Rattle.term_spec.specs.Terms.{TermReading, TermNode}
use Rattle.frame_terms.specs.PassiveFrames.{part_reading, inputs_of, IsGiftAt, NamesRegister, NamesFlag, NamesMemory, AreNamedBelow, DrawsAt}
use Rattle.frame_terms.specs.FrameStarts.{HasValues, AreParts, IsReadingOfParts, gift_content, place_choice}
use Rattle.frame_terms.proofs.FrameInputs.{found_in}
use Rattle.frame_terms.proofs.PartStarts.{gift_flag, gift_register}
use Rattle.frame_terms.proofs.PartValues.{frame_terms_agree}
use Rattle.byte_mem.specs.declared.bytes.Bytes32.{Bytes32}
use Rattle.term_dag.specs.declared.values.Reading.{Reading}
use Rattle.term_dag.specs.Readings.{AreWords, part_in, reading_of}
use Rattle.start_value.specs.Starts.{layout_of, written_of}
use Rattle.question_form.specs.FrameQuestions.{heads_of_question, is_of_heads}
use Rattle.mem_cells.specs.declared.cells.Celled.{Celled}
use Rattle.mem_cells.specs.FrameViews.{frame_cells_of, frame_of_cells}
use Rattle.bit_blast.specs.declared.input_places.InputPlaces.{InputPlaces}
use Rattle.bit_blast.specs.Laid.{AreFramePlaces}
use Rattle.bit_blast.specs.Places.{IsReadingAt}
use Rattle.bit_blast.specs.Steps.{choice_at}
use Rattle.bit_blast.proofs.FramePlaces.{at_of_bits, drawn_there, flag_of, number_of}
use Rattle.frame_start.specs.Files.{ForSomeValues}
use Rattle.frame_start.specs.Inputs.{HasInputs, HasPartAt, both_reading}
use Rattle.frame_start.specs.declared.parts.Parts.{Parts}
use Rattle.frame_start.specs.Changes.{AreOthers, IsOfGift, gift_in}
use Rattle.frame_start.specs.Met.{IsOfPart, head_by, shown_reading}
use Rattle.frame_start.specs.Segments.{written_parts}
use Rattle.frame_start.proofs.ChangedSets.{given_of}
use Rattle.frame_start.proofs.ChosenSteps.{points_long}
use Rattle.frame_start.proofs.GiftInputs.{part_at, part_first}
use Rattle.frame_start.proofs.PartInputs.{choice_is}

pub with_memory : (p : InputPlaces) (values : List Bool) (part n : ℕ) (r : Reading) (m : Bytes32) → HasInputs p values part n r →
    HasInputs p values part n (record r { memory = m })
with_memory p values part n r m h x range at = let k = h x range at in record { regs = k.regs; flags = k.flags; base = k.base }

-- a register that is written in the order of the frame
register_written : (layout : Layout) (u : UnrolledProgram) → IsLaidOut layout (inputs_of u) → (f : ℕ → ℕ) (regs : List ℕ) → regs ≡ map f u.registers → (n : ℕ) →
    list_any (nat_eq n) u.registers ≡ true → register_at layout regs n ≡ f n
register_written layout u laid f regs e n h =
    ap (λ z. register_at layout z n) (e ∙ ap (map f) laid.registers)
    ∙ register_is f layout.first (length layout.registers) n
    (λ e. absurd (let q : true ≡ false = sym (subst (λ z. list_any (nat_eq n) z ≡ true) laid.registers h) ∙ e in cc))

less : (a b : ℕ) → nat_lt a b ≡ true → a < b
less a b e = grind (arith, nat_tests)

module _ (c : Celled) (values : List Bool) (p : InputPlaces)
    (is : AreFramePlaces (frame_of_cells c) (heads_of_question c.question.now) (frame_cells_of c) p) (parts : Parts) where
  abbrev u : UnrolledProgram
  u = frame_of_cells c

  laid : IsLaidOut (layout_of c.question.now.passive.now.unrolled.now.form) (inputs_of (frame_of_cells c))
  laid = record { registers = refl; flags = refl }

  module _ (some : ForSomeValues c values (λ x. AreParts (frame_of_cells c) (is_of_heads c.question.now) (frame_cells_of c) x (written_parts parts)))
      (first : Reading) (of_entry : IsOfPart c p values 0 (written_of parts.entry) first)
      (each : (i : ℕ) → i < length p.drawn.items → slice_index first.choices.items i ≡ choice_at p (valuation values) i)
      (second : Reading) (of_head : is_of_heads c.question.now ≡ true → IsOfPart c p values 1 (written_of parts.head) second) (others : List Reading)
      (are : AreOthers (frame_of_cells c) p values (length c.addresses.items) (length c.question.now.passive.now.unrolled.now.points.items) second
      parts.gifts.items others) (r : questions.Reading)
      (isr : IsReadingOfParts (frame_of_cells c) (is_of_heads c.question.now) (layout_of c.question.now.passive.now.unrolled.now.form) some.0
      (written_parts parts) r) where
    abbrev x : TermReading
    x = some.0

    at : IsReadingAt p (valuation values) some.0
    at = at_of_bits (frame_of_cells c) (heads_of_question c.question.now) (frame_cells_of c) p is (valuation values) some.0 some.1.in_range some.1.bits

    has_entry : HasPartAt p some.0 0 (length c.addresses.items) first
    has_entry = of_entry.has some.0 some.1.in_range at

    entry_register : (n : ℕ) → NamesRegister (frame_of_cells c) (heads_of_question c.question.now) 0 n → (reading_of first).regs 0 n ≡ r.state.regs n
    entry_register n h =
        let q = number_of (frame_of_cells c) (heads_of_question c.question.now) (frame_cells_of c) p is n h in
        has_entry.regs n tt q.0 q.1
        ∙ sym (register_written (layout_of c.question.now.passive.now.unrolled.now.form) (frame_of_cells c) laid (some.0.regs 0) (written_of parts.entry).regs
        some.2.at_entry.regs n h)
        ∙ ap (λ (s : State). s.regs n) (sym isr.state)

    entry_flag : (n : ℕ) → NamesFlag (frame_of_cells c) (heads_of_question c.question.now) 0 n → (reading_of first).flags 0 n ≡ r.state.flags n
    entry_flag n h =
        has_entry.flags n tt (flag_of (frame_of_cells c) (heads_of_question c.question.now) (frame_cells_of c) p is n h)
        ∙ sym (some.2.at_entry.flags n (less n (frame_of_cells c).flags h))
        ∙ ap (λ (s : State). s.flags n) (sym isr.state)

    entry_memory : (λ (a : ℕ). (reading_of first).mem 0 a) ≡ r.state.mem
    entry_memory = fun_ext of_entry.memory ∙ ap (λ (s : State). s.mem) (sym isr.state)

    choice_same : (i : ℕ) → DrawsAt (frame_of_cells c) i → (reading_of first).choice i ≡ r.choice (point_at (frame_of_cells c) i).point
    choice_same i d =
        let k = drawn_there (frame_of_cells c) (heads_of_question c.question.now) (frame_cells_of c) p is i d in
        choice_is (valuation values) some.0 p 0 some.1.in_range at first.choices.items each i k.0 k.1
        ∙ sym (ap (λ z. if z then some.0.choice i else 0) d.1) ∙ sym (isr.choice i d.0)

    -- what stands for the head part
    head_register : (b : Bool) → is_of_heads c.question.now ≡ b → (n : ℕ) → NamesRegister (frame_of_cells c) (heads_of_question c.question.now) 1 n →
        (reading_of second).regs 0 n ≡ (head_by b r second).regs n
    head_register true t n h =
        let q = number_of (frame_of_cells c) (heads_of_question c.question.now) (frame_cells_of c) p is n h.1 in
        ((of_head t).has some.0 some.1.in_range at).regs n (is.head_is ∙ h.0) q.0 q.1
        ∙ sym (register_written (layout_of c.question.now.passive.now.unrolled.now.form) (frame_of_cells c) laid (some.0.regs 1) (written_of parts.head).regs
        (some.2.at_head t).regs n h.1)
        ∙ ap (λ (s : Content). s.regs n) (sym (isr.at_head t))
    head_register false t n h = refl

    head_flag : (b : Bool) → is_of_heads c.question.now ≡ b → (n : ℕ) → NamesFlag (frame_of_cells c) (heads_of_question c.question.now) 1 n →
        (reading_of second).flags 0 n ≡ (head_by b r second).flags n
    head_flag true t n h =
        ((of_head t).has some.0 some.1.in_range at).flags n (is.head_is ∙ h.0)
        (flag_of (frame_of_cells c) (heads_of_question c.question.now) (frame_cells_of c) p is n h.1)
        ∙ sym ((some.2.at_head t).flags n (less n (frame_of_cells c).flags h.1))
        ∙ ap (λ (s : Content). s.flags n) (sym (isr.at_head t))
    head_flag false t n h = refl

    head_memory : (b : Bool) → is_of_heads c.question.now ≡ b → (λ (a : ℕ). (reading_of second).mem 0 a) ≡ (head_by b r second).mem
    head_memory true t = fun_ext (of_head t).memory ∙ ap (λ (s : Content). s.mem) (sym (isr.at_head t))
    head_memory false t = refl

    -- and what is given
    module _ (i : ℕ) (g : Gift) (there : IsGiftAt (frame_of_cells c) i g) where
      listed_gift : (q : Reading) × (slice_get others (suc i) ≡ Some q) × IsOfGift p values i (length c.addresses.items) g (gift_in parts.gifts.items i).bytes q
      listed_gift =
          are.each i (let a = there.place in
          let b = points_long c.question.now.passive.now.unrolled.now c.question.now.passive.now.unrolled.now.points.items in omega arith) g there

      part_is_gift : part_in first others (suc (suc i)) ≡ listed_gift.0
      part_is_gift = part_at first others (suc i) listed_gift.0 listed_gift.1

      gift_given : gift_content (frame_of_cells c) i (gift_in parts.gifts.items i) ≡ r.given (point_at (frame_of_cells c) i).point
      gift_given = sym (isr.at_gift i g there)

      gift_register_same : (n : ℕ) → list_any (nat_eq n) (frame_of_cells c).registers ≡ true → Contains g.registers n →
          (reading_of (part_in first others (suc (suc i)))).regs 0 n ≡ (r.given (point_at (frame_of_cells c) i).point).regs n
      gift_register_same n named inside =
          let q = number_of (frame_of_cells c) (heads_of_question c.question.now) (frame_cells_of c) p is n named in
          ap (λ (z : Reading). (reading_of z).regs 0 n) part_is_gift
          ∙ (listed_gift.2.has some.0 some.1.in_range at).regs n (given_of p g.registers n q.0 q.1 (found_in g.registers n inside))
          ∙ sym (gift_register (frame_of_cells c) (frame_cells_of c) some.0 i (gift_in parts.gifts.items i) (some.2.at_gift i g there) g there n named inside)
          ∙ ap (λ (s : Content). s.regs n) gift_given

      gift_flag_same : (n : ℕ) → nat_lt n (frame_of_cells c).flags ≡ true → Contains g.flags n →
          (reading_of (part_in first others (suc (suc i)))).flags 0 n ≡ (r.given (point_at (frame_of_cells c) i).point).flags n
      gift_flag_same n named inside =
          ap (λ (z : Reading). (reading_of z).flags 0 n) part_is_gift
          ∙ (listed_gift.2.has some.0 some.1.in_range at).flags n
          (flag_of (frame_of_cells c) (heads_of_question c.question.now) (frame_cells_of c) p is n named) (found_in g.flags n inside)
          ∙ sym (gift_flag (frame_of_cells c) (frame_cells_of c) some.0 i (gift_in parts.gifts.items i) (some.2.at_gift i g there) g there n named inside)
          ∙ ap (λ (s : Content). s.flags n) gift_given

      gift_memory_same : (λ (a : ℕ). (reading_of (part_in first others (suc (suc i)))).mem 0 a) ≡ (r.given (point_at (frame_of_cells c) i).point).mem
      gift_memory_same =
          ap (λ (z : Reading). (λ (a : ℕ). (reading_of z).mem 0 a)) part_is_gift
          ∙ fun_ext listed_gift.2.memory
          ∙ ap (λ (s : Content). s.mem) gift_given

    module _ (nodes : List TermNode) (named : AreNamedBelow (frame_of_cells c) (heads_of_question c.question.now) 0 nodes) (ws : List ℕ) where
      regs : (q n : ℕ) → NamesRegister (frame_of_cells c) (heads_of_question c.question.now) q n →
          (both_reading first others).regs q n ≡ (part_reading (frame_of_cells c) (shown_reading (is_of_heads c.question.now) second r)).regs q n
      regs zero n h = ap (λ (z : Reading). (reading_of z).regs 0 n) (part_first first others) ∙ entry_register n h
      regs (suc zero) n h =
          ap (λ (z : Reading). (reading_of z).regs 0 n) (part_at first others 0 second are.first) ∙ head_register (is_of_heads c.question.now) refl n h
      regs (suc (suc i)) n (named', (g, there, inside)) = gift_register_same i g there n named' inside

      flags : (q n : ℕ) → NamesFlag (frame_of_cells c) (heads_of_question c.question.now) q n →
          (both_reading first others).flags q n ≡ (part_reading (frame_of_cells c) (shown_reading (is_of_heads c.question.now) second r)).flags q n
      flags zero n h = ap (λ (z : Reading). (reading_of z).flags 0 n) (part_first first others) ∙ entry_flag n h
      flags (suc zero) n h =
          ap (λ (z : Reading). (reading_of z).flags 0 n) (part_at first others 0 second are.first) ∙ head_flag (is_of_heads c.question.now) refl n h
      flags (suc (suc i)) n (named', (g, there, inside)) = gift_flag_same i g there n named' inside

      memories : (q : ℕ) → NamesMemory (frame_of_cells c) (heads_of_question c.question.now) q →
          (both_reading first others).mem q ≡ (part_reading (frame_of_cells c) (shown_reading (is_of_heads c.question.now) second r)).mem q
      memories zero h = ap (λ (z : Reading). (λ (a : ℕ). (reading_of z).mem 0 a)) (part_first first others) ∙ entry_memory
      memories (suc zero) h =
          ap (λ (z : Reading). (λ (a : ℕ). (reading_of z).mem 0 a)) (part_at first others 0 second are.first) ∙ head_memory (is_of_heads c.question.now) refl
      memories (suc (suc i)) (g, w, there, inside) = gift_memory_same i g there

      pub met_words_are : AreWords (both_reading first others) nodes ws →
          AreWords (part_reading (frame_of_cells c) (shown_reading (is_of_heads c.question.now) second r)) nodes ws
      met_words_are words = record {
        count = words.count;
        each = λ place l. words.each place l
            ∙ frame_terms_agree (frame_of_cells c) (heads_of_question c.question.now) 0 nodes named (both_reading first others)
            (part_reading (frame_of_cells c) (shown_reading (is_of_heads c.question.now) second r))
            (record {
              regs = regs;
              flags = flags;
              choice = choice_same;
              base = λ q j h m. absurd (omega arith);
            }) memories place l;
      }

  -- readings with the same values have the same choices
  module _ (x y : TermReading) (hx : HasValues (frame_of_cells c) (heads_of_question c.question.now) (frame_cells_of c) (valuation values) x)
      (hy : HasValues (frame_of_cells c) (heads_of_question c.question.now) (frame_cells_of c) (valuation values) y) where
    at_values : (z : TermReading) → HasValues (frame_of_cells c) (heads_of_question c.question.now) (frame_cells_of c) (valuation values) z →
        IsReadingAt p (valuation values) z
    at_values z hz = at_of_bits (frame_of_cells c) (heads_of_question c.question.now) (frame_cells_of c) p is (valuation values) z hz.in_range hz.bits

    place_same : (i : ℕ) → i < length (frame_of_cells c).points → place_choice (frame_of_cells c) x i ≡ place_choice (frame_of_cells c) y i
    place_same i l = by (point_at (frame_of_cells c) i).draws refl
      where
        by : (b : Bool) → (point_at (frame_of_cells c) i).draws ≡ b → (if b then x.choice i else 0) ≡ (if b then y.choice i else 0)
        by true e =
            let k = drawn_there (frame_of_cells c) (heads_of_question c.question.now) (frame_cells_of c) p is i (l, e) in
            (at_values x hx).choices i k.0 k.1 ∙ sym ((at_values y hy).choices i k.0 k.1)
        by false e = refl

    pub of_other : (r : questions.Reading) →
        IsReadingOfParts (frame_of_cells c) (is_of_heads c.question.now) (layout_of c.question.now.passive.now.unrolled.now.form) x (written_parts parts) r →
        IsReadingOfParts (frame_of_cells c) (is_of_heads c.question.now) (layout_of c.question.now.passive.now.unrolled.now.form) y (written_parts parts) r
    of_other r isr =
        record { reading = isr.reading; state = isr.state; at_head = isr.at_head; at_gift = isr.at_gift; choice = λ i l. isr.choice i l ∙ place_same i l }
