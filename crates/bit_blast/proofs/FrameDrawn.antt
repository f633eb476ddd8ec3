-- The points of a value as those of its frame: which draw, and what is given there.
use Rattle.std.proofs.Common.{◌≡◌, refl, ap, sym, ◌∙◌, subst, arith, ℕ, zero, suc, ◌+◌, ◌*◌, ◌<◌, ◌≤◌, Bool, true, false, List, [], ◌∷◌, Option, Some, None, length, map, if◌then◌else◌}
use Rattle.std.specs.Prelude.{slice_get, slice_index_or}
use Rattle.std.specs.Global.{Vec}
use Rattle.std.proofs.lemmas.List.{length-map}
use Rattle.word_spec.specs.Words.{bit}
use Rattle.word_spec.specs.RowFiles.{from_to}
use Rattle.walk_spec.specs.Unrolled as tables
use Rattle.term_spec.specs.ClauseForm.{drawn_below}
use Rattle.walk_laws.proofs.InputOrder.{passed_below, passed_get, passed_is, passed_length}
use Rattle.frame_spec.specs.FrameWalk.{no_point, point_at}
use Rattle.frame_terms.specs.FrameClauseForm.{drawn_places}
use Rattle.start_value.specs.Starts.{layout_of}
use Rattle.question_form.specs.declared.unrolled.Point.{Point}
use Rattle.question_form.specs.declared.unrolled.Unrolled.{Unrolled}
use Rattle.question_form.specs.FrameQuestions.{heads_of_question}
use Rattle.question_form.specs.FrameViews.{frame_unrolled_of, points_of}
use Rattle.question_form.specs.Views as views
use Rattle.question_form.specs.Views.{unrolled_of}
use Rattle.mem_cells.specs.declared.cells.Celled.{Celled}
use Rattle.mem_cells.specs.FrameViews.{frame_cells_of, frame_of_cells, read_of}
use Rattle.mem_cells.specs.Views.{cells_of, program_of_cells}
use Rattle.bit_blast.specs.declared.input_places.InputPlaces.{InputPlaces}
use Rattle.bit_blast.specs.declared.input_places.PartRead.{PartRead}
use Rattle.bit_blast.specs.Laid.{AreDrawn, AreFramePlaces, AreGifts, ArePlaces, AreReads, IsFlat}
use Rattle.bit_blast.specs.Places.{AreInOrder, lists_of, reads_of}
use Rattle.bit_blast.proofs.Flat.{entry_of, entry_only, reads_count}
use Rattle.bit_blast.proofs.GivenInputs.{no_flag, no_register, nothing_behind}

module _ (v : Unrolled) where
  draws_same : (qs : List Point) (i : ℕ) →
      (slice_index_or (points_of v qs) i no_point).draws ≡ (slice_index_or (views.points_of v qs) i tables.no_point).draws
  draws_same [] i = refl
  draws_same (q ∷ qs) zero = refl
  draws_same (q ∷ qs) (suc i) = draws_same qs i

  count_same : (qs : List Point) → length (points_of v qs) ≡ length (views.points_of v qs)
  count_same [] = refl
  count_same (q ∷ qs) = ap suc (count_same qs)

  abbrev draws : ℕ → Bool
  draws i = (point_at (frame_unrolled_of v) i).draws

  below_is : (i : ℕ) → passed_below draws i ≡ drawn_below (unrolled_of v) i
  unfolding passed_below
  below_is zero = refl
  below_is (suc i) =
      ap (λ z. z + bit (draws i)) (below_is i) ∙ ap (λ z. drawn_below (unrolled_of v) i + bit z) (draws_same v.points.items i)

  within : (xs : List (Option ℕ)) (i k : ℕ) → slice_index_or xs i None ≡ Some k → i < length xs
  within [] i k e = absurd (cc)
  within (x ∷ xs) zero k e = omega arith
  within (x ∷ xs) (suc i) k e = let l = within xs i k e in omega arith

  module _ (drawn : List (Option ℕ)) (total : ℕ) (are : AreDrawn (unrolled_of v) (length (unrolled_of v).points) drawn total) where
    number_by : (i k : ℕ) (b : Bool) → draws i ≡ b → i < length (frame_unrolled_of v).points →
        (if b then Some (drawn_below (unrolled_of v) i) else None) ≡ Some k → slice_get (drawn_places (frame_unrolled_of v)) k ≡ Some i
    number_by i k true d l e =
        let same : drawn_below (unrolled_of v) i ≡ k = cc in
        ap (slice_get (drawn_places (frame_unrolled_of v))) (sym same ∙ sym (below_is i)) ∙ passed_get draws (length (frame_unrolled_of v).points) i l d
    number_by i k false d l e = absurd (cc)

    pub drawn_right : (i k : ℕ) → slice_index_or drawn i None ≡ Some k → slice_get (drawn_places (frame_unrolled_of v)) k ≡ Some i
    drawn_right i k e =
        let l = within drawn i k e in
        let n = are.places in
        let m = count_same v.points.items in
        number_by i k (draws i) refl (omega arith)
        (ap (λ z. if z then Some (drawn_below (unrolled_of v) i) else None) (draws_same v.points.items i) ∙ sym (are.each i (omega arith)) ∙ e)

    pub drawn_each : (i k : ℕ) → slice_get (drawn_places (frame_unrolled_of v)) k ≡ Some i → slice_index_or drawn i None ≡ Some k
    drawn_each i k e =
        let q = passed_is draws (length (frame_unrolled_of v).points) k i e in
        let l = q.0 in
        let m = count_same v.points.items in
        are.each i (omega arith)
        ∙ ap (λ z. if z then Some (drawn_below (unrolled_of v) i) else None) (sym (draws_same v.points.items i) ∙ q.1)
        ∙ ap Some (sym (below_is i) ∙ sym q.2)

    pub drawn_count : total ≡ length (drawn_places (frame_unrolled_of v))
    drawn_count =
        are.all ∙ sym (ap (drawn_below (unrolled_of v)) (count_same v.points.items)) ∙ sym (below_is (length (frame_unrolled_of v).points))
        ∙ sym (passed_length draws (length (frame_unrolled_of v).points))

-- where the inputs of a value's cells stand
pub record IsLaid (c : Celled) (p : InputPlaces) : Type 0 where
  pub order : AreInOrder p
  pub heads : p.heads ≡ heads_of_question c.question.now
  pub registers : (program_of_cells c).registers ≡ from_to p.first_register p.registers
  pub flags : (program_of_cells c).flags ≡ p.flags
  pub drawn : AreDrawn (program_of_cells c) (length (program_of_cells c).points) p.drawn.items p.choices
  pub gifts : AreGifts (frame_of_cells c) p.first_gift (length (frame_of_cells c).points) (lists_of p.gift_registers.items) (lists_of p.gift_flags.items)
      p.first_byte
  pub reads : p.reads ≡ length c.reads.items
  pub reads_at : AreReads (length c.addresses.items) (map read_of c.reads.items) (lists_of p.part_reads.items)

module _ (c : Celled) where
  abbrev v : Unrolled
  v = c.question.now.passive.now.unrolled.now

  pub laid : (first registers flags choices reads behind last n : ℕ) (drawn : Vec (Option ℕ)) (gift_registers gift_flags : Vec (Vec (Option ℕ)))
      (part_reads : Vec (Vec PartRead)) → first ≡ (layout_of v.form).first →
      registers ≡ length (layout_of v.form).registers → flags ≡ length (layout_of v.form).flags →
      behind ≡ 32 * registers + flags + (if v.heads then 32 * registers + flags else 0) →
      AreDrawn (program_of_cells c) (length (program_of_cells c).points) drawn.items choices →
      AreGifts (frame_of_cells c) (behind + 2 * choices) (length (frame_of_cells c).points) (lists_of gift_registers.items) (lists_of gift_flags.items) last →
      behind + 2 * choices ≤ last → reads ≡ length c.reads.items → n ≡ length c.addresses.items →
      AreReads n (map read_of c.reads.items) (lists_of part_reads.items) →
      IsLaid c (record {
        first_register = first;
        registers = registers;
        flags = flags;
        heads = v.heads;
        drawn = drawn;
        choices = choices;
        gift_registers = gift_registers;
        gift_flags = gift_flags;
        part_reads = part_reads;
        reads = reads;
        first_flag = 32 * registers;
        first_head = 32 * registers + flags;
        first_choice = behind;
        first_gift = behind + 2 * choices;
        first_byte = last;
        inputs = last + 8 * reads;
      })
  laid first registers flags choices reads behind last n drawn gift_registers gift_flags part_reads a b d e f g l h i j = record {
    order = record { flag = refl; head = refl; choice = e; gift = refl; byte = l; all = refl };
    heads = refl;
    registers = ap (λ z. from_to z (length (layout_of v.form).registers)) (sym a) ∙ ap (from_to first) (sym b);
    flags = sym d;
    drawn = f;
    gifts = g;
    reads = h;
    reads_at = subst (λ (z : ℕ). AreReads z (map read_of c.reads.items) (lists_of part_reads.items)) i j;
  }

  long : length (frame_cells_of c).addresses ≡ length c.addresses.items
  long = length-map c.addresses.items (λ t. t.0)

  -- they stand so for its frame
  pub frame_laid : (p : InputPlaces) → IsLaid c p → AreFramePlaces (frame_of_cells c) (heads_of_question c.question.now) (frame_cells_of c) p
  frame_laid p is = record {
    order = is.order;
    head_is = is.heads;
    registers = is.registers;
    flags = is.flags;
    drawn = drawn_right v p.drawn.items p.choices is.drawn;
    drawn_each = drawn_each v p.drawn.items p.choices is.drawn;
    choices = drawn_count v p.drawn.items p.choices is.drawn;
    gifts = is.gifts;
    reads = is.reads ∙ sym (length-map c.reads.items read_of);
    reads_at = subst (λ (n : ℕ). AreReads n (map read_of c.reads.items) (lists_of p.part_reads.items)) (sym long) is.reads_at;
  }

  -- and for its program, where it is one
  pub flat_laid : (p : InputPlaces) → IsLaid c p → IsFlat c → ArePlaces (program_of_cells c) (cells_of c) p
  flat_laid p is flat =
      let n = length c.addresses.items in
      let rs = map read_of c.reads.items in
      record {
        order = is.order;
        heads = is.heads ∙ flat.heads;
        registers = is.registers;
        flags = is.flags;
        drawn = is.drawn;
        no_register = no_register v flat.deeds p.first_gift (length (frame_of_cells c).points) (lists_of p.gift_registers.items)
            (lists_of p.gift_flags.items) p.first_byte is.gifts;
        no_flag = no_flag v flat.deeds p.first_gift (length (frame_of_cells c).points) (lists_of p.gift_registers.items) (lists_of p.gift_flags.items)
            p.first_byte is.gifts;
        given = nothing_behind v flat.deeds p.first_gift (length (frame_of_cells c).points) (lists_of p.gift_registers.items)
            (lists_of p.gift_flags.items) p.first_byte is.gifts;
        reads = is.reads ∙ sym (length-map c.reads.items read_of) ∙ reads_count n rs flat.reads ∙ sym long;
        entry = λ j l. entry_of n rs flat.reads (reads_of p 0) (is.reads_at 0) j (omega (arith, long, l));
        entry_only = λ part j k e.
            (let q = entry_only n rs flat.reads (reads_of p part) part (is.reads_at part) j k e in
            (q.0, q.1, (let l = q.2 in let m = long in omega arith)));
      }
