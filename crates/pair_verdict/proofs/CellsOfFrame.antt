-- What values mean for cells of a program, as what they mean for those of its frame.
use Rattle.std.proofs.Common.{◌≡◌, refl, ap, sym, ◌∙◌, subst, ℕ, List, Some, Bool, false, length}
use Rattle.std.specs.Prelude.{◌&&◌, ◌↔◌, Contains}
use Rattle.clause_spec.specs.Clauses.{valuation}
use Rattle.term_spec.specs.Cells as cells
use Rattle.term_spec.specs.ClauseForm as programs
use Rattle.term_spec.specs.ClauseForm.{IsStartOf, reading}
use Rattle.term_spec.specs.Terms.{TermReading}
use Rattle.walk_spec.specs.Unrolled as tables
use Rattle.frame_spec.specs.FramePoints.{Anchor}
use Rattle.frame_spec.specs.FrameQuestions.{asks_head}
use Rattle.frame_spec.specs.FrameWalk.{UnrolledProgram, root_at}
use Rattle.frame_laws.specs.HeadlessLaws.{as_unrolled, entry_root}
use Rattle.frame_terms.specs.FrameCells.{AreFormed, BaseRead, Cells, read_address}
use Rattle.frame_terms.specs.FrameStarts.{AreChoices, AreParts, HasValues, IsBroken, IsWrittenAnchor, WrittenParts, part_byte}
use Rattle.frame_terms.specs.HeadlessTerms.{as_cells, as_read}
use Rattle.start_value.specs.Starts.{layout_of}
use Rattle.question_form.specs.FrameQuestions.{frame_question_of, heads_of_question, is_of_heads}
use Rattle.question_form.specs.FrameViews.{anchor_at}
use Rattle.question_form.specs.declared.unrolled.Unrolled.{Unrolled}
use Rattle.question_form.proofs.FrameValues.{headless_values}
use Rattle.mem_cells.specs.FrameViews.{frame_cells_of, frame_of_cells}
use Rattle.mem_cells.specs.Views.{cells_of, program_of_cells}
use Rattle.mem_cells.specs.declared.cells.Celled.{Celled}
use Rattle.frame_start.specs.Files as files
use Rattle.frame_start.specs.Segments.{AreSegmentsOf, choices_at, written_parts}
use Rattle.frame_start.specs.declared.meaning.Segments.{Segments}
use Rattle.frame_rounds.proofs.FrameRoots.{entry_anchor}
use Rattle.verdict.specs.Rounds.{IsDecidable, entry_shown}
use Rattle.pair_verdict.specs.PairRounds as pairs
use Rattle.pair_verdict.proofs.FormedFrames.{formed_as, one_as, read_in, read_of}
use Rattle.pair_verdict.proofs.ShownStart.{start_of}
use Rattle.pair_verdict.proofs.ValuedReading.{has_values}

module _ (k : Celled) (h : IsDecidable k.question.now.passive.now) (flat : frame_cells_of k ≡ as_cells (cells_of k)) where
  abbrev un : Unrolled
  un = k.question.now.passive.now.unrolled.now

  abbrev u : tables.UnrolledProgram
  u = program_of_cells k

  abbrev w : UnrolledProgram
  w = as_unrolled u

  abbrev c : cells.Cells
  c = cells_of k

  of_heads : is_of_heads k.question.now ≡ false
  of_heads = ap (λ b. b && asks_head (frame_question_of k.question.now)) h.askable.headless.heads

  -- what is said of the frame, of whether it has a head, of whether the question speaks of head states, and of the cells
  moved : (P : UnrolledProgram → Bool → Bool → Cells → Type 0) →
      P (frame_of_cells k) (heads_of_question k.question.now) (is_of_heads k.question.now) (frame_cells_of k) → P w false false (as_cells c)
  moved P is =
      subst (λ (z : UnrolledProgram). P z false false (as_cells c)) (headless_values un h.askable.headless)
      (subst (λ (z : Cells). P (frame_of_cells k) false false z) flat
      (subst (λ (b : Bool). P (frame_of_cells k) false b (frame_cells_of k)) of_heads
      (subst (λ (b : Bool). P (frame_of_cells k) b (is_of_heads k.question.now) (frame_cells_of k)) h.askable.headless.heads is)))

  back : (P : UnrolledProgram → Bool → Bool → Cells → Type 0) →
      P w false false (as_cells c) → P (frame_of_cells k) (heads_of_question k.question.now) (is_of_heads k.question.now) (frame_cells_of k)
  back P is =
      subst (λ (b : Bool). P (frame_of_cells k) b (is_of_heads k.question.now) (frame_cells_of k)) (sym h.askable.headless.heads)
      (subst (λ (b : Bool). P (frame_of_cells k) false b (frame_cells_of k)) (sym of_heads)
      (subst (λ (z : Cells). P (frame_of_cells k) false false z) (sym flat)
      (subst (λ (z : UnrolledProgram). P z false false (as_cells c)) (sym (headless_values un h.askable.headless)) is)))

  pub formed_frame : cells.AreFormed u c → AreFormed (frame_of_cells k) (heads_of_question k.question.now) (frame_cells_of k)
  formed_frame formed = back (λ f heads of_head z. AreFormed f heads z) (formed_as c u formed)

  module _ (values : List Bool) where
    abbrev x : TermReading
    x = reading u c (valuation values)

    valued : HasValues w false (as_cells c) (valuation values) x
    valued = has_values u (layout_of un.form).first (length (layout_of un.form).registers) refl c (valuation values)

    pub one_frame : pairs.AreOne c x → files.ForSomeValues k values (files.AreOne (is_of_heads k.question.now) (frame_cells_of k))
    one_frame one =
        back (λ f heads of_head z. (y : TermReading) × HasValues f heads z (valuation values) y × files.AreOne of_head z y) (x, valued, one_as c x one)

    -- ---- the known bytes that values have not

    abbrev Reads : (a n : ℕ) → BaseRead → Type 0
    Reads a n b = (read_address (as_cells c) x b.address ≡ a) × (part_byte w b.part a ≡ Some n) × ¬ (x.base b.part b.address ≡ n)

    from_broken : (a : ℕ) → IsBroken w false (as_cells c) x a → programs.IsBroken u c x a
    from_broken a (b, n, inside, written, at, e, other) =
        let r = read_of c b inside in
        let is : Reads a n (as_read r.0) = subst (λ (z : BaseRead). Reads a n z) r.2 (at, e, other) in
        (r.0, n, r.1, is.0, is.1, is.2)

    to_broken : (a : ℕ) → programs.IsBroken u c x a → IsBroken w false (as_cells c) x a
    to_broken a (j, n, l, at, e, other) = (as_read j, n, read_in c j l, tt, at, e, other)

    pub broken_bytes : (list : List ℕ) → files.AreBroken k values list → (a : ℕ) → Contains list a ↔ programs.IsBroken u c x a
    broken_bytes list is a =
        let by = moved (λ f heads of_head z. (y : TermReading) → HasValues f heads z (valuation values) y → Contains list a ↔ IsBroken f of_head z y a)
        (λ y has. is.broken y has a) x valued in
        ((λ has. from_broken a (by.0 has)), (λ broken. by.1 (to_broken a broken)))

    -- ---- the start

    module _ (s : Segments) (is : AreSegmentsOf k values s) where
      at_entry : IsWrittenAnchor (is_of_heads k.question.now) (anchor_at un 0)
      at_entry = subst (λ (z : Anchor). IsWrittenAnchor (is_of_heads k.question.now) z) (sym (entry_anchor un h.frame.first)) tt

      abbrev p : WrittenParts
      p = written_parts s.parts

      abbrev cs : List (ℕ × ℕ)
      cs = choices_at s.choices.items 0

      parts : AreParts w false (as_cells c) x p
      parts = moved (λ f heads of_head z. (y : TermReading) → HasValues f heads z (valuation values) y → AreParts f of_head z y p) is.parts x valued

      choices : AreChoices w false (layout_of un.form) x p entry_root cs
      choices =
          moved (λ f heads of_head z. (y : TermReading) → HasValues f heads z (valuation values) y →
          AreChoices f of_head (layout_of un.form) y p (root_at f 0) cs)
          (is.choices.each 0 h.frame.first.0 at_entry) x valued

      pub shown_start : cells.AreFormed u c → IsStartOf u c (valuation values) (entry_shown s)
      shown_start formed =
          start_of u c (valuation values) (layout_of un.form) (record { registers = refl; flags = refl }) formed h.askable.walkable.some
          h.askable.walkable.later h.askable.walkable.entry h.askable.bytes p parts cs choices

      -- there is one root
      pub one_segment : length s.choices.items ≡ 1
      one_segment = is.choices.count ∙ ap length h.askable.headless.roots
