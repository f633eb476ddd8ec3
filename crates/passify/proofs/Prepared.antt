-- Before any segment has begun.
use Rattle.std.proofs.Common.{◌≡◌, ℕ, zero, suc, ◌+◌, ◌*◌, ◌<◌, ◌≤◌, Bool, true, false, List, [], Option, Some, None, length, refl, ap, sym, ◌∙◌, subst, arith}
use Rattle.std.specs.Prelude.{slice_get, replicate, sum_by}
use Rattle.std.proofs.lemmas.List.Sums.{sum_by-append}
use Rattle.bilv_spec.specs.Points.{line_price, bytes_loaded}
use Rattle.walk_spec.specs.Prices.{line_size, line_steps}
use Rattle.std.specs.Global.{Vec}
use Rattle.std.proofs.lemmas.Bool.{true≢false}
use Rattle.std.proofs.lemmas.List.{get_or-replicate, length-map, length-replicate}
use Rattle.word_spec.specs.RowFiles.{from_to}
use Rattle.term_spec.specs.Terms.{TermNode, ConstantNode, HasWidth}
use Rattle.term_spec.specs.Passive.{Tells}
use Rattle.frame_spec.specs.FrameQuestions.{Reading}
use Rattle.frame_spec.specs.FrameWalk.{Held, Root, UnrolledProgram, held}
use Rattle.frame_laws.specs.FramePrices.{own_lines, root_lines, variables_of}
use Rattle.frame_terms.specs.PassiveFrames.{AreNamedBelow, IsWalkable, inputs_of, part_reading}
use Rattle.frame_terms.proofs.FrameReadings.{part_range}
use Rattle.term_dag.specs.declared.nodes.Term.{Term}
use Rattle.term_dag.specs.Made.{Grew, IsInterned}
use Rattle.term_dag.proofs.Growth.{grew_more, grew_on, grew_width, inputs_more, interned_grew, interned_inputs, interned_width}
use Rattle.term_names.specs.declared.names.Names.{Names}
use Rattle.term_names.specs.Chosen.{AreEntryNames, ArePartNames, IsOfPart, at_entry, at_part}
use Rattle.term_names.specs.Views.{AreFor}
use Rattle.note_terms.proofs.Valued.{range_length}
use Rattle.start_value.specs.Starts.{layout_of}
use Rattle.question_form.specs.declared.unrolled.Unrolled.{Unrolled}
use Rattle.question_form.specs.FrameViews.{frame_unrolled_of, root_of}
use Rattle.passify.specs.declared.sweep.Sweep.{Sweep}
use Rattle.passify.specs.Bits.{Makes}
use Rattle.passify.specs.declared.spans.Span.{Span}
use Rattle.passify.specs.Planted.{AreHeadNames, AreOwnSpans, ArePlanted, LeaveRootRoom, begun}
use Rattle.passify.specs.Sweeps.{AreWell, term_at}
use Rattle.passify.specs.Swept.{AreSwept, ShowsAll}
use Rattle.passify.proofs.Inputs.{entry_named, head_named, named_on}
use Rattle.passify.proofs.Likes.{like_itself}
use Rattle.passify.proofs.Lines.{drop_all}
use Rattle.passify.proofs.Planted.{take_whole}
use Rattle.passify.proofs.Rooms.{room_first}
use Rattle.passify.proofs.Kept.{names_keep, denotes_keep, tells_keep, well_keeps, word_keeps}

none_there : {X : Type 0} → (n i : ℕ) (m : X) → slice_get (replicate n None) i ≡ Some (Some m) → ⊥
none_there zero i m e = cc
none_there (suc n) zero m e = cc
none_there (suc n) (suc i) m e = none_there n i m e

-- ranges of one beginning and one length
pub same_range : (first count low regs : ℕ) → low ≡ first → regs ≡ count → from_to first count ≡ from_to low regs
same_range first count low regs p q = ap (λ (n : ℕ). from_to n count) (sym p) ∙ ap (from_to low) (sym q)

-- the terms of part 1 are those of the head's state
pub head_made : (u : Unrolled) (old new : List TermNode) (entry n : Names) (low regs flags : ℕ) → entry.first ≡ low → length entry.registers.items ≡ regs →
    length entry.flags.items ≡ flags → length entry.registers.items ≡ length (layout_of u.form).registers →
    length entry.flags.items ≡ length (layout_of u.form).flags → ArePartNames old new 1 low regs flags n → u.heads ≡ true → AreHeadNames u old new entry n
head_made u old new entry n low regs flags p q s words bits k t =
    let size : length (frame_unrolled_of u).registers ≡ length (layout_of u.form).registers =
    range_length (layout_of u.form).first (length (layout_of u.form).registers) in
    record {
      grew = grew_more old new 0 0 0 0 (regs + flags + 1) 0 0 0 0 (variables_of (frame_unrolled_of u)) (omega arith) (omega arith) (omega arith) (omega arith)
          (omega (arith, size, q, s, words, bits)) k.grew;
      inputs = inputs_more old new (IsOfPart 1 low regs flags)
          (λ m. (u.heads ≡ true) × IsOfPart 1 entry.first (length entry.registers.items) (length entry.flags.items) m)
          (λ m i h. (
            t,
            subst (λ (z : ℕ). IsOfPart 1 entry.first z (length entry.flags.items) m) (sym q)
                (subst (λ (z : ℕ). IsOfPart 1 entry.first regs z m) (sym s) (subst (λ (z : ℕ). IsOfPart 1 z regs flags m) (sym p) h)),
          )) k.inputs;
      same = record { first = p ∙ sym k.first; registers = q ∙ sym k.registers; flags = s ∙ sym k.flags };
      names = k.names;
      denotes = λ h x r. k.denotes x r;
    }

-- the terms at entry are for the frame's registers and flags
pub entry_form : (u : Unrolled) (ns : List TermNode) (low regs flags : ℕ) (entry : Names) → (frame_unrolled_of u).registers ≡ from_to low regs →
    (frame_unrolled_of u).flags ≡ flags → AreEntryNames [] ns low regs flags entry → AreFor (inputs_of (frame_unrolled_of u)) entry
entry_form u ns low regs flags entry pr pf start = record {
  registers = pr ∙ ap (λ (z : ℕ). from_to z regs) (sym start.first) ∙ ap (from_to entry.first) (sym start.registers);
  flags = pf ∙ sym start.flags;
}

-- an empty list has no node
nothing_named : (u : UnrolledProgram) (heads : Bool) → AreNamedBelow u heads 0 []
nothing_named u heads m c = let l = c.1 in absurd (omega arith)

module _ (u : Unrolled) (a h b c new last : List TermNode) (low regs flags : ℕ) (entry head : Names) (pc one never : Term) (met : Vec Term)
    (states : Vec (Option Names)) (own : Vec Span) (pr : (frame_unrolled_of u).registers ≡ from_to low regs) (pf : (frame_unrolled_of u).flags ≡ flags)
    (start : AreEntryNames [] a low regs flags entry) (heads : AreHeadNames u a h entry head) (at : IsInterned h b (ConstantNode 32 u.entry) pc.0)
    (one_bit : Makes b c 0 1 1 one.0 (λ x. Tells c x one.0 true)) (zero_bit : Makes c new 0 1 1 never.0 (λ x. Tells new x never.0 false))
    (mets : met.items ≡ replicate (length u.points.items) never) (carries : states.items ≡ replicate (length u.points.items) None)
    (owned : AreOwnSpans u new last entry pc.0 own.items) where
  abbrev f : UnrolledProgram
  f = frame_unrolled_of u

  abbrev kept : Sweep
  kept = record { entry = entry; at = u.entry; pc = pc; met = met; states = states; fails = never; steps = never; turns = never; own = own }

  pc_grew : Grew h b 0 0 0 0 1
  pc_grew = interned_grew h b (ConstantNode 32 u.entry) pc.0 at

  bits_grew : Grew b new 0 0 0 0 2
  bits_grew = grew_on b c new 0 0 0 0 1 0 0 0 0 1 one_bit.grew zero_bit.grew

  more_grew : Grew h new 0 0 0 0 3
  more_grew = grew_on h b new 0 0 0 0 1 0 0 0 0 2 pc_grew bits_grew

  names_grew : Grew a new 0 0 0 0 (variables_of f + 3)
  names_grew = grew_on a h new 0 0 0 0 (variables_of f) 0 0 0 0 3 heads.grew more_grew

  all_grew : Grew [] new 0 0 0 0 (regs + flags + 1 + (variables_of f + 3))
  all_grew = grew_on [] a new 0 0 0 0 (regs + flags + 1) 0 0 0 0 (variables_of f + 3) start.grew names_grew

  count : length met.items ≡ length u.points.items
  count = ap (λ (z : List Term). length z) mets ∙ length-replicate (length u.points.items) never

  states_count : length states.items ≡ length u.points.items
  states_count = ap (λ (z : List (Option Names)). length z) carries ∙ length-replicate (length u.points.items) None

  bit_is : (i : ℕ) → i < length met.items → term_at met.items i ≡ never.0
  bit_is i l =
      ap (λ (z : List Term). term_at z i) mets
      ∙ ap (λ (z : Term). z.0) (get_or-replicate (length u.points.items) i never (record { 0 = 0 }) (omega (arith, l, count)))

  kept_well : AreWell new kept
  kept_well = record {
    typed = zero_bit.typed;
    entry = names_keep names_grew entry start.names;
    denotes = λ x r. denotes_keep names_grew x entry (at_entry x) start.names (start.denotes x r);
    pc = grew_width b new 0 0 0 0 2 32 pc.0 bits_grew (interned_width h b (ConstantNode 32 u.entry) pc.0 32 at refl);
    pc_is = λ x. word_keeps bits_grew x pc.0 at.within ∙ ap (λ v. v.word) (at.value x);
    count = states_count ∙ sym count;
    bits = λ i l. subst (HasWidth new 1) (sym (bit_is i l)) zero_bit.width;
    states = λ i m e. absurd (none_there (length u.points.items) i m (sym (ap (λ (z : List (Option Names)). slice_get z i) carries) ∙ e));
    fails = zero_bit.width;
    steps = zero_bit.width;
    turns = zero_bit.width;
  }

  first : f.registers ≡ from_to entry.first (length entry.registers.items)
  first = pr ∙ ap (λ (z : ℕ). from_to z regs) (sym start.first) ∙ ap (from_to entry.first) (sym start.registers)

  count_flags : f.flags ≡ length entry.flags.items
  count_flags = pf ∙ sym start.flags

  last_grew : Grew h last (0 + sum_by line_price (own_lines f)) (0 + sum_by bytes_loaded (own_lines f)) (0 + 0) (0 + 0) (3 + 4 * line_steps (own_lines f))
  last_grew =
      grew_on h new last 0 0 0 0 3 (sum_by line_price (own_lines f)) (sum_by bytes_loaded (own_lines f)) 0 0 (4 * line_steps (own_lines f)) more_grew owned.grew

  pub prepared : ArePlanted u 0 last kept head one.0
  prepared = record {
    well = well_keeps owned.grew kept owned.typed kept_well;
    sweep = record { form = record { registers = first; flags = count_flags }; at = refl; places = count };
    own = record {
      each = owned.each;
      count = owned.count;
      written = λ x r. owned.written x r (at_entry x) u.entry (kept_well.denotes x r) (kept_well.pc_is x);
    };
    named =
        named_on f u.heads new last (λ m. ⊥) (λ m i k. absurd k) owned.inputs
        (named_on f u.heads c new (λ m. ⊥) (λ m i k. absurd k) zero_bit.inputs
        (named_on f u.heads b c (λ m. ⊥) (λ m i k. absurd k) one_bit.inputs
        (named_on f u.heads h b (λ m. ⊥) (λ m i k. absurd k) (interned_inputs h b (ConstantNode 32 u.entry) pc.0 (λ m. ⊥) at (λ i. i))
        (named_on f u.heads a h (λ m. (u.heads ≡ true) × IsOfPart 1 entry.first (length entry.registers.items) (length entry.flags.items) m)
        (head_named f u.heads entry.first (length entry.registers.items) (length entry.flags.items) first count_flags) heads.inputs
        (named_on f u.heads [] a (IsOfPart 0 low regs flags) (entry_named f u.heads low regs flags pr pf) start.inputs (nothing_named f u.heads))))));
    room = (
        let e : length f.registers ≡ regs = ap (λ (z : List ℕ). length z) pr ∙ range_length low regs in
        let g = all_grew.gates in let l = all_grew.loads in let s = all_grew.stores in let j = all_grew.joins in let n = all_grew.few in
        let og = owned.grew.gates in let ol = owned.grew.loads in let os = owned.grew.stores in let oj = owned.grew.joins in let on = owned.grew.few in
        let sg = sum_by-append line_price (own_lines f) (root_lines f) in
        let sl = sum_by-append bytes_loaded (own_lines f) (root_lines f) in
        let sn = sum_by-append (λ x. line_size x + 4) (own_lines f) (root_lines f) in
        record {
          gates = omega (arith, g, og, sg);
          loads = omega (arith, l, ol, sl);
          stores = omega (arith, s, os);
          joins = omega (arith, j, oj);
          few = omega (arith, n, e, pf, on, sn);
        });
    head_terms = record { same = heads.same; names = names_keep last_grew head heads.names };
    head_denotes = λ t x r. denotes_keep last_grew x head (at_part x 1) heads.names (heads.denotes t x r);
    bit = grew_width new last _ _ _ _ _ 1 one.0 owned.grew (grew_width c new 0 0 0 0 1 1 one.0 zero_bit.grew one_bit.width);
    is_yes = λ x r. tells_keep owned.grew x one.0 true (grew_width c new 0 0 0 0 1 1 one.0 zero_bit.grew one_bit.width).0
        (tells_keep zero_bit.grew x one.0 true one_bit.width.0 (one_bit.holds x r));
    shows = λ r reads begins.
        let x = part_reading f r in
        let range = part_range f r reads in
        let none = tells_keep owned.grew x never.0 false zero_bit.width.0 (zero_bit.holds x range) in
        record {
          shows = record {
            mets = λ i l. subst (λ (q : ℕ). Tells last x q false) (sym (bit_is i l)) none;
            carries = λ i w l m. absurd (true≢false (sym m));
            failing = none;
            turning = none;
          };
          stepping = none;
        };
  }

held_first : (f : UnrolledProgram) (r : Reading) → held f r 0 ≡ begun f r f.roots
unfolding held
held_first f r = refl

-- when all segments have begun
pub begun_all : (u : Unrolled) (n : ℕ) (nodes : List TermNode) (s : Sweep) (head : Names) (one : ℕ) → IsWalkable (frame_unrolled_of u) →
    length u.roots.items ≤ n → ArePlanted u n nodes s head one → AreSwept u 0 nodes s
begun_all u n nodes s head one walkable all k =
    let f = frame_unrolled_of u in
    let count = length-map u.roots.items (root_of u) in
    let some = walkable.begins.1.1 in
    record {
      well = k.well;
      sweep = k.sweep;
      own = k.own;
      named = k.named;
      room = room_first f nodes (omega (arith, some)) (subst (LeaveRootRoom f nodes) (drop_all f.roots n (omega (arith, all, count))) k.room);
      shows = λ r reads begins. (
        held f r 0,
        like_itself f (held f r 0),
        subst (λ (h : Held). ShowsAll nodes s 0 (part_reading f r) h) (sym (held_first f r))
            (subst (λ (rs : List Root). ShowsAll nodes s 0 (part_reading f r) (begun f r rs)) (take_whole f.roots n (omega (arith, all, count)))
            (k.shows r reads begins)),
      );
    }
