-- The exit at the last place, from the terms of what is carried there.
use Rattle.std.proofs.Common.{◌≡◌, ℕ, ◌+◌, ◌-◌, ◌*◌, ◌<◌, ◌≤◌, Bool, true, false, ◌&&◌, List, length, refl, ap, sym, subst, ◌∙◌, arith}
use Rattle.std.specs.Prelude.{map, sum_by, slice_index}
use Rattle.std.specs.List.{flat_map}
use Rattle.word_spec.specs.Words.{bit}
use Rattle.word_spec.specs.State.{State}
use Rattle.word_spec.specs.Memory.{endian}
use Rattle.word_spec.specs.RowFiles.{from_to}
use Rattle.bilv_spec.specs.Notes.{Expr}
use Rattle.bilv_spec.specs.Points.{line_price, bytes_loaded}
use Rattle.bilv_spec.specs.Questions.{Reading, IsReading}
use Rattle.term_spec.specs.Terms.{TermReading, InRange, TermNode, ConstantNode, term_value, term_word}
use Rattle.walk_spec.specs.Unrolled.{Carried, UnrolledProgram, state_at}
use Rattle.term_spec.specs.Passive.{AreNames, Denotes}
use Rattle.walk_spec.specs.Prices.{line_steps, variables_of}
use Rattle.term_spec.specs.WalkQuestions.{IsNamedBelow, term_reading}
use Rattle.term_dag.specs.Made.{Grew, IsInterned}
use Rattle.term_dag.proofs.Growth.{grew_on, grew_more, grew_width, interned_grew, interned_inputs, inputs_on, inputs_more}
use Rattle.term_names.specs.declared.names.Names.{Names}
use Rattle.term_names.specs.Views.{AreFor, form_of, names_of}
use Rattle.term_names.specs.Chosen.{AreEntryNames, IsOfForm, at_entry}
use Rattle.term_names.proofs.OfForm.{named_of, reading_in_range}
use Rattle.note_terms.specs.declared.Now.{Now}
use Rattle.note_terms.specs.Lines.{IsStateOf}
use Rattle.note_terms.proofs.Valued.{denotes_stays, range_at, range_length}
use Rattle.weakest_pre.specs.Entry.{all_hold, AreTrue}
use Rattle.weakest_pre.proofs.Told.{both_true}
use Rattle.passify.specs.Lasts.{CarriesTo}
use Rattle.pair_spec.specs.Links.{Link}
use Rattle.pair_spec.specs.Pairs.{same_bytes}
use Rattle.pair_spec.specs.PairTerms.{HaveWords, all_exit_words, exit_widths}
use Rattle.pair_terms.specs.Words.{AreWordTerms}
use Rattle.pair_terms.specs.Exits.{last_of, held_last, last_state, leaves_last, ensured_lines, IsExit, TellsMet}

-- terms for a program's registers and flags are for those of their own form
pub names_for : (w : UnrolledProgram) (n : Names) (nodes : List TermNode) → AreFor w n → AreNames w nodes (names_of n) → AreNames (form_of n) nodes (names_of n)
names_for w n nodes f h = record {
  registers = h.registers ∙ ap length f.registers;
  flags = h.flags ∙ f.flags;
  words = λ i k. h.words i (subst (λ (l : List ℕ). i < length l) (sym f.registers) k);
  bits = λ i k. h.bits i (subst (λ (z : ℕ). i < z) (sym f.flags) k);
  memory = h.memory;
}

denotes_for : (w : UnrolledProgram) (n : Names) (nodes : List TermNode) (x : TermReading) (c : Carried) → AreFor w n → Denotes w nodes x (names_of n) c →
    Denotes (form_of n) nodes x (names_of n) c
denotes_for w n nodes x c f d = record {
  registers = λ i k.
      d.registers i (subst (λ (l : List ℕ). i < length l) (sym f.registers) k) ∙ ap (λ (l : List ℕ). c.regs (slice_index l i)) f.registers;
  flags = λ i k. d.flags i (subst (λ (z : ℕ). i < z) (sym f.flags) k);
  memory = d.memory;
}

-- what terms denote
abbrev denoted : Names → List TermNode → TermReading → Carried
denoted n nodes x = record {
  regs = λ r. term_word x nodes (slice_index (names_of n).registers (r - n.first));
  flags = λ f. term_word x nodes (slice_index (names_of n).flags f);
  mem = (term_value x nodes n.memory.0).bytes;
}

denote_some : (n : Names) (nodes : List TermNode) (x : TermReading) → Denotes (form_of n) nodes x (names_of n) (denoted n nodes x)
denote_some n nodes x = record {
  registers = λ i k.
      let count = length n.registers.items in
      let long = range_length n.first count in
      let at = range_at n.first count i (omega (arith, k, long)) in
      let back : i ≡ slice_index (from_to n.first count) i - n.first = omega (arith, at) in
      ap (λ (z : ℕ). term_word x nodes (slice_index (names_of n).registers z)) back;
  flags = λ f k. refl;
  memory = refl;
}

module _ (w : UnrolledProgram) (second : Bool) (links : List Link) (count : ℕ) (a b c d e : List TermNode) (n : Names) (low regs flags : ℕ) (now old : Now)
    (reached met : ℕ) (big : Bool) (lines : List Expr) (words : List ℕ)
    (registers_are : w.registers ≡ from_to low regs) (flags_are : w.flags ≡ flags) (endian_is : endian big ≡ w.endian) (lines_are : lines ≡ ensured_lines w)
    (above : low ≤ w.link) (below : w.link < low + regs)
    (last : CarriesTo w (last_of w) a n) (tells : TellsMet w a reached) (entry : AreEntryNames a b low regs flags old.names.now)
    (pc : IsInterned b c (ConstantNode 32 w.entry) old.pc.0) (now_names : now.names.now ≡ n)
    (now_pc : now.pc.0 ≡ slice_index (names_of old.names.now).registers (w.link - low))
    (hold : AreTrue c d big now old reached lines met)
    (terms : AreWordTerms d e (form_of n) (names_of n) (flat_map exit_widths links) (all_exit_words second links) words (same_bytes links)
    (count + 3 * same_bytes links)) where
  abbrev m : Names
  m = old.names.now

  pc_grew : Grew b c 0 0 0 0 1
  pc_grew = interned_grew b c (ConstantNode 32 w.entry) old.pc.0 pc

  to_c : Grew a c 0 0 0 0 (regs + flags + 1 + 1)
  to_c = grew_on a b c 0 0 0 0 (regs + flags + 1) 0 0 0 0 1 entry.grew pc_grew

  to_d : Grew a d (0 + sum_by line_price lines) (0 + sum_by bytes_loaded lines) 0 0 (regs + flags + 1 + 1 + 4 * line_steps lines)
  to_d = grew_on a c d 0 0 0 0 (regs + flags + 1 + 1) _ _ _ _ _ to_c hold.grew

  own_names : AreNames (form_of n) a (names_of n)
  own_names = names_for w n a last.form last.names

  -- the state at entry
  entry_state : (x : TermReading) → InRange x → IsStateOf c x old (at_entry x) w.entry
  entry_state x r = record {
    carried = denotes_stays (form_of m) b c _ _ _ _ _ (names_of m) x (at_entry x) pc_grew entry.names (entry.denotes x r);
    pc = ap (λ v. v.word) (pc.value x);
  }

  link_word : (x : TermReading) → InRange x → term_word x c now.pc.0 ≡ x.regs 0 w.link
  link_word x r =
      let long = range_length m.first (length m.registers.items) in
      let many = entry.registers in
      let first = entry.first in
      let k : w.link - low < length (from_to m.first (length m.registers.items)) = omega (arith, long, many, above, below) in
      let at : slice_index (from_to m.first (length m.registers.items)) (w.link - low) ≡ w.link =
      range_at m.first (length m.registers.items) (w.link - low) (omega (arith, many, above, below)) ∙ omega (arith, first, above) in
      ap (term_word x c) now_pc ∙ ap (λ v. v.word) (pc_grew.keeps x _ (entry.names.words (w.link - low) k).0)
      ∙ (entry.denotes x r).registers (w.link - low) k ∙ ap (x.regs 0) at

  now_state : (x : TermReading) → InRange x → (s : Carried) → Denotes (form_of n) a x (names_of n) s → IsStateOf c x now s (x.regs 0 w.link)
  now_state x r s q = record {
    carried = subst (λ (z : Names). Denotes (form_of z) c x (names_of z) s) (sym now_names)
        (denotes_stays (form_of n) a c _ _ _ _ _ (names_of n) x s to_c own_names q);
    pc = link_word x r;
  }

  module _ (r : Reading) (k : IsReading r) (at : r.state.pc ≡ w.entry) where
    abbrev x : TermReading
    x = term_reading w r

    ok : InRange x
    ok = reading_in_range w r k

    abbrev at_last : Carried
    at_last = (held_last w r).carried (last_of w)

    entry_is : state_at (at_entry x) w.entry ≡ r.state
    entry_is = ap (λ (p : ℕ). state_at (at_entry x) p) (sym at)

    met_word : (q : Bool) → (held_last w r).met (last_of w) ≡ q →
        term_word x d met ≡ bit (q && all_hold w.endian (ensured_lines w) (last_state w r) r.state)
    met_word true is =
        hold.value x ok at_last (at_entry x) (x.regs 0 w.link) w.entry (now_state x ok at_last (denotes_for w n a x at_last last.form (last.denotes r k at is)))
        (entry_state x ok) true (ap (λ v. v.word) (to_c.keeps x reached tells.0.0) ∙ tells.1 r k at ∙ ap bit is)
        ∙ ap (λ (s : State). bit (true && all_hold (endian big) lines (last_state w r) s)) entry_is
        ∙ ap (λ z. bit (true && all_hold z lines (last_state w r) r.state)) endian_is
        ∙ ap (λ (z : List Expr). bit (true && all_hold w.endian z (last_state w r) r.state)) lines_are
    met_word false is =
        let s = denoted n a x in
        hold.value x ok s (at_entry x) (x.regs 0 w.link) w.entry (now_state x ok s (denote_some n a x)) (entry_state x ok) false
        (ap (λ v. v.word) (to_c.keeps x reached tells.0.0) ∙ tells.1 r k at ∙ ap bit is)

    met_tells : term_word x e met ≡ bit (leaves_last w r)
    met_tells =
        ap (λ v. v.word) (terms.grew.keeps x met hold.width.0) ∙ met_word ((held_last w r).met (last_of w)) refl

    words_tell : leaves_last w r ≡ true → HaveWords x e words (map (λ f. f (last_state w r)) (all_exit_words second links))
    words_tell h =
        let is = (both_true _ _ h).0 in
        terms.values x ok at_last (r.state.regs w.link)
        (denotes_stays (form_of n) a d _ _ _ _ _ (names_of n) x at_last to_d own_names (denotes_for w n a x at_last last.form (last.denotes r k at is)))

  pub exit_made : IsExit w second links a e (sum_by line_price (ensured_lines w)) (sum_by bytes_loaded (ensured_lines w) + same_bytes links)
      (4 * line_steps (ensured_lines w) + (variables_of w + 2 + count + 3 * same_bytes links)) met words
  exit_made =
      let prices = ap (sum_by line_price) lines_are in
      let loads = ap (sum_by bytes_loaded) lines_are in
      let steps = ap line_steps lines_are in
      let wide = ap length registers_are ∙ range_length low regs in
      record {
        grew = grew_more a e _ _ _ _ _ _ _ 0 0 _ (omega (arith, prices)) (omega (arith, loads)) (omega arith) (omega arith)
            (omega (arith, steps, wide, flags_are)) (grew_on a d e _ _ _ _ _ _ _ _ _ _ to_d terms.grew);
        inputs = inputs_on a b e (IsNamedBelow w 0)
            (inputs_more a b (IsOfForm low regs flags) (IsNamedBelow w 0) (λ z i h. named_of w low regs flags z registers_are flags_are i h) entry.inputs)
            (inputs_more b e (λ z. ⊥) (IsNamedBelow w 0) (λ z i h. absurd h)
            (inputs_on b c e _ (interned_inputs b c (ConstantNode 32 w.entry) old.pc.0 _ pc (λ i. i)) (inputs_on c d e _ hold.inputs terms.inputs)));
        typed = terms.typed;
        tells = record {
          bit_of = grew_width d e _ _ _ _ _ 1 met terms.grew hold.width;
          tells = met_tells;
          widths = terms.widths;
          values = words_tell;
        };
      }
