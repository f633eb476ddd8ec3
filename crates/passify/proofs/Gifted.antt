-- The state behind a contract step.
use Rattle.std.proofs.Common.{◌≡◌, ℕ, ◌+◌, ◌*◌, ◌<◌, ◌≤◌, Bool, true, false, nat_eq, List, length, map, Contains, ap, sym, ◌∙◌, subst, arith}
use Rattle.std.specs.Prelude.{if◌then◌else◌, slice_index}
use Rattle.std.specs.List.{list_any}
use Rattle.std.proofs.Math.Path.{fun_ext}
use Rattle.std.proofs.lemmas.List.{length-map}
use Rattle.term_spec.specs.Terms.{TermReading, TermNode, HasWidth, term_word, term_value}
use Rattle.term_spec.specs.Passive.{AreNames, Denotes}
use Rattle.walk_spec.specs.Unrolled.{Carried}
use Rattle.notes_value.specs.FrameViews.{contract_of}
use Rattle.notes_value.specs.declared.notes.Contract.{Contract}
use Rattle.term_dag.specs.declared.nodes.Term.{Term}
use Rattle.term_dag.proofs.Growth.{grew_on, grew_more, grew_width, inputs_on, inputs_more}
use Rattle.term_names.specs.declared.names.Names.{Names}
use Rattle.term_names.specs.Choices.{AreWide, places}
use Rattle.term_names.specs.Chosen.{HaveSameForm}
use Rattle.term_names.specs.Gifts.{AreGiftNames, IsGiftNumber, given_node, is_in}
use Rattle.term_names.specs.Views.{form_of, names_of}
use Rattle.note_terms.proofs.Valued.{range_at, range_length}
use Rattle.passify.specs.declared.spans.Span.{Span}
use Rattle.passify.specs.Calls.{IsGiftNode, IsGiftState, OfFlag, OfRegister, OfTake, left_behind}
use Rattle.passify.specs.Spans.{IsSpan, IsTaken, addresses_of, bytes_of}
use Rattle.passify.proofs.Kept.{word_keeps}
use Rattle.passify.proofs.Outside.{own_keep}
use Rattle.passify.proofs.Ranges.{in_range, listed}

-- the terms of a state are words and bits
pub wide_words : (ns : List TermNode) (n : Names) → AreNames (form_of n) ns (names_of n) → AreWide ns 32 (places n.registers.items)
wide_words ns n h i l =
    h.words i (let m = length-map n.registers.items (λ (z : Term). z.0) in let r = range_length n.first (length n.registers.items) in omega (arith, m, r, l))

pub wide_bits : (ns : List TermNode) (n : Names) → AreNames (form_of n) ns (names_of n) → AreWide ns 1 (places n.flags.items)
wide_bits ns n h i l = h.bits i (let m = length-map n.flags.items (λ (z : Term). z.0) in omega (arith, m, l))

module _ (old mid new : List TermNode) (part : ℕ) (k : Contract) (spans : List Span) (before m n : Names) (t : Term)
    (few : before.first + length before.registers.items ≤ 32) (flags : length before.flags.items ≤ 4) (names : AreNames (form_of before) old (names_of before))
    (are : (s : Span) → Contains spans s → IsSpan old s) (g : AreGiftNames old mid part k.registers k.flags before m)
    (tk : IsTaken mid new spans part before.memory.0 t.0) (first : n.first ≡ m.first) (rs : n.registers ≡ m.registers) (fs : n.flags ≡ m.flags)
    (mem : n.memory ≡ t) where
  form : HaveSameForm before n
  form = record {
    first = g.form.first ∙ sym first;
    registers = g.form.registers ∙ sym (ap (λ z. length z.items) rs);
    flags = g.form.flags ∙ sym (ap (λ z. length z.items) fs);
  }

  number_named : (q : TermNode) (f : Bool) (i : ℕ) → q ≡ given_node f part i → IsGiftNumber before k.registers k.flags f i →
      IsGiftNode part (contract_of k) before spans q
  number_named q true i e h = OfFlag i e h.0 (listed (is_in k.flags) i 4 (let l = h.0 in omega (arith, l, flags)) ∙ h.1)
  number_named q false i e h =
      OfRegister i e (in_range (length before.registers.items) i before.first h.0 h.1)
      (listed (is_in k.registers) i 32 (let l = h.1 in omega (arith, l, few)) ∙ h.2)

  word_at : (x : TermReading) (c : Carried) → Denotes (form_of before) old x (names_of before) c → (i : ℕ) → i < length before.registers.items →
      term_word x new (slice_index (names_of n).registers i) ≡ (left_behind x part (contract_of k) (addresses_of old x spans) c).regs (before.first + i)
  word_at x c d i l =
      let r = before.first + i in
      let wide = g.words i (let q = length-map m.registers.items (λ (z : Term). z.0) in let f = g.form.registers in omega (arith, q, f, l)) in
      let there : i < length (form_of before).registers = (let q = range_length before.first (length before.registers.items) in omega (arith, q, l)) in
      ap (λ z. term_word x new (slice_index (map (λ (q : Term). q.0) z.items) i)) rs
      ∙ word_keeps tk.grew x (slice_index (names_of m).registers i) wide.0 ∙ g.word_value x i l
      ∙ ap (λ z. if is_in k.registers r then x.regs part r else z) (d.registers i there ∙ ap c.regs (range_at before.first (length before.registers.items) i l))
      ∙ ap (λ z. if z then x.regs part r else c.regs r) (sym (listed (is_in k.registers) r 32 (omega (arith, l, few))))

  bit_at : (x : TermReading) (c : Carried) → Denotes (form_of before) old x (names_of before) c → (i : ℕ) → i < length before.flags.items →
      term_word x new (slice_index (names_of n).flags i) ≡ (left_behind x part (contract_of k) (addresses_of old x spans) c).flags i
  bit_at x c d i l =
      let wide = g.bits i (let q = length-map m.flags.items (λ (z : Term). z.0) in let f = g.form.flags in omega (arith, q, f, l)) in
      ap (λ z. term_word x new (slice_index (map (λ (q : Term). q.0) z.items) i)) fs
      ∙ word_keeps tk.grew x (slice_index (names_of m).flags i) wide.0 ∙ g.bit_value x i l
      ∙ ap (λ z. if is_in k.flags i then x.flags part i else z) (d.flags i l)
      ∙ ap (λ z. if z then x.flags part i else c.flags i) (sym (listed (is_in k.flags) i 4 (omega (arith, l, flags))))

  pub gift_state : IsGiftState old new part (contract_of k) spans before n
  gift_state = record {
    form = form;
    grew = grew_more old new (0 + 0) (0 + 0) (0 + bytes_of spans) (0 + 0) (length before.registers.items + length before.flags.items + 2 * length spans) 0 0
        (bytes_of spans) 0 (length before.registers.items + length before.flags.items + 2 * length spans) (omega arith) (omega arith) (omega arith) (omega arith)
        (omega arith) (grew_on old mid new 0 0 0 0 (length before.registers.items + length before.flags.items) 0 0 (bytes_of spans) 0 (2 * length spans) g.grew tk.grew);
    inputs = inputs_on old mid new (IsGiftNode part (contract_of k) before spans)
        (inputs_more old mid _ (IsGiftNode part (contract_of k) before spans) (λ q i h. number_named q h.0 h.1 h.2 h.3) g.inputs)
        (inputs_more mid new _ (IsGiftNode part (contract_of k) before spans) (λ q i h. OfTake h.1.0 h.1.1 h.1.2 h.1.3 h.0) tk.inputs);
    typed = tk.typed;
    names = record {
      registers = length-map n.registers.items (λ z. z.0) ∙ sym (range_length n.first (length n.registers.items));
      flags = length-map n.flags.items (λ z. z.0);
      words = λ i l. subst (λ z. HasWidth new 32 (slice_index (map (λ (q : Term). q.0) z.items) i)) (sym rs)
          (grew_width mid new _ _ _ _ _ 32 (slice_index (names_of m).registers i) tk.grew
          (g.words i (let q = length-map m.registers.items (λ (z : Term). z.0) in let e = range_length n.first (length n.registers.items) in
          let f = ap (λ z. length z.items) rs in omega (arith, q, e, f, l))));
      bits = λ i l. subst (λ z. HasWidth new 1 (slice_index (map (λ (q : Term). q.0) z.items) i)) (sym fs)
          (grew_width mid new _ _ _ _ _ 1 (slice_index (names_of m).flags i) tk.grew
          (g.bits i (let q = length-map m.flags.items (λ (z : Term). z.0) in let f = ap (λ z. length z.items) fs in omega (arith, q, f, l))));
      memory = subst (λ (z : Term). HasWidth new 0 z.0) (sym mem) tk.memory;
    };
    denotes = λ x r c d. record {
      registers = λ i l.
          let e = range_length n.first (length n.registers.items) in
          let h = form.registers in
          word_at x c d i (omega (arith, e, h, l))
          ∙ ap (λ (z : ℕ). (left_behind x part (contract_of k) (addresses_of old x spans) c).regs z) (ap (λ z. z + i) form.first
          ∙ sym (range_at n.first (length n.registers.items) i (omega (arith, e, l))));
      flags = λ i l. let h = form.flags in bit_at x c d i (omega (arith, h, l));
      memory = fun_ext (λ a.
          ap (λ (z : Term). (term_value x new z.0).bytes a) mem ∙ tk.byte x r a
          ∙ ap (λ l. if list_any (nat_eq a) l then x.mem part a else (term_value x mid before.memory.0).bytes a) (own_keep old mid _ _ _ _ _ x spans g.grew are)
          ∙ ap (λ (z : ℕ → ℕ). if list_any (nat_eq a) (addresses_of old x spans) then x.mem part a else z a)
          (ap (λ v. v.bytes) (g.grew.keeps x before.memory.0 names.memory.0) ∙ d.memory));
    };
  }
