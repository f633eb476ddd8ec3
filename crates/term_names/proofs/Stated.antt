-- The terms of whole states.
use Rattle.std.proofs.Common.{◌≡◌, ℕ, zero, suc, ◌+◌, ◌*◌, ◌<◌, List, length, refl, ap, sym, ◌∙◌, subst, arith}
use Rattle.std.specs.Prelude.{slice_index}
use Rattle.std.proofs.lemmas.List.{length-map}
use Rattle.word_spec.specs.RowFiles.{from_to}
use Rattle.term_spec.specs.Terms.{TermReading, TermNode, MemoryNode, RegisterNode, FlagNode, ChoiceNode, BaseNode, TakeNode, TermValue, HasWidth, HasMemory, term_word}
use Rattle.term_spec.specs.Passive.{AreNames}
use Rattle.term_dag.specs.Nodes.{IsInput}
use Rattle.term_dag.specs.Made.{IsInterned}
use Rattle.term_dag.specs.declared.nodes.Term.{Term}
use Rattle.term_dag.proofs.Growth.{grew_on, grew_more, grew_width, interned_grew, interned_width, interned_inputs, inputs_on, inputs_more}
use Rattle.term_names.specs.declared.names.Names.{Names}
use Rattle.term_names.specs.Views.{form_of, names_of}
use Rattle.term_names.specs.Choices.{places, AreWide, AreChosen}
use Rattle.term_names.specs.Chosen.{HaveSameForm, IsOfPart, ArePartRegisters, ArePartFlags, ArePartNames, IsSelectedMemory, AreSelected, differing_bits, differing_memory, differing_terms}
use Rattle.term_names.proofs.Entry.{more_of_part}

-- the numbers of registers
pub count_of : (n count : ℕ) → length (from_to n count) ≡ count
count_of n zero = refl
count_of n (suc count) = let h = count_of (n + 1) count in omega arith

pub number_at : (n count i : ℕ) → i < count → slice_index (from_to n count) i ≡ n + i
number_at n zero i h = absurd (omega arith)
number_at n (suc count) zero h = omega arith
number_at n (suc count) (suc i) h = number_at (n + 1) count i (omega arith) ∙ (let z : n + 1 + i ≡ n + suc i = omega arith in z)

-- terms of the widths of what a form has, by rows
pub rows_are_names : (nodes : List TermNode) (n : Names) → AreWide nodes 32 (places n.registers.items) → AreWide nodes 1 (places n.flags.items) →
    HasMemory nodes n.memory.0 →
    AreNames (form_of n) nodes (names_of n)
rows_are_names nodes n ws bs m =
    let k = length-map n.registers.items (λ (t : Term). t.0) in
    let l = length-map n.flags.items (λ (t : Term). t.0) in
    let c = count_of n.first (length n.registers.items) in record {
      registers = omega arith;
      flags = l;
      words = λ i h. ws i (omega arith);
      bits = λ f h. bs f (omega arith);
      memory = m;
    }

-- Two states' terms, row by row.
pub states_selected : (old one two new : List TermNode) (c : ℕ) (a b n : Names) → HasWidth old 1 c → HaveSameForm a b → AreNames (form_of a) old (names_of a) →
    AreNames (form_of b) old (names_of b) →
    n.first ≡ a.first → AreChosen old one 32 c (places a.registers.items) (places b.registers.items) (places n.registers.items) →
    AreChosen one two 1 c (places a.flags.items) (places b.flags.items) (places n.flags.items) → IsSelectedMemory two new c a.memory.0 b.memory.0 n.memory.0 →
    AreSelected old new c a b n
states_selected old one two new c a b n hc form na nb first p q r =
    let dot = λ (t : Term). t.0 in
    let ka = length-map a.registers.items dot in let kb = length-map b.registers.items dot in let kn = length-map n.registers.items dot in
    let la = length-map a.flags.items dot in let lb = length-map b.flags.items dot in let ln = length-map n.flags.items dot in
    let ca = count_of a.first (length a.registers.items) in let cb = count_of b.first (length b.registers.items) in
    let cn = count_of n.first (length n.registers.items) in
    let registers : length a.registers.items ≡ length n.registers.items = omega (arith, p.count) in
    let flags : length a.flags.items ≡ length n.flags.items = omega (arith, q.count) in
    let g2 = grew_on old one two _ _ _ _ _ _ _ _ _ _ p.grew q.grew in
    let last = grew_on one two new _ _ _ _ _ _ _ _ _ _ q.grew r.grew in
    let all = grew_on old two new _ _ _ _ _ _ _ _ _ _ g2 r.grew in
    let ranges : from_to n.first (length n.registers.items) ≡ from_to a.first (length a.registers.items) =
    ap (λ z. from_to z (length n.registers.items)) first ∙ ap (from_to a.first) (sym registers) in
    let others : from_to n.first (length n.registers.items) ≡ from_to b.first (length b.registers.items) =
    ranges ∙ ap (λ z. from_to z (length a.registers.items)) form.first ∙ ap (from_to b.first) form.registers in
    let word : (x : TermReading) (t : ℕ) → t < length one → term_word x new t
    ≡ term_word x one t = λ x t h. ap (λ (z : TermValue). z.word) (last.keeps x t h) in
    let bit : (x : TermReading) (t : ℕ) → t < length two → term_word x new t
    ≡ term_word x two t = λ x t h. ap (λ (z : TermValue). z.word) (r.grew.keeps x t h) in
    let before : (x : TermReading) (t : ℕ) → t < length old →
    term_word x one t ≡ term_word x old t = λ x t h. ap (λ (z : TermValue). z.word) (p.grew.keeps x t h) in
    let condition : (x : TermReading) (v : ℕ) → term_word x old c ≡ v → term_word x one c ≡ v = λ x v h. before x c hc.0 ∙ h in
    let later : (x : TermReading) (v : ℕ) → term_word x old c ≡ v →
    term_word x two c ≡ v = λ x v h. ap (λ (z : TermValue). z.word) (g2.keeps x c hc.0) ∙ h in record {
      form = record { first = sym first; registers = registers; flags = flags };
      grew = grew_more old new _ _ _ _ _ (differing_bits a b) 0 0 (differing_memory a b) (2 * differing_terms a b)
          (omega arith) (omega arith) (omega arith) (omega arith) (omega arith) all;
      inputs = inputs_on old two new (λ m. ⊥) (inputs_on old one two (λ m. ⊥) p.inputs q.inputs) r.inputs;
      names = rows_are_names new n (λ i h. grew_width one new _ _ _ _ _ 32 (slice_index (places n.registers.items) i) last (p.wide i h))
          (λ i h. grew_width two new _ _ _ _ _ 1 (slice_index (places n.flags.items) i) r.grew (q.wide i h)) r.place;
      kept_registers = λ i h. p.kept i (omega arith);
      kept_flags = λ f h. q.kept f (omega arith);
      kept_memory = r.kept;
      when_true = λ x g e v d. record {
        registers = λ i h. word x (slice_index (places n.registers.items) i) (p.wide i (omega arith)).0 ∙ p.when_true x g e i (omega arith) ∙ d.registers i
            (omega arith)
            ∙ ap (λ z. v.regs (slice_index z i)) (sym ranges);
        flags = λ f h. bit x (slice_index (places n.flags.items) f) (q.wide f (omega arith)).0 ∙ q.when_true x g (condition x 1 e) f (omega arith)
            ∙ before x (slice_index (places a.flags.items) f) (na.bits f (omega arith)).0 ∙ d.flags f (omega arith);
        memory = r.when_true x g (later x 1 e) ∙ ap (λ (z : TermValue). z.bytes) (g2.keeps x a.memory.0 na.memory.0) ∙ d.memory;
      };
      when_false = λ x g e v d. record {
        registers = λ i h. word x (slice_index (places n.registers.items) i) (p.wide i (omega arith)).0 ∙ p.when_false x g e i (omega arith)
            ∙ d.registers i (omega (arith, form.registers)) ∙ ap (λ z. v.regs (slice_index z i)) (sym others);
        flags = λ f h. bit x (slice_index (places n.flags.items) f) (q.wide f (omega arith)).0 ∙ q.when_false x g (condition x 0 e) f (omega arith)
            ∙ before x (slice_index (places b.flags.items) f) (nb.bits f (omega (arith, form.flags))).0 ∙ d.flags f (omega (arith, form.flags));
        memory = r.when_false x g (later x 0 e) ∙ ap (λ (z : TermValue). z.bytes) (g2.keeps x b.memory.0 nb.memory.0) ∙ d.memory;
      };
    }

-- the same, by the slices of the rows
pub slices_selected : (old one two new : List TermNode) (c : ℕ) (a b n : Names) (ra rb fa fb : List Term) → HasWidth old 1 c → HaveSameForm a b →
    AreNames (form_of a) old (names_of a) → AreNames (form_of b) old (names_of b) → ra ≡ a.registers.items → rb ≡ b.registers.items → fa ≡ a.flags.items →
    fb ≡ b.flags.items →
    n.first ≡ a.first → AreChosen old one 32 c (places ra) (places rb) (places n.registers.items) →
    AreChosen one two 1 c (places fa) (places fb) (places n.flags.items) →
    IsSelectedMemory two new c a.memory.0 b.memory.0 n.memory.0 → AreSelected old new c a b n
slices_selected old one two new c a b n ra rb fa fb hc form na nb era erb efa efb first p q r =
    states_selected old one two new c a b n hc form na nb first
    (subst (λ (z : List Term). AreChosen old one 32 c (places a.registers.items) (places z) (places n.registers.items)) erb
    (subst (λ (z : List Term). AreChosen old one 32 c (places z) (places rb) (places n.registers.items)) era p))
    (subst (λ (z : List Term). AreChosen one two 1 c (places a.flags.items) (places z) (places n.flags.items)) efb
    (subst (λ (z : List Term). AreChosen one two 1 c (places z) (places fb) (places n.flags.items)) efa q)) r

-- the terms of a part, row by row
pub states_of_part : (old one two new : List TermNode) (part low words bits : ℕ) (n : Names) → n.first ≡ low →
    ArePartRegisters old one part low words (places n.registers.items) →
    ArePartFlags one two part bits (places n.flags.items) → IsInterned two new (MemoryNode part) n.memory.0 → ArePartNames old new part low words bits n
states_of_part old one two new part low words bits n first p q r =
    let dot = λ (t : Term). t.0 in
    let kn = length-map n.registers.items dot in let ln = length-map n.flags.items dot in
    let registers : length n.registers.items ≡ words = omega (arith, p.count) in
    let flags : length n.flags.items ≡ bits = omega (arith, q.count) in
    let cn = count_of n.first (length n.registers.items) in
    let memory = interned_grew two new (MemoryNode part) n.memory.0 r in
    let last = grew_on one two new _ _ _ _ _ _ _ _ _ _ q.grew memory in record {
      first = first;
      registers = registers;
      flags = flags;
      grew = grew_more old new _ _ _ _ _ 0 0 0 0 (words + bits + 1) (omega arith) (omega arith) (omega arith) (omega arith) (omega arith)
          (grew_on old one new _ _ _ _ _ _ _ _ _ _ p.grew last);
      inputs = inputs_on old two new (IsOfPart part low words bits)
          (inputs_on old one two (IsOfPart part low words bits)
          (inputs_more old one (IsOfPart part low words 0) (IsOfPart part low words bits) (more_of_part part low words words 0 bits (omega arith) (omega arith)) p.inputs)
          (inputs_more one two (IsOfPart part 0 0 bits) (IsOfPart part low words bits) (flags_of_part low words bits) q.inputs))
          (interned_inputs two new (MemoryNode part) n.memory.0 (IsOfPart part low words bits) r (λ i. refl));
      names = rows_are_names new n (λ i h. grew_width one new _ _ _ _ _ 32 (slice_index (places n.registers.items) i) last (p.wide i h))
          (λ i h. grew_width two new _ _ _ _ _ 1 (slice_index (places n.flags.items) i) memory (q.wide i h))
          (interned_width two new (MemoryNode part) n.memory.0 0 r refl);
      denotes = λ x g. record {
        registers = λ i h. ap (λ (z : TermValue). z.word) (last.keeps x (slice_index (places n.registers.items) i) (p.wide i (omega arith)).0) ∙ p.value x i
            (omega arith)
            ∙ ap (x.regs part) (sym (number_at n.first (length n.registers.items) i (omega arith) ∙ ap (λ z. z + i) first));
        flags = λ f h. ap (λ (z : TermValue). z.word) (memory.keeps x (slice_index (places n.flags.items) f) (q.wide f (omega arith)).0) ∙ q.value x f
            (omega arith);
        memory = ap (λ (z : TermValue). z.bytes) (r.value x);
      };
    }
  where
    flags_of_part : (low words bits : ℕ) (m : TermNode) → IsInput m → IsOfPart part 0 0 bits m → IsOfPart part low words bits m
    flags_of_part low words bits (RegisterNode p r) i c = absurd (omega (arith, c.1, c.2))
    flags_of_part low words bits (FlagNode p f) i c = c
    flags_of_part low words bits (ChoiceNode b) i c = c
    flags_of_part low words bits (BaseNode p b) i c = c
    flags_of_part low words bits (MemoryNode p) i c = c
    flags_of_part low words bits (TakeNode m a b p) i c = c
    flags_of_part low words bits m i c = absurd i
