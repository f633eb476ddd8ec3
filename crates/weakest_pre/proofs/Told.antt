-- What the bit of the entry condition says, and a bit that is tied to it.
use Rattle.std.proofs.Common.{inl, inr, ◌≡◌, ◌↔◌, ℕ, ◌+◌, Bool, true, false, ◌&&◌, if◌then◌else◌, bit_and, List, [], ◌∷◌, length, map, Contains, refl, ap, sym, ◌∙◌, arith, Option, None, Some}
use Rattle.std.specs.List.{list_all}
use Rattle.std.proofs.lemmas.Bool.{false≢true, eqb-true, eq-eqb}
use Rattle.word_spec.specs.Words.{bit}
use Rattle.word_spec.specs.Memory.{Endian}
use Rattle.machine_spec.specs.Bil as bil
use Rattle.word_spec.specs.State.{State}
use Rattle.bilv_spec.specs.Notes.{NoteLine, value, is_true}
use Rattle.bilv_spec.specs.Run.{false_line}
use Rattle.bilv_spec.specs.Questions.{Reading, IsReading}
use Rattle.term_spec.specs.Terms.{TermReading, InRange, TermNode, RegisterNode, FlagNode, ChoiceNode, BaseNode, MemoryNode, ConstantNode, BinaryNode, NotNode, SelectNode, ExtractNode, ConcatNode, ExtendNode, LoadNode, StoreNode, JoinNode, TakeNode, HasWidth, term_word, term_gates, term_loads, term_stores, term_joins}
use Rattle.walk_spec.specs.Unrolled.{UnrolledProgram, state_at}
use Rattle.term_spec.specs.WalkQuestions.{MeetsLines, IsNamedBelow, term_reading}
use Rattle.term_dag.specs.Nodes.{IsInput}
use Rattle.term_dag.specs.Made.{IsMade}
use Rattle.term_dag.proofs.Growth.{grew_on, grew_more, inputs_on, inputs_more}
use Rattle.term_names.specs.Chosen.{at_entry}
use Rattle.term_names.proofs.OfForm.{reading_in_range}
use Rattle.note_terms.specs.Steps.{IsStep}
use Rattle.note_terms.proofs.Steps.{step_made}
use Rattle.weakest_pre.specs.Entry.{meets, without_points, IsEntryBit}
use Rattle.weakest_pre.specs.declared.facts.Facts.{Facts}
use Rattle.weakest_pre.specs.Known.{AreFactsOf}
use Rattle.weakest_pre.specs.Copies.{IsMoved}
use Rattle.weakest_pre.specs.Folded.{IsMetBy, IsFoldedCopy}
use Rattle.weakest_pre.specs.Roots.{IsTied}

-- two tests that are both true
pub both_true : (p q : Bool) → (p && q) ≡ true → (p ≡ true) × (q ≡ true)
both_true true q h = (refl, h)
both_true false q h = absurd (false≢true h)

pub true_both : (p q : Bool) → p ≡ true → q ≡ true → (p && q) ≡ true
true_both true q h k = k
true_both false q h k = h

-- where the entry condition is met, registers are as its lines say
pub met_by : (u : UnrolledProgram) (facts : Facts) (x : TermReading) → AreFactsOf u facts.registers.items → InRange x →
    meets u (state_at (at_entry x) u.entry) ≡ true → IsMetBy facts x
met_by u facts x said r h = record { range = r; known = said (state_at (at_entry x) u.entry) (r.regs 0) (both_true _ _ h).1 }

-- a bit counts only where the other is 1
pub counts_where : (b : Bool) (p q v : ℕ) → p ≡ bit b → (b ≡ true → q ≡ v) → bit_and p q ≡ bit_and p v
counts_where true p q v e h = ap (bit_and p) (h refl)
counts_where false p q v e h = ap (λ (n : ℕ). bit_and n q) e ∙ ap (λ (n : ℕ). bit_and n v) (sym e)

-- the entry condition's bit tied to the folded copy of another
pub tied_made : (u : UnrolledProgram) (facts : Facts) (source a b c : List TermNode) (p s q t : ℕ) → IsEntryBit u [] a p →
    AreFactsOf u facts.registers.items → HasWidth source 1 s → IsFoldedCopy (IsMetBy facts) source a b s q →
    IsMade b c (BinaryNode bil.And 1 p q) t →
    IsTied source a c p s t
tied_made u facts source a b c p s q t entry said bit_s copy made =
    let last : IsStep b c 1 0 2 (λ w. w ≡ 1) (λ x. bit_and (term_word x b p) (term_word x b q)) t =
    step_made b c 1 0 _ _ (BinaryNode bil.And 1 p q) t made (omega arith) (omega arith) refl refl (λ i. i) (λ w e. e) (λ x r. refl) in
    record {
      grew = grew_more a c (term_gates source + 1) (term_loads source + 0) (term_stores source + 0) (term_joins source + 0) (length source + 2)
          (term_gates source + 1) (term_loads source) (term_stores source) (term_joins source) (length source + 2)
          (omega arith) (omega arith) (omega arith) (omega arith) (omega arith)
          (grew_on a b c (term_gates source) (term_loads source) (term_stores source) (term_joins source) (length source) 1 0 0 0 2 copy.grew last.grew);
      inputs = inputs_on a b c (IsMoved source) copy.inputs (inputs_more b c (λ m. ⊥) (IsMoved source) (λ m i e. absurd e) last.inputs);
      typed = last.typed;
      width = (last.within, last.fits);
      value = λ x r.
          last.value x r ∙ ap (λ (v : ℕ). bit_and v (term_word x b q)) (ap (λ v. v.word) (copy.grew.keeps x p entry.width.0))
          ∙ counts_where (meets u (state_at (at_entry x) u.entry)) (term_word x a p) (term_word x b q) (term_word x source s) (entry.value x r)
          (λ h. ap (λ v. v.word) (copy.value x (met_by u facts x said r h)));
    }

-- the first false line, of one line and more
no_line_by : (b all : Bool) (found : Option ℕ) (n : ℕ) → (b && all) ≡ true → (all ≡ true → found ≡ None) → (if b then found else Some n) ≡ None
no_line_by true all found n h k = k h
no_line_by false all found n h k = cc

-- there is none where all are true
no_line : (e : Endian) (lines : List NoteLine) (s : State) → list_all (λ l. is_true (value e l s s)) (map (λ l. l.says) lines) ≡ true →
    false_line e lines s s ≡ None
no_line e [] s h = refl
no_line e (l ∷ lines) s h = no_line_by (is_true (value e l.says s s)) _ _ l.line h (no_line e lines s)

all_lines_by : (b all : Bool) (found : Option ℕ) (n : ℕ) → (if b then found else Some n) ≡ None → (found ≡ None → all ≡ true) → (b && all) ≡ true
all_lines_by true all found n h k = k h
all_lines_by false all found n h k = cc

-- and all are where there is none
all_lines : (e : Endian) (lines : List NoteLine) (s : State) → false_line e lines s s ≡ None →
    list_all (λ l. is_true (value e l s s)) (map (λ l. l.says) lines) ≡ true
all_lines e [] s h = refl
all_lines e (l ∷ lines) s h = all_lines_by (is_true (value e l.says s s)) _ (false_line e lines s s) l.line h (all_lines e lines s)

-- the test of the entry condition
pub lines_met : (u : UnrolledProgram) (s : State) → (meets u s ≡ true) ↔ MeetsLines u s
lines_met u s = (
  (λ h. let k = both_true _ _ h in record { link = eqb-true _ _ k.0; requires = no_line u.endian u.requires s k.1 }),
  (λ m. true_both _ _ (eq-eqb _ _ m.link) (all_lines u.endian u.requires s m.requires)),
)

-- what the entry condition's bit is under a reading
pub entry_tells : (u : UnrolledProgram) (old new : List TermNode) (t : ℕ) → IsEntryBit u old new t → (r : Reading) → IsReading r → r.state.pc ≡ u.entry →
    term_word (term_reading u r) new t ≡ bit (meets u r.state)
entry_tells u old new t h r k e =
    let x = term_reading u r in
    let same : r.state ≡ state_at (at_entry x) u.entry = ap (λ (p : ℕ). state_at (at_entry x) p) e in
    h.value x (reading_in_range u r k) ∙ ap (λ (s : State). bit (meets u s)) (sym same)

-- a bit that is 1
pub bit_one : (b : Bool) → bit b ≡ 1 → b ≡ true
bit_one true h = refl
bit_one false h = absurd (omega arith)

-- an empty list has no node
pub nothing_there : (m : TermNode) (A : Type 0) → Contains [] m → A
nothing_there m A c = let l = c.1 in absurd (omega arith)

-- what is named without the points is the program's
with_points : (u : UnrolledProgram) (m : TermNode) → IsNamedBelow (without_points u) 0 m → IsNamedBelow u 0 m
with_points u (RegisterNode p n) h = h
with_points u (FlagNode p f) h = h
with_points u (ChoiceNode i) h = let l = h.0 in absurd (omega arith)
with_points u (BaseNode p j) h = h
with_points u (MemoryNode p) h = h
with_points u (ConstantNode w v) h = h
with_points u (BinaryNode o w a b) h = h
with_points u (NotNode w a) h = h
with_points u (SelectNode w c a b) h = h
with_points u (ExtractNode hi lo a) h = h
with_points u (ConcatNode high low a b) h = h
with_points u (ExtendNode s n m a) h = h
with_points u (LoadNode n e m a) h = h
with_points u (StoreNode n e m a v) h = h
with_points u (JoinNode c a b) h = h
with_points u (TakeNode n m a p) h = h

-- the inputs of the entry condition
pub entry_named : (u : UnrolledProgram) (new : List TermNode) (t : ℕ) → IsEntryBit u [] new t → (m : TermNode) → Contains new m → IsInput m → IsNamedBelow u 0 m
entry_named u new t h m c i = elim (h.inputs m c i) [ inl none ↦ nothing_there m (IsNamedBelow u 0 m) none | inr named ↦ with_points u m named ]
