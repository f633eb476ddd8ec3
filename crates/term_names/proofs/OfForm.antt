-- Inputs of a form are the program's, and its readings are in range.
use Rattle.std.proofs.Common.{◌≡◌, inl, inr, ℕ, zero, suc, ◌+◌, ◌<◌, ◌≤◌, Bool, true, false, ◌||◌, ◌==◌, nat_eq, List, refl, sym, ◌∙◌, subst, arith}
use Rattle.std.specs.List.{list_any}
use Rattle.std.proofs.lemmas.Bool.{true≢false, lt-ltb}
use Rattle.std.proofs.lemmas.Bool.Decides.{eqb_tells}
use Rattle.bilv_spec.specs.Questions.{Reading, IsReading}
use Rattle.word_spec.specs.RowFiles.{from_to}
use Rattle.term_spec.specs.Terms.{InRange, TermNode, RegisterNode, FlagNode, ChoiceNode, BaseNode, MemoryNode, ConstantNode, BinaryNode, NotNode, SelectNode, ExtractNode, ConcatNode, ExtendNode, LoadNode, StoreNode, JoinNode, TakeNode}
use Rattle.walk_spec.specs.Unrolled.{UnrolledProgram}
use Rattle.term_spec.specs.WalkQuestions.{IsNamedBelow, term_reading}
use Rattle.term_dag.specs.Nodes.{IsInput}
use Rattle.term_names.specs.Chosen.{IsOfForm}

-- a number within a range is of it
of_range_by : (r first count : ℕ) (b : Bool) → nat_eq r first ≡ b → (b ≡ false → list_any (nat_eq r) (from_to (first + 1) count) ≡ true) →
    (b || list_any (nat_eq r) (from_to (first + 1) count)) ≡ true
of_range_by r first count true e h = refl
of_range_by r first count false e h = h refl

of_range : (r first count : ℕ) → first ≤ r → r < first + count → list_any (nat_eq r) (from_to first count) ≡ true
of_range r first zero h k = absurd (omega arith)
of_range r first (suc count) h k =
    of_range_by r first count (nat_eq r first) refl
    (λ e. elim (eqb_tells r first) [
      | inl s ↦ absurd (true≢false (sym s.0 ∙ e))
      | inr o ↦ let d = o.1
          in of_range r (first + 1) count (omega arith) (omega arith)
    ])

-- a register or a flag of the form is the program's
pub named_of : (u : UnrolledProgram) (low regs flags : ℕ) (m : TermNode) → u.registers ≡ from_to low regs → u.flags ≡ flags → IsInput m →
    IsOfForm low regs flags m →
    IsNamedBelow u 0 m
named_of u low regs flags (RegisterNode n r) p q i h = (h.0, subst (λ (l : List ℕ). list_any (nat_eq r) l ≡ true) (sym p) (of_range r low regs h.1 h.2))
named_of u low regs flags (FlagNode n f) p q i h = (h.0, lt-ltb f u.flags (subst (λ (k : ℕ). f < k) (sym q) h.1))
named_of u low regs flags (ChoiceNode c) p q i h = absurd h
named_of u low regs flags (BaseNode n j) p q i h = absurd h
named_of u low regs flags (MemoryNode n) p q i h = h
named_of u low regs flags (ConstantNode w v) p q i h = absurd h
named_of u low regs flags (BinaryNode o w a b) p q i h = absurd h
named_of u low regs flags (NotNode w a) p q i h = absurd h
named_of u low regs flags (SelectNode w c a b) p q i h = absurd h
named_of u low regs flags (ExtractNode hi lo a) p q i h = absurd h
named_of u low regs flags (ConcatNode hi lo a b) p q i h = absurd h
named_of u low regs flags (ExtendNode s n k a) p q i h = absurd h
named_of u low regs flags (LoadNode n e k a) p q i h = absurd h
named_of u low regs flags (StoreNode n e k a v) p q i h = absurd h
named_of u low regs flags (JoinNode c a b) p q i h = absurd h
named_of u low regs flags (TakeNode n k a m) p q i h = absurd h

-- a reading is in range
pub reading_in_range : (u : UnrolledProgram) (r : Reading) → IsReading r → InRange (term_reading u r)
reading_in_range u r h = record { regs = λ p. h.state.regs; flags = λ p. h.state.flags; mem = λ p. h.state.mem; choice = λ i. h.choice _; base = λ p j. omega arith }

-- nodes that name inputs name nothing else
pub named_all : (u : UnrolledProgram) (m : TermNode) → (IsInput m → IsNamedBelow u 0 m) → IsNamedBelow u 0 m
named_all u (RegisterNode p r) h = h tt
named_all u (FlagNode p f) h = h tt
named_all u (ChoiceNode i) h = h tt
named_all u (BaseNode p j) h = h tt
named_all u (MemoryNode p) h = h tt
named_all u (ConstantNode w v) h = tt
named_all u (BinaryNode o w a b) h = tt
named_all u (NotNode w a) h = tt
named_all u (SelectNode w c a b) h = tt
named_all u (ExtractNode hi lo a) h = tt
named_all u (ConcatNode hi lo a b) h = tt
named_all u (ExtendNode s n k a) h = tt
named_all u (LoadNode n e k a) h = tt
named_all u (StoreNode n e k a v) h = tt
named_all u (JoinNode c a b) h = tt
named_all u (TakeNode n k a p) h = h tt
