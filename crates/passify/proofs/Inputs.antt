-- What terms name is the frame's.
use Rattle.std.proofs.Common.{◌≡◌, inl, inr, ℕ, Bool, true, List, refl, sym, subst}
use Rattle.word_spec.specs.RowFiles.{from_to}
use Rattle.term_spec.specs.Terms.{TermNode, RegisterNode, FlagNode, ChoiceNode, BaseNode, MemoryNode, ConstantNode, BinaryNode, NotNode, SelectNode, ExtractNode, ConcatNode, ExtendNode, LoadNode, StoreNode, JoinNode, TakeNode}
use Rattle.frame_spec.specs.FrameWalk.{UnrolledProgram}
use Rattle.frame_terms.specs.PassiveFrames.{AreNamedBelow, IsNamedBelow, NamesFlag, NamesMemory, NamesRegister, inputs_of}
use Rattle.term_dag.specs.Nodes.{IsInput}
use Rattle.term_dag.specs.Made.{InputsFrom}
use Rattle.term_names.specs.Chosen.{IsOfPart}
use Rattle.term_names.proofs.OfForm.{named_of}

module _ (u : UnrolledProgram) (heads : Bool) where
  -- nodes that name inputs name nothing else
  named_all : (m : TermNode) → (IsInput m → IsNamedBelow u heads 0 m) → IsNamedBelow u heads 0 m
  named_all (RegisterNode p r) h = h tt
  named_all (FlagNode p f) h = h tt
  named_all (ChoiceNode i) h = h tt
  named_all (BaseNode p j) h = h tt
  named_all (MemoryNode p) h = h tt
  named_all (ConstantNode w v) h = tt
  named_all (BinaryNode o w a b) h = tt
  named_all (NotNode w a) h = tt
  named_all (SelectNode w c a b) h = tt
  named_all (ExtractNode hi lo a) h = tt
  named_all (ConcatNode hi lo a b) h = tt
  named_all (ExtendNode s n k a) h = tt
  named_all (LoadNode n e k a) h = tt
  named_all (StoreNode n e k a v) h = tt
  named_all (JoinNode c a b) h = tt
  named_all (TakeNode n k a p) h = h tt

  -- inputs that were there, or are the frame's
  pub named_on : (old new : List TermNode) (more : TermNode → Type 0) → ((m : TermNode) → IsInput m → more m → IsNamedBelow u heads 0 m) →
      InputsFrom old new more → AreNamedBelow u heads 0 old → AreNamedBelow u heads 0 new
  named_on old new more f k h m c = named_all m (λ i. elim (k m c i) [ inl a ↦ h m a | inr b ↦ f m i b ])

  module _ (low regs flags : ℕ) (p : u.registers ≡ from_to low regs) (q : u.flags ≡ flags) where
    -- a register or a flag of the form is one of the state at entry
    pub entry_named : (m : TermNode) → IsInput m → IsOfPart 0 low regs flags m → IsNamedBelow u heads 0 m
    entry_named (RegisterNode n r) i h =
        subst (λ (z : ℕ). NamesRegister u heads z r) (sym h.0) (named_of (inputs_of u) low regs flags (RegisterNode 0 r) p q tt (refl, h.1, h.2)).1
    entry_named (FlagNode n f) i h =
        subst (λ (z : ℕ). NamesFlag u heads z f) (sym h.0) (named_of (inputs_of u) low regs flags (FlagNode 0 f) p q tt (refl, h.1)).1
    entry_named (ChoiceNode c) i h = absurd h
    entry_named (BaseNode n j) i h = absurd h
    entry_named (MemoryNode n) i h = subst (λ (z : ℕ). NamesMemory u heads z) (sym h) tt
    entry_named (ConstantNode w v) i h = absurd h
    entry_named (BinaryNode o w a b) i h = absurd h
    entry_named (NotNode w a) i h = absurd h
    entry_named (SelectNode w c a b) i h = absurd h
    entry_named (ExtractNode hi lo a) i h = absurd h
    entry_named (ConcatNode hi lo a b) i h = absurd h
    entry_named (ExtendNode s n k a) i h = absurd h
    entry_named (LoadNode n e k a) i h = absurd h
    entry_named (StoreNode n e k a v) i h = absurd h
    entry_named (JoinNode c a b) i h = absurd h
    entry_named (TakeNode n k a m) i h = absurd h

    -- or of the state at a head, where there is one
    pub head_named : (m : TermNode) → IsInput m → (heads ≡ true) × IsOfPart 1 low regs flags m → IsNamedBelow u heads 0 m
    head_named (RegisterNode n r) i (t, h) =
        subst (λ (z : ℕ). NamesRegister u heads z r) (sym h.0) (t, (named_of (inputs_of u) low regs flags (RegisterNode 0 r) p q tt (refl, h.1, h.2)).1)
    head_named (FlagNode n f) i (t, h) =
        subst (λ (z : ℕ). NamesFlag u heads z f) (sym h.0) (t, (named_of (inputs_of u) low regs flags (FlagNode 0 f) p q tt (refl, h.1)).1)
    head_named (ChoiceNode c) i (t, h) = absurd h
    head_named (BaseNode n j) i (t, h) = absurd h
    head_named (MemoryNode n) i (t, h) = subst (λ (z : ℕ). NamesMemory u heads z) (sym h) t
    head_named (ConstantNode w v) i (t, h) = absurd h
    head_named (BinaryNode o w a b) i (t, h) = absurd h
    head_named (NotNode w a) i (t, h) = absurd h
    head_named (SelectNode w c a b) i (t, h) = absurd h
    head_named (ExtractNode hi lo a) i (t, h) = absurd h
    head_named (ConcatNode hi lo a b) i (t, h) = absurd h
    head_named (ExtendNode s n k a) i (t, h) = absurd h
    head_named (LoadNode n e k a) i (t, h) = absurd h
    head_named (StoreNode n e k a v) i (t, h) = absurd h
    head_named (JoinNode c a b) i (t, h) = absurd h
    head_named (TakeNode n k a m) i (t, h) = absurd h
