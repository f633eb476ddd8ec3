-- What the printer of a node can rely on.
use Rattle.std.specs.Prelude.{ℕ, zero, suc, ◌≤◌, ◌<◌, ◌+◌, length}
use Rattle.machine_spec.specs.StateText.{Layout}
use Rattle.term_spec.specs.Terms.{TermNode, RegisterNode, FlagNode, ChoiceNode, MemoryNode, BinaryNode, SelectNode, ExtendNode, LoadNode, StoreNode, JoinNode, TakeNode, IsWidth, IsBytes}

-- the part has symbols: the entry's, the head's, or what is given at one of so many places
abbrev pub HasSymbols : (count part : ℕ) → Type 0
HasSymbols count zero = Unit {0}
HasSymbols count (suc zero) = Unit {0}
HasSymbols count (suc (suc i)) = i < count

-- inputs have names among those of the layout and among so many numbers; widths and counts of bytes are in range
abbrev pub IsPrintable : Layout → (count : ℕ) → TermNode → Type 0
IsPrintable layout count (RegisterNode p r) = HasSymbols count p × (layout.first ≤ r) × (r < layout.first + length layout.registers)
IsPrintable layout count (FlagNode p f) = HasSymbols count p × (f < length layout.flags)
IsPrintable layout count (ChoiceNode i) = i < count
IsPrintable layout count (MemoryNode p) = HasSymbols count p
IsPrintable layout count (BinaryNode o w a b) = IsWidth w
IsPrintable layout count (ExtendNode signed n m a) = n ≤ m
IsPrintable layout count (LoadNode n e m a) = IsBytes n
IsPrintable layout count (StoreNode n e m a v) = IsBytes n
IsPrintable layout count (TakeNode n m a p) = HasSymbols count p
IsPrintable layout count n = Unit {0}

-- a node that picks one of two terms, loads, stores or takes
abbrev pub IsCompound : TermNode → Type 0
IsCompound (SelectNode w c a b) = Unit {0}
IsCompound (LoadNode n e m a) = Unit {0}
IsCompound (StoreNode n e m a v) = Unit {0}
IsCompound (JoinNode c a b) = Unit {0}
IsCompound (TakeNode n m a p) = Unit {0}
IsCompound n = ⊥
