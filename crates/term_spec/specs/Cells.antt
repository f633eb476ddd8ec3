-- Cells: the term of a question without memory. A load is made of base reads, each of which has the byte of the entry memory at its address, and of
-- selections.
use Rattle.std.specs.Prelude.{ℕ, ◌≡◌, ◌≤◌, ◌<◌, ◌+◌, ◌-◌, ◌*◌, Bool, List, length, slice_index, Contains}
use Rattle.word_spec.specs.Memory.{Memory}
use Rattle.term_spec.specs.Terms.{TermReading, InRange, with_mem, TermNode, MemoryNode, LoadNode, StoreNode, JoinNode, TakeNode, AreTyped, HasWidth, node_at, term_word, term_gates}
use Rattle.walk_spec.specs.Unrolled.{UnrolledProgram}
use Rattle.walk_spec.specs.Prices.{loads_of, stores_of, edges_of, known_of}
use Rattle.term_spec.specs.WalkQuestions.{QuestionTerm, HasAsked, IsNamedBelow, AreNamedBelow}

-- two base reads, and the place of the bit that says that their addresses are equal
pub record Agreement : Type 0 where
  pub condition : ℕ
  pub read : ℕ
  pub other : ℕ

-- a base read, a known byte, and the place of the bit that says that the read is at the byte's address
pub record AskedByte : Type 0 where
  pub condition : ℕ
  pub read : ℕ
  pub byte : ℕ

-- Nodes over words; the places of the addresses of the base reads, by their numbers; which reads have to agree, and with which bytes of the file; and the
-- place of the question.
pub record Cells : Type 0 where
  pub nodes : List TermNode
  pub addresses : List ℕ
  pub agrees : List Agreement
  pub asked : List AskedByte
  pub root : ℕ

-- the address of a base read
abbrev pub read_address : Cells → TermReading → (read : ℕ) → ℕ
read_address c x j = term_word x c.nodes (slice_index c.addresses j)

-- the memory has the byte of each base read
abbrev pub Gives : Cells → TermReading → Type 0
Gives c x = (j : ℕ) → j < length c.addresses → x.base 0 j ≡ x.mem 0 (read_address c x j)

-- the reads agree where the condition says that their addresses are equal
abbrev pub Agrees : Cells → TermReading → Agreement → Type 0
Agrees c x a = term_word x c.nodes a.condition ≡ 1 → x.base 0 a.read ≡ x.base 0 a.other

-- the read has the byte where the condition says that it is at the byte's address
abbrev pub HasByte : Cells → TermReading → AskedByte → Type 0
HasByte c x a = term_word x c.nodes a.condition ≡ 1 → x.base 0 a.read ≡ a.byte

-- what is said of the base reads is true
pub record IsAllowed (c : Cells) (x : TermReading) : Type 0 where
  pub agrees : (a : Agreement) → Contains c.agrees a → Agrees c x a
  pub asked : (a : AskedByte) → Contains c.asked a → HasByte c x a

-- a node over words
abbrev pub IsOfWords : TermNode → Type 0
IsOfWords (MemoryNode p) = ⊥
IsOfWords (LoadNode n e m a) = ⊥
IsOfWords (StoreNode n e m a v) = ⊥
IsOfWords (JoinNode c a b) = ⊥
IsOfWords (TakeNode n m a p) = ⊥
IsOfWords n = Unit {0}

-- The form of cells: typed nodes over words, that name the program's inputs and the base reads; each address is a word of 32 bits over base reads before its
-- own; conditions and the question are bits; what is said is said of reads that are there.
pub record AreFormed (u : UnrolledProgram) (c : Cells) : Type 0 where
  pub typed : AreTyped c.nodes
  pub words : (n : TermNode) → Contains c.nodes n → IsOfWords n
  pub named : AreNamedBelow u (length c.addresses) c.nodes
  pub addresses : (j : ℕ) → j < length c.addresses → HasWidth c.nodes 32 (slice_index c.addresses j)
  pub early : (j i : ℕ) → j < length c.addresses → i ≤ slice_index c.addresses j → IsNamedBelow u j (node_at c.nodes i)
  pub agrees : (a : Agreement) → Contains c.agrees a → HasWidth c.nodes 1 a.condition × (a.read < length c.addresses) × (a.other < length c.addresses)
  pub asked : (a : AskedByte) → Contains c.asked a → HasWidth c.nodes 1 a.condition × (a.read < length c.addresses) × (a.byte < 256)
  pub root : HasWidth c.nodes 1 c.root

-- What the cells of a term pay for, by its byte loads, byte stores, edges and known bytes: the sum for the address of each byte; an equality and a selection
-- for each load with each store, a selection for each with each join; an equality for each two loads, and for each load with each known byte.
abbrev pub cell_gates : (loads stores edges known : ℕ) → ℕ
cell_gates l s e k = 64 * l + 64 * s + 40 * (l * s) + 8 * (l * (e + 2 * s)) + 16 * (l * (l - 1)) + 32 * (l * k)

-- Cells tell a term over the known bytes that are asked. same: where the memory has the byte of each base read, the question has the value of the term.
-- sound: where it also has the asked bytes, what is said of the reads is true. complete: where what is said is true, some memory has the bytes of the reads
-- and those that are asked.
pub record TellsCells (u : UnrolledProgram) (t : QuestionTerm) (asked : ℕ → Bool) (c : Cells) : Type 0 where
  pub formed : AreFormed u c
  pub same : (x : TermReading) → InRange x → Gives c x → term_word x c.nodes c.root ≡ term_word x t.nodes t.root
  pub sound : (x : TermReading) → InRange x → Gives c x → HasAsked u asked (x.mem 0) → IsAllowed c x
  pub complete : (x : TermReading) → InRange x → IsAllowed c x →
      (m : Memory) × ((a : ℕ) → m a < 256) × HasAsked u asked m × Gives c (with_mem x m)
  pub gates : term_gates c.nodes ≤ term_gates t.nodes + cell_gates (loads_of u) (stores_of u) (edges_of u) (known_of u)
  pub reads : length c.addresses ≤ loads_of u
