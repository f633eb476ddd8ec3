-- Cells of frames: the term of a question without memories. A load is made of base reads, each of which has the byte that a part's memory has at its address,
-- and of selections.
use Rattle.std.specs.Prelude.{ℕ, ◌≡◌, ◌≤◌, ◌<◌, ◌+◌, ◌*◌, Bool, true, List, Some, length, slice_get, slice_index, Contains}
use Rattle.word_spec.specs.Memory.{Memory}
use Rattle.term_spec.specs.Terms.{TermReading, InRange, with_memories, TermNode, BaseNode, AreTyped, HasWidth, node_at, term_word, term_gates}
use Rattle.term_spec.specs.Cells.{cell_gates, IsOfWords}
use Rattle.frame_spec.specs.FrameWalk.{UnrolledProgram}
use Rattle.frame_laws.specs.FramePrices.{loads_of, stores_of, edges_of, known_of}
use Rattle.frame_laws.specs.RunOfFrame.{HasAsked, HasAskedKept}
use Rattle.term_spec.specs.WalkQuestions.{QuestionTerm}
use Rattle.frame_terms.specs.PassiveFrames.{entry_part, head_part, NamesMemory, IsNamedBelow, AreNamedBelow}

-- a base read: of a part's memory, at the address of a number
pub record BaseRead : Type 0 where
  pub part : ℕ
  pub address : ℕ

-- the numbers of two addresses that a part is read at, and the place of the bit that says that they are equal; one bit serves all parts
pub record Agreement : Type 0 where
  pub condition : ℕ
  pub part : ℕ
  pub read : ℕ
  pub other : ℕ

-- a base read of a part, a known byte, and the place of the bit that says that the read is at the byte's address
pub record AskedByte : Type 0 where
  pub condition : ℕ
  pub part : ℕ
  pub read : ℕ
  pub byte : ℕ

-- Nodes over words; the places of addresses, by their numbers; which parts are read at which of them; which reads have to agree, and with which bytes of the
-- file; and the place of the question.
pub record Cells : Type 0 where
  pub nodes : List TermNode
  pub addresses : List ℕ
  pub reads : List BaseRead
  pub agrees : List Agreement
  pub asked : List AskedByte
  pub root : ℕ

-- the address of a number
abbrev pub read_address : Cells → TermReading → (read : ℕ) → ℕ
read_address c x j = term_word x c.nodes (slice_index c.addresses j)

-- each part's memory has the bytes of its base reads
abbrev pub Gives : Cells → TermReading → Type 0
Gives c x = (b : BaseRead) → Contains c.reads b → x.base b.part b.address ≡ x.mem b.part (read_address c x b.address)

-- the reads agree where the condition says that their addresses are equal
abbrev pub Agrees : Cells → TermReading → Agreement → Type 0
Agrees c x a = term_word x c.nodes a.condition ≡ 1 → x.base a.part a.read ≡ x.base a.part a.other

-- the read has the byte where the condition says that it is at the byte's address
abbrev pub HasByte : Cells → TermReading → AskedByte → Type 0
HasByte c x a = term_word x c.nodes a.condition ≡ 1 → x.base a.part a.read ≡ a.byte

-- what is said of the base reads is true
pub record IsAllowed (c : Cells) (x : TermReading) : Type 0 where
  pub agrees : (a : Agreement) → Contains c.agrees a → Agrees c x a
  pub asked : (a : AskedByte) → Contains c.asked a → HasByte c x a

-- a base read of the cells
abbrev pub IsRead : Cells → (part : ℕ) → ℕ → Type 0
IsRead c part j = Contains c.reads (record { part = part; address = j })

-- The form of cells: typed nodes over words, that name the frame's inputs and base reads; each address is a word of 32 bits over base reads of addresses before
-- it; base reads are of parts with a memory, at addresses that are there, each once and in the order of the addresses; conditions and the question are bits;
-- what is said is said of base reads.
pub record AreFormed (u : UnrolledProgram) (heads : Bool) (c : Cells) : Type 0 where
  pub typed : AreTyped c.nodes
  pub words : (n : TermNode) → Contains c.nodes n → IsOfWords n
  pub named : AreNamedBelow u heads (length c.addresses) c.nodes
  pub bases : (p j : ℕ) → Contains c.nodes (BaseNode p j) → IsRead c p j
  pub addresses : (j : ℕ) → j < length c.addresses → HasWidth c.nodes 32 (slice_index c.addresses j)
  pub early : (j i : ℕ) → j < length c.addresses → i ≤ slice_index c.addresses j → IsNamedBelow u heads j (node_at c.nodes i)
  pub reads : (b : BaseRead) → Contains c.reads b → NamesMemory u heads b.part × (b.address < length c.addresses)
  pub rise : (i j : ℕ) (a b : BaseRead) → i < j → slice_get c.reads i ≡ Some a → slice_get c.reads j ≡ Some b → a.address ≤ b.address
  pub once : (i j : ℕ) (a : BaseRead) → i < j → slice_get c.reads i ≡ Some a → slice_get c.reads j ≡ Some a → ⊥
  pub agrees : (a : Agreement) → Contains c.agrees a → HasWidth c.nodes 1 a.condition × IsRead c a.part a.read × IsRead c a.part a.other
  pub asked : (a : AskedByte) → Contains c.asked a → HasWidth c.nodes 1 a.condition × IsRead c a.part a.read × (a.byte < 256)
  pub root : HasWidth c.nodes 1 c.root

-- The memories have the known bytes that are asked: the entry's all of them, and the head's those that are kept, where the question speaks of head states of a
-- frame with a head.
pub record HaveAsked (u : UnrolledProgram) (of_head : Bool) (asked : ℕ → Bool) (x : TermReading) : Type 0 where
  pub entry : HasAsked u asked (x.mem entry_part)
  pub head : of_head ≡ true → HasAskedKept u asked (x.mem head_part)

-- memories that have the bytes of the reads, and those that are asked
pub record Completes (u : UnrolledProgram) (of_head : Bool) (asked : ℕ → Bool) (c : Cells) (x : TermReading) : Type 0 where
  pub memories : ℕ → Memory
  pub bytes : (p a : ℕ) → memories p a < 256
  pub have : HaveAsked u of_head asked (with_memories x memories)
  pub gives : Gives c (with_memories x memories)

-- Cells tell a term over the known bytes that are asked. same: where the memories have the bytes of the base reads, the question has the value of the term.
-- sound: where they also have the asked bytes, what is said of the reads is true. complete: where what is said is true, some memories have the bytes of the
-- reads and those that are asked. heads: the frame has a head; of_head: the question speaks of its states too.
pub record TellsCells (u : UnrolledProgram) (heads of_head : Bool) (t : QuestionTerm) (asked : ℕ → Bool) (c : Cells) : Type 0 where
  pub formed : AreFormed u heads c
  pub same : (x : TermReading) → InRange x → Gives c x → term_word x c.nodes c.root ≡ term_word x t.nodes t.root
  pub sound : (x : TermReading) → InRange x → Gives c x → HaveAsked u of_head asked x → IsAllowed c x
  pub complete : (x : TermReading) → InRange x → IsAllowed c x → Completes u of_head asked c x
  pub gates : term_gates c.nodes ≤ term_gates t.nodes + cell_gates (loads_of u) (stores_of u) (edges_of u) (known_of u)
  pub few : length c.addresses ≤ loads_of u
  pub few_reads : length c.reads ≤ loads_of u * (2 + stores_of u)
