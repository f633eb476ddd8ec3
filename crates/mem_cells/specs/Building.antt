-- Cells as they are built: nodes over words with base reads, which grow.
use Rattle.std.specs.Prelude.{ℕ, ◌≡◌, ◌≤◌, ◌<◌, ◌+◌, ◌*◌, ◌^◌, Bool, true, List, ◌++◌, Some, length, map, slice_index, Contains}
use Rattle.term_spec.specs.Terms.{TermReading, InRange, TermNode, BaseNode, AreTyped, HasWidth, IsTypedOver, width_of, node_at, term_word, term_gates, term_loads, own_loads}
use Rattle.frame_spec.specs.FrameWalk.{UnrolledProgram}
use Rattle.frame_terms.specs.PassiveFrames.{IsNamedBelow, AreNamedBelow}
use Rattle.term_dag.specs.Made.{Extends}
use Rattle.mem_cells.specs.declared.building.Build.{Build}
use Rattle.mem_cells.specs.declared.pieces.StoredByte.{StoredByte}
use Rattle.mem_cells.specs.declared.pieces.Piece.{Piece}
use Rattle.word_spec.specs.Memory.{Memory, Endian, Little, Big, byte_of, store}
use Rattle.word_spec.specs.Words.{add}
use Rattle.mem_cells.specs.declared.pieces.Split.{Split}
use Rattle.mem_cells.specs.declared.pieces.Piece.TheVariants.{Entry, Store, Take, Join}
use Rattle.mem_cells.specs.Parts.{frame_of_build, heads_of_build}
use Rattle.mem_cells.specs.Pieces.{bool_at, part_read, piece_at, piece_byte, puts, stored_at, IsStored, IsTaken}

-- Nodes over words without loads, that name the frame's inputs and the base reads; each address is a word over reads of addresses before it, and is read.
pub record Cellular (u : UnrolledProgram) (heads : Bool) (nodes : List TermNode) (places : List ℕ) : Type 0 where
  pub typed : AreTyped nodes
  pub named : AreNamedBelow u heads (length places) nodes
  pub words : (n : TermNode) → Contains nodes n → 1 ≤ width_of n
  pub loads : term_loads nodes ≡ 0
  pub addresses : (j : ℕ) → j < length places → HasWidth nodes 32 (slice_index places j)
  pub early : (j i : ℕ) → j < length places → i ≤ slice_index places j → IsNamedBelow u heads j (node_at nodes i)
  pub read : (j : ℕ) → j < length places → (p : ℕ) × Contains nodes (BaseNode p j)

-- the places of the addresses of the reads
abbrev pub read_places : Build → List ℕ
read_places b = map (λ t. t.0) b.addresses.items

-- what is built are cells
abbrev pub IsBuilt : Build → Type 0
IsBuilt b = Cellular (frame_of_build b) (heads_of_build b) b.dag (read_places b)

-- each part's memory has the bytes of its reads
abbrev pub GivesAll : Build → TermReading → Type 0
GivesAll b x = (p j : ℕ) → Contains b.dag (BaseNode p j) → x.base p j ≡ x.mem p (term_word x b.dag (slice_index (read_places b) j))

-- more was built, with at most so many gates and addresses of reads
pub record Grown (old new : Build) (g r : ℕ) : Type 0 where
  pub question : new.question ≡ old.question
  pub built : IsBuilt new
  pub extends : Extends old.dag new.dag
  pub more : (rest : List ℕ) × (read_places new ≡ read_places old ++ rest)
  pub gates : term_gates new.dag ≤ term_gates old.dag + g
  pub reads : length (read_places new) ≤ length (read_places old) + r

-- a node that cells may have: a word that is no load, and an input only if it is one of theirs
pub record IsOwnNode (u : UnrolledProgram) (heads : Bool) (reads : ℕ) (nodes : List TermNode) (n : TermNode) : Type 0 where
  pub typed : IsTypedOver nodes n
  pub word : 1 ≤ width_of n
  pub loads : own_loads n ≡ 0
  pub named : IsNamedBelow u heads reads n

-- a term has a width and a value
pub record IsWord (nodes : List TermNode) (w t : ℕ) (f : TermReading → ℕ) : Type 0 where
  pub place : HasWidth nodes w t
  pub value : (x : TermReading) → InRange x → term_word x nodes t ≡ f x

-- the number is that of an address
abbrev pub IsNumber : Build → (address number : ℕ) → Type 0
IsNumber b a j = (j < length (read_places b)) × (slice_index (read_places b) j ≡ a)

-- it is, if a marked piece may read the memory of a part there
abbrev pub IsNumberFor : Build → List Piece → List Bool → (at : Split) → (address number : ℕ) → Type 0
IsNumberFor b pieces marks at a j = (q p : ℕ) → q < length marks → bool_at marks q ≡ true → part_read at (piece_at pieces q) ≡ Some p → IsNumber b a j

-- a term has a byte that hangs on the parts' memories
pub record IsByte (b : Build) (t : ℕ) (f : TermReading → ℕ) : Type 0 where
  pub place : HasWidth b.dag 8 t
  pub value : (x : TermReading) → InRange x → GivesAll b x → term_word x b.dag t ≡ f x

-- bytes at an address, one for each piece, are those of the pieces
abbrev pub FollowPieces : (ℕ → ℕ) → (ℕ → Memory) → List StoredByte → List Piece → (address : ℕ) → (bytes : ℕ → ℕ) → Type 0
FollowPieces w m stored pieces i bytes = (q : ℕ) → q < length pieces → bytes q ≡ piece_byte w m bytes stored (piece_at pieces q) i

-- a term has the byte of a piece at the address of a term that was there before
pub record IsByteOf (old new : Build) (stored : List StoredByte) (pieces : List Piece) (q address t : ℕ) : Type 0 where
  pub place : HasWidth new.dag 8 t
  pub value : (x : TermReading) → InRange x → GivesAll new x → (bytes : ℕ → ℕ) →
      FollowPieces (term_word x old.dag) x.mem stored pieces (term_word x old.dag address) bytes →
      term_word x new.dag t ≡ bytes q

-- memories, one for each piece, are those of the pieces
abbrev pub AreMemories : (ℕ → ℕ) → (ℕ → Memory) → List StoredByte → List Piece → (ℕ → Memory) → Type 0
AreMemories w m stored pieces memories = (i : ℕ) → i < 2 ^ 32 → FollowPieces w m stored pieces i (λ q. memories q i)

-- a term has the word of a width that hangs on the memory of a piece
pub record IsOfMemory (old new : Build) (stored : List StoredByte) (pieces : List Piece) (q w t : ℕ) (f : TermReading → Memory → ℕ) : Type 0 where
  pub place : HasWidth new.dag w t
  pub value : (x : TermReading) → InRange x → GivesAll new x → (memories : ℕ → Memory) → AreMemories (term_word x old.dag) x.mem stored pieces memories →
      term_word x new.dag t ≡ f x (memories q)

-- the number of some bytes with one more
abbrev pub with_byte : Endian → (bytes : ℕ) → (number byte : ℕ) → ℕ
with_byte Little n a b = a + b * 256 ^ n
with_byte Big n a b = a * 256 + b

-- the first bytes of a word are written, from a place of a list on: their addresses are those from one on
pub record IsWritten (old new : Build) (stored : List StoredByte) (first count a v n : ℕ) (e : Endian) : Type 0 where
  pub addresses : (j : ℕ) → j < count → IsWord new.dag 32 (stored_at stored (first + j)).address.0 (λ x. add 32 (term_word x old.dag a) j)
  pub values : (j : ℕ) → j < count → IsWord new.dag 8 (stored_at stored (first + j)).value.0 (λ x. byte_of e n (term_word x old.dag v) j)

-- a piece stores the bytes of a word in another
pub record StoresWord (old new : Build) (stored : List StoredByte) (m a v n : ℕ) (e : Endian) (first : ℕ) (to : Split) : Type 0 where
  pub stored_bytes : IsStored new.dag stored to first n
  pub bytes : (x : TermReading) → InRange x → (i : ℕ) → i < 2 ^ 32 → (memory : Memory) →
      puts i (λ k. term_word x new.dag (stored_at stored (first + k)).address.0) (λ k. term_word x new.dag (stored_at stored (first + k)).value.0) n (memory i)
      ≡ store e n memory (term_word x old.dag a) (term_word x old.dag v) i

-- so does the piece
abbrev pub IsStore : (old new : Build) → List StoredByte → (m a v n : ℕ) → Endian → Piece → Type 0
IsStore old new stored m a v n e (Entry p) = ⊥
IsStore old new stored m a v n e (Store p to f k) = (p ≡ m) × (k ≡ n) × StoresWord old new stored m a v n e f to
IsStore old new stored m a v n e (Take p t) = ⊥
IsStore old new stored m a v n e (Join c p q) = ⊥

-- a piece takes bytes of a part's memory in another
abbrev pub IsTake : (old new : Build) → (memory first bytes part : ℕ) → Piece → Type 0
IsTake old new m a n part (Entry p) = ⊥
IsTake old new m a n part (Store p to f k) = ⊥
IsTake old new m a n part (Take p t) = (p ≡ m) × (t.bytes ≡ n) × (t.first.0 ≡ a) × (t.part ≡ part) × IsTaken new t
IsTake old new m a n part (Join c p q) = ⊥
