-- Memories as pieces: the byte that each has at an address, and which bytes of others that takes.
use Rattle.std.specs.Prelude.{ℕ, zero, suc, ◌≡◌, ◌≤◌, ◌<◌, ◌+◌, ◌*◌, ◌^◌, Bool, true, false, ◌==◌, ◌&&◌, nat_lt, nat_le, if◌then◌else◌, List, Option, Some, None, length, slice_index_or}
use Rattle.word_spec.specs.Words.{add, sub}
use Rattle.word_spec.specs.Memory.{Memory}
use Rattle.term_spec.specs.Terms.{TermReading, InRange, TermNode, term_word, select, HasWidth}
use Rattle.term_dag.specs.declared.nodes.Term.{Term}
use Rattle.mem_cells.specs.declared.building.Build.{Build}
use Rattle.mem_cells.specs.declared.pieces.Split.{Split}
use Rattle.mem_cells.specs.declared.pieces.StoredByte.{StoredByte}
use Rattle.mem_cells.specs.declared.pieces.Piece.{Piece}
use Rattle.mem_cells.specs.declared.pieces.Piece.TheVariants.{Entry, Store, Take, Join}
use Rattle.mem_cells.specs.declared.pieces.Taken.{Taken}
use Rattle.mem_cells.specs.Parts.{HasPart}

-- a term is the sum of a base and an offset
pub record IsSplit (nodes : List TermNode) (t base offset : ℕ) : Type 0 where
  pub place : HasWidth nodes 32 base
  pub below : offset < 2 ^ 32
  pub value : (x : TermReading) → InRange x → term_word x nodes t ≡ add 32 (term_word x nodes base) offset

-- a term is a word of 32 bits that is 0
pub record IsZero (nodes : List TermNode) (t : ℕ) : Type 0 where
  pub place : HasWidth nodes 32 t
  pub value : (x : TermReading) → InRange x → term_word x nodes t ≡ 0

-- an address is one of those of some bytes from another on, since both have one base
abbrev pub ends_in : (address first : Split) → (bytes : ℕ) → Bool
ends_in a s n = (a.base.0 == s.base.0) && nat_lt (sub 32 a.offset s.offset) n

-- an address is none of those, since both have one base
abbrev pub lies_apart : (address first : Split) → (bytes : ℕ) → Bool
lies_apart a s n = (a.base.0 == s.base.0) && nat_le n (sub 32 a.offset s.offset)

-- a mark of a list, and none behind it
abbrev pub bool_at : List Bool → ℕ → Bool
bool_at marks j = slice_index_or marks j false

-- the piece of a number
abbrev pub piece_at : List Piece → ℕ → Piece
piece_at pieces q = slice_index_or pieces q (Entry 0)

-- a piece is over pieces below a number
abbrev pub IsRising : (q : ℕ) → Piece → Type 0
IsRising q (Entry p) = Unit {0}
IsRising q (Store m s f n) = m < q
IsRising q (Take m t) = m < q
IsRising q (Join c a b) = (a < q) × (b < q)

-- each piece is over those before it
abbrev pub AreRising : List Piece → Type 0
AreRising pieces = (q : ℕ) → q < length pieces → IsRising q (piece_at pieces q)

-- the pieces that the byte at an address of a piece needs are marked
abbrev pub Needs : List Bool → (address : Split) → Piece → Type 0
Needs marks at (Entry p) = Unit {0}
Needs marks at (Store m s f n) = ends_in at s n ≡ false → bool_at marks m ≡ true
Needs marks at (Take m t) = ends_in at t.at t.bytes ≡ false → bool_at marks m ≡ true
Needs marks at (Join c a b) = (bool_at marks a ≡ true) × (bool_at marks b ≡ true)

-- so are those of each marked piece from a number on
abbrev pub AreClosed : List Bool → List Piece → (address : Split) → (from : ℕ) → Type 0
AreClosed marks pieces at from = (q : ℕ) → from ≤ q → q < length marks → bool_at marks q ≡ true → Needs marks at (piece_at pieces q)

-- the part whose memory the byte at an address of a piece reads, if it may: it is the part's, or takes bytes of it that do not surely lie elsewhere
abbrev pub part_read : (address : Split) → Piece → Option ℕ
part_read at (Entry p) = Some p
part_read at (Store m s f n) = None
part_read at (Take m t) = if lies_apart at t.at t.bytes then None else Some t.part
part_read at (Join c a b) = None

-- no stored byte
abbrev pub no_byte : StoredByte
no_byte = record { address = record { 0 = 0 }; value = record { 0 = 0 } }

-- the stored byte at a place
abbrev pub stored_at : List StoredByte → ℕ → StoredByte
stored_at stored k = slice_index_or stored k no_byte

-- the byte at an address after some bytes were put over one
abbrev pub puts : (address : ℕ) → (addresses values : ℕ → ℕ) → (count : ℕ) → (below : ℕ) → ℕ
puts i at v zero b = b
puts i at v (suc k) b = if i == at k then v k else puts i at v k b

-- the byte at the address of a term after some stored bytes of a list, from a place on, were put over one
abbrev pub put_bytes : (ℕ → ℕ) → List StoredByte → (first bytes : ℕ) → (address : ℕ) → (below : ℕ) → ℕ
put_bytes w stored f n a b = puts (w a) (λ k. w (stored_at stored (f + k)).address.0) (λ k. w (stored_at stored (f + k)).value.0) n b

-- an address is one of those of some bytes from one on
abbrev pub is_among : (first bytes address : ℕ) → Bool
is_among a n i = nat_lt (sub 32 i a) n

-- the byte at an address where some bytes of a part's memory stand over one
abbrev pub taken_over : (ℕ → ℕ) → (ℕ → Memory) → Taken → (below address : ℕ) → ℕ
taken_over w m t b i = if is_among (w t.first.0) t.bytes i then m t.part i else b

-- The byte at an address of a piece, by the words of terms, the parts' memories, and the bytes that the pieces have at the address.
abbrev pub piece_byte : (ℕ → ℕ) → (ℕ → Memory) → (bytes : ℕ → ℕ) → List StoredByte → Piece → (address : ℕ) → ℕ
piece_byte w m below stored (Entry p) i = m p i
piece_byte w m below stored (Store p s f n) i = puts i (λ k. w (stored_at stored (f + k)).address.0) (λ k. w (stored_at stored (f + k)).value.0) n (below p)
piece_byte w m below stored (Take p t) i = taken_over w m t (below p) i
piece_byte w m below stored (Join c a b) i = select (w c.0) (below a) (below b)

-- some stored bytes of a list, from a place on, are over nodes
pub record AreBytes (nodes : List TermNode) (stored : List StoredByte) (first bytes : ℕ) : Type 0 where
  pub few : bytes ≤ 8
  pub within : first + bytes ≤ length stored
  pub addresses : (k : ℕ) → k < bytes → HasWidth nodes 32 (stored_at stored (first + k)).address.0
  pub values : (k : ℕ) → k < bytes → HasWidth nodes 8 (stored_at stored (first + k)).value.0

-- they are stored at the addresses from one on
pub record IsStored (nodes : List TermNode) (stored : List StoredByte) (at : Split) (first bytes : ℕ) : Type 0 where
  pub are : AreBytes nodes stored first bytes
  pub base : HasWidth nodes 32 at.base.0
  pub offset : at.offset < 2 ^ 32
  pub places : (x : TermReading) → InRange x → (k : ℕ) → k < bytes →
      term_word x nodes (stored_at stored (first + k)).address.0 ≡ add 32 (add 32 (term_word x nodes at.base.0) at.offset) k

-- bytes are taken from the memory of a part that terms may read, at the addresses from a term's on
pub record IsTaken (build : Build) (t : Taken) : Type 0 where
  pub part : HasPart build t.part
  pub some : 1 ≤ t.bytes
  pub few : t.bytes < 2 ^ 32
  pub first : HasWidth build.dag 32 t.first.0
  pub second : t.bytes ≡ 2 → HasWidth build.dag 32 t.second.0 ×
      ((x : TermReading) → InRange x → term_word x build.dag t.second.0 ≡ add 32 (term_word x build.dag t.first.0) 1)
  pub split : IsSplit build.dag t.first.0 t.at.base.0 t.at.offset

-- a piece is over terms of what is built, stored bytes and pieces below a number, or is the memory of a part
abbrev pub IsPiece : Build → List StoredByte → (q : ℕ) → Piece → Type 0
IsPiece build stored q (Entry p) = HasPart build p
IsPiece build stored q (Store m s f n) = (m < q) × IsStored build.dag stored s f n
IsPiece build stored q (Take m t) = (m < q) × IsTaken build t
IsPiece build stored q (Join c a b) = HasWidth build.dag 1 c.0 × (a < q) × (b < q)

-- each piece is
abbrev pub ArePieces : Build → List StoredByte → List Piece → Type 0
ArePieces build stored pieces = (q : ℕ) → q < length pieces → IsPiece build stored q (piece_at pieces q)

-- the gates that the byte of a piece takes at most, over those of the pieces before it
abbrev pub piece_gates : Piece → ℕ
piece_gates (Entry p) = 0
piece_gates (Store m s f n) = 40 * n
piece_gates (Take m t) = 40 * t.bytes
piece_gates (Join c a b) = 8

-- the term that has the byte of a piece
abbrev pub link : List Term → ℕ → ℕ
link chain q = (slice_index_or chain q (record { 0 = 0 })).0

-- the pieces that the byte of a piece needs have theirs
abbrev pub HasLinks : List TermNode → List Term → (address : Split) → Piece → Type 0
HasLinks nodes chain at (Entry p) = Unit {0}
HasLinks nodes chain at (Store m s f n) = ends_in at s n ≡ false → HasWidth nodes 8 (link chain m)
HasLinks nodes chain at (Take m t) = ends_in at t.at t.bytes ≡ false → HasWidth nodes 8 (link chain m)
HasLinks nodes chain at (Join c a b) = HasWidth nodes 8 (link chain a) × HasWidth nodes 8 (link chain b)
