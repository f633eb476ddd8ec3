-- Which bytes of the file the base reads have, as far as it is said.
use Rattle.std.specs.Prelude.{ℕ, zero, suc, ◌≡◌, ◌<◌, ◌+◌, ◌-◌, ◌⊎◌, ◌&&◌, Bool, true, false, nat_le, nat_lt, if◌then◌else◌, List, [], ◌∷◌, ◌++◌, Option, Some, None, length, filter, map, slice_index, slice_index_or, Contains}
use Rattle.term_spec.specs.Terms.{TermReading, InRange, HasWidth, term_word}
use Rattle.walk_spec.specs.Unrolled.{ByteRun, byte_of_runs, is_in}
use Rattle.term_dag.specs.declared.nodes.Term.{Term}
use Rattle.question_form.specs.Views.{kept_of}
use Rattle.mem_cells.specs.declared.building.Build.{Build}
use Rattle.mem_cells.specs.declared.cells.AskedByte.{AskedByte}
use Rattle.mem_cells.specs.declared.file_bytes.FileByte.{FileByte}
use Rattle.mem_cells.specs.Building.{read_places}
use Rattle.mem_cells.specs.Parts.{is_read}
use Rattle.mem_cells.specs.Ties.{address_of}

-- the byte that a run has at an address
abbrev pub byte_of_run : ByteRun → ℕ → Option ℕ
byte_of_run r a = if nat_le r.at a && nat_lt a (r.at + r.count) then Some (slice_index r.bytes (a - r.at)) else None

-- a byte of the file at an address, and whether it is asked of the head's memory too
abbrev pub file_byte : (heads : ℕ → Bool) → (at byte : ℕ) → FileByte
file_byte heads a b = record { at = a; byte = b; head = heads a }

-- one more byte, if there is one at an address
abbrev pub and_byte : List FileByte → (at : ℕ) → (head : Bool) → Option ℕ → List FileByte
and_byte bytes a h None = bytes
and_byte bytes a h (Some b) = bytes ++ record { at = a; byte = b; head = h } ∷ []

-- the byte of the file at a place of a list
abbrev pub file_byte_at : List FileByte → ℕ → FileByte
file_byte_at bytes k = slice_index_or bytes k (record { at = 0; byte = 0; head = false })

-- bytes of runs at addresses of some: each is, and all are; of the head's memory those at some addresses are asked
pub record AreFileBytes (runs : List ByteRun) (asked : ℕ → Type 0) (heads : ℕ → Bool) (bytes : List FileByte) : Type 0 where
  pub sound : (f : FileByte) → Contains bytes f → asked f.at × (byte_of_runs runs f.at ≡ Some f.byte) × (f.head ≡ heads f.at)
  pub complete : (a b : ℕ) → asked a → byte_of_runs runs a ≡ Some b → Contains bytes (file_byte heads a b)

-- the byte at an address is asked of the head's memory: it has the kept bytes, if the question is of heads
abbrev pub head_asks : (of_heads : Bool) → (kept : List (ℕ × ℕ)) → ℕ → Bool
head_asks of_heads kept a = of_heads && is_in (map kept_of kept) a

-- a byte is asked of a part's memory
abbrev pub is_of_part : FileByte → (part : ℕ) → Bool
is_of_part f zero = true
is_of_part f (suc zero) = f.head
is_of_part f (suc (suc p)) = false

-- of these parts' memories a byte is asked
abbrev pub parts_asked : List ℕ → FileByte → List ℕ
parts_asked r f = filter (is_of_part f) r

-- what is asked of a read
abbrev pub asked : Term → (part read byte : ℕ) → AskedByte
asked t p j b = record { condition = t; part = p; read = j; byte = b }

-- what is asked of the reads of parts at the address of a number
abbrev pub asked_of_parts : List ℕ → Term → (read byte : ℕ) → List AskedByte
asked_of_parts r t j b = map (λ p. asked t p j b) r

-- the reads have bytes where it is said
abbrev pub HaveBytes : Build → TermReading → List AskedByte → (base : (part : ℕ) → ℕ → ℕ) → Type 0
HaveBytes b x xs base = (a : AskedByte) → Contains xs a → term_word x b.dag a.condition.0 ≡ 1 → base a.part a.read ≡ a.byte

-- a byte of the file that is asked of a part's memory
pub record IsByteFor (bytes : List FileByte) (part byte : ℕ) (f : FileByte) : Type 0 where
  pub inside : Contains bytes f
  pub of : is_of_part f part ≡ true
  pub has : f.byte ≡ byte

-- What is said of reads and bytes of the file: it is over these; where it says that a read is at the address of a byte, it is; and it says so of each pair of
-- some, for each part that is read there and has the byte.
pub record AreAsked (b : Build) (parts : List (List ℕ)) (bytes : List FileByte) (xs : List AskedByte) (pairs : ℕ → FileByte → Type 0) : Type 0 where
  pub formed : (a : AskedByte) → Contains xs a → HasWidth b.dag 1 a.condition.0 × (a.read < length (read_places b)) ×
      ((f : FileByte) × IsByteFor bytes a.part a.byte f)
  pub read : (a : AskedByte) → Contains xs a → is_read parts a.part a.read ≡ true
  pub sound : (x : TermReading) → InRange x → (a : AskedByte) → Contains xs a → term_word x b.dag a.condition.0 ≡ 1 →
      (f : FileByte) × IsByteFor bytes a.part a.byte f × (address_of b x a.read ≡ f.at)
  pub complete : (x : TermReading) → InRange x → (base : ℕ → ℕ → ℕ) → HaveBytes b x xs base → (p j : ℕ) (f : FileByte) → pairs j f → is_read parts p j ≡ true →
      is_of_part f p ≡ true → address_of b x j ≡ f.at → base p j ≡ f.byte

-- the pairs of each read with each of some bytes
abbrev pub AskedOf : (reads : ℕ) → List FileByte → ℕ → FileByte → Type 0
AskedOf n bytes j f = (j < n) × Contains bytes f

-- these, and those of the first reads with one byte more
abbrev pub AskedTo : (reads : ℕ) → List FileByte → FileByte → (read : ℕ) → ℕ → FileByte → Type 0
AskedTo n bytes now read j f = AskedOf n bytes j f ⊎ ((f ≡ now) × (j < read))
