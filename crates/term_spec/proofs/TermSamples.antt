-- One load after one store: its terms, its cells, and their values.
use Rattle.std.proofs.Common.{◌≡◌, refl, arith, ℕ, ◌≤◌, [], ◌∷◌, List, true}
use Rattle.std.specs.Prelude.{◌==◌, if◌then◌else◌}
use Rattle.word_spec.specs.Memory.{Little, Big}
use Rattle.machine_spec.specs.Bil.{Equal, SignedLess, Divide}
use Rattle.term_spec.specs.Terms.{TermReading, TermNode, RegisterNode, BaseNode, MemoryNode, ConstantNode, BinaryNode, SelectNode, ExtractNode, ExtendNode, LoadNode, StoreNode, values_from, term_word, AreTyped, term_gates, term_loads, term_stores, term_joins}

-- the low byte of x12 is stored at x10, and the byte at x11 is loaded
abbrev pub byte_after_byte : List TermNode
byte_after_byte =
    MemoryNode 0 ∷ RegisterNode 0 10 ∷ RegisterNode 0 11 ∷ RegisterNode 0 12 ∷ ExtractNode 7 0 3 ∷ StoreNode 1 Little 0 1 4 ∷ LoadNode 1 Little 5 2 ∷ []

-- the four bytes of x12 are stored at x10, the highest first, and the two at x11 are loaded
abbrev word_then_half : List TermNode
word_then_half = MemoryNode 0 ∷ RegisterNode 0 10 ∷ RegisterNode 0 11 ∷ RegisterNode 0 12 ∷ StoreNode 4 Big 0 1 3 ∷ LoadNode 2 Big 4 2 ∷ []

-- a reading with x10 = 0x100, another x11, x12 = 0x12345678; the byte of the entry memory at an address is the address's lowest
abbrev read_at : ℕ → TermReading
read_at a = record {
  regs = λ p n. if n == 10 then 0x100 else if n == 11 then a else if n == 12 then 0x12345678 else 0;
  flags = λ p f. 0;
  mem = λ p i. if i == 0x101 then 7 else if i == 0x104 then 9 else 0;
  choice = λ i. 0;
  base = λ p j. if j == 0 then 7 else 0;
}

-- at the same address the stored byte is loaded
pub same_address : term_word (read_at 0x100) byte_after_byte 6 ≡ 0x78
unfolding values_from
same_address = refl

-- at another one that of the entry memory
pub other_address : term_word (read_at 0x101) byte_after_byte 6 ≡ 7
unfolding values_from
other_address = refl

-- of a stored word the load has the bytes at its own addresses
pub inside_word : term_word (read_at 0x101) word_then_half 5 ≡ 0x3456
unfolding values_from
inside_word = refl

-- and behind its end those of the entry memory
pub across_end : term_word (read_at 0x103) word_then_half 5 ≡ 0x7809
unfolding values_from
across_end = refl

-- an address wraps
abbrev at_end : TermReading
at_end = record (read_at 0) { regs = λ p n. if n == 10 then 0xFFFFFFFF else if n == 12 then 0x12345678 else 0 }

pub wraps : term_word at_end word_then_half 5 ≡ 0x3456
unfolding values_from
wraps = refl

-- the terms are typed
pub byte_typed : AreTyped byte_after_byte
byte_typed = (
  tt,
  (
    tt,
    (
      tt,
      (
        tt,
        (
          (omega arith, omega arith, omega arith),
          ((one, (omega arith, refl), (omega arith, refl), (omega arith, refl)), ((one, (omega arith, refl), (omega arith, refl)), tt)),
        ),
      ),
    ),
  ),
)
  where
    one : (1 ≤ 1) × (1 ≤ 8)
    one = (omega arith, omega arith)

-- their costs
pub byte_costs : (term_gates byte_after_byte ≡ 0) × (term_loads byte_after_byte ≡ 1) × (term_stores byte_after_byte ≡ 1) × (term_joins byte_after_byte ≡ 0)
byte_costs = (refl, refl, refl, refl)

-- the cells of the load: an equality, a base read, a selection
abbrev pub byte_cells : List TermNode
byte_cells = RegisterNode 0 10 ∷ RegisterNode 0 11 ∷ RegisterNode 0 12 ∷ ExtractNode 7 0 2 ∷ BaseNode 0 0 ∷ BinaryNode Equal 32 0 1 ∷ SelectNode 8 5 3 4 ∷ []

-- they have its values, and 40 gates
pub cells_same : (term_word (read_at 0x100) byte_cells 6 ≡ 0x78) × (term_word (read_at 0x101) byte_cells 6 ≡ 7) × (term_gates byte_cells ≡ 40)
unfolding values_from
cells_same = (refl, refl, refl)

-- operators are those of lifted code: a signed comparison has one bit, a division by zero gives all ones, an extension has the sign
pub operators :
    (term_word (read_at 5) (ConstantNode 8 0x80 ∷ ConstantNode 8 1 ∷ BinaryNode SignedLess 8 0 1 ∷ []) 2 ≡ 1)
    × (term_word (read_at 5) (RegisterNode 0 11 ∷ ConstantNode 32 0 ∷ BinaryNode Divide 32 0 1 ∷ []) 2 ≡ 0xFFFFFFFF)
    × (term_word (read_at 5) (ConstantNode 8 0x80 ∷ ExtendNode true 8 32 0 ∷ []) 1 ≡ 0xFFFFFF80)
    × (term_word (read_at 5) (ConstantNode 1 0 ∷ RegisterNode 0 10 ∷ RegisterNode 0 11 ∷ SelectNode 32 0 1 2 ∷ []) 3 ≡ 5)
unfolding values_from
operators = (refl, refl, refl, refl)
