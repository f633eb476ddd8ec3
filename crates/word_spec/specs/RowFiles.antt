-- Row files: an ELF32 executable with one readable and executable segment of words at 0x10000 (System V ABI, ELF header and program header).
use Rattle.std.specs.Prelude.{ℕ, zero, suc, ◌+◌, ◌*◌, List, [], ◌∷◌, ◌++◌, length, map}
use Rattle.std.specs.List.{flat_map}
use Rattle.word_spec.specs.Memory.{Endian, Little, Big, byte_of}

-- n, then the numbers up from it, of which there are so many
abbrev pub from_to : ℕ → ℕ → List ℕ
from_to n zero = []
from_to n (suc count) = n ∷ from_to (n + 1) count

-- the n bytes of a number
abbrev pub bytes_of : Endian → ℕ → ℕ → List ℕ
bytes_of e n v = map (byte_of e n v) (from_to 0 n)

-- e_ident's byte of the byte order
abbrev pub data_code : Endian → ℕ
data_code Little = 1
data_code Big = 2

-- the headers: the identification, the ELF header, the program header
abbrev pub headers : Endian → (machine size : ℕ) → List ℕ
headers e machine size =
    (0x7f ∷ 0x45 ∷ 0x4c ∷ 0x46 ∷ 1 ∷ data_code e ∷ 1 ∷ 0 ∷ 0 ∷ 0 ∷ 0 ∷ 0 ∷ 0 ∷ 0 ∷ 0 ∷ 0 ∷ [])
    ++ flat_map (bytes_of e 2) (2 ∷ machine ∷ []) ++ flat_map (bytes_of e 4) (1 ∷ 0x10000 ∷ 52 ∷ 0 ∷ 0 ∷ [])
    ++ flat_map (bytes_of e 2) (52 ∷ 32 ∷ 1 ∷ 0 ∷ 0 ∷ 0 ∷ [])
    ++ flat_map (bytes_of e 4) (1 ∷ 84 ∷ 0x10000 ∷ 0x10000 ∷ size ∷ size ∷ 5 ∷ 4 ∷ [])

-- the headers and the words
abbrev pub row_file : Endian → ℕ → List ℕ → List ℕ
row_file e machine words = headers e machine (4 * length words) ++ flat_map (bytes_of e 4) words

-- for RISC-V, and for ARM in both byte orders
abbrev pub rv_file : List ℕ → List ℕ
rv_file words = row_file Little 243 words

-- for ARM
abbrev pub arm_file : List ℕ → List ℕ
arm_file words = row_file Little 40 words

-- for ARM with the highest byte first
abbrev pub arm_big_file : List ℕ → List ℕ
arm_big_file words = row_file Big 40 words
