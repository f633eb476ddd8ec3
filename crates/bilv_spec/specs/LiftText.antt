-- The text of a file's lifted words.
use Rattle.std.specs.Prelude.{ℕ, ◌≡◌, ◌<◌, ◌+◌, ◌-◌, ◌&&◌, Bool, true, false, nat_lt, ◌↔◌, ◌^◌, List, [], ◌∷◌, ◌++◌, Option, Some, None, codes, length, slice_index, Contains, find}
use Rattle.std.specs.List.{list_all, flat_map}
use Rattle.word_spec.specs.Memory.{number}
use Rattle.machine_spec.specs.Machine.{Machine, Row, is_place, width, first_half, taken, offsets}
use Rattle.machine_spec.specs.MachineLaws.{IsLifting}
use Rattle.bilv_spec.specs.Elf.{Segment, Cell, segments, covers, loaded, executable}
use Rattle.call_spec.specs.Calls.{Options}
use Rattle.bilv_spec.specs.Files.{machine_of, is_rv}
use Rattle.machine_spec.specs.Bil.{Bank, XRegisters, RRegisters, Statements}
use Rattle.machine_spec.specs.BilText.{list_text}
use Rattle.word_spec.specs.Texts.{word_text, hex_digits, line}

-- the segment at an address is executable, and the file itself gives the byte there
abbrev pub is_given_by : ℕ → Option Segment → Bool
is_given_by a None = false
is_given_by a (Some s) = executable s.flags && nat_lt (a - s.address) s.in_file

-- the byte at an address is executable and given by the file
abbrev pub is_given : List ℕ → ℕ → Bool
is_given file a = is_given_by a (find (covers a) (segments file))

-- the byte that is loaded
abbrev pub byte_at : Option Cell → ℕ
byte_at None = 0
byte_at (Some c) = c.byte

-- what is decoded at an address, in the machine's byte order
abbrev pub word_in : Machine → List ℕ → ℕ → ℕ
word_in m file a = taken m.narrow (number m.endian 4 (λ i. byte_at (loaded file (a + i))))

-- the offsets of the bytes of the row that stands at an address
abbrev pub offsets_at : Machine → List ℕ → ℕ → List ℕ
offsets_at m file a = offsets (width m.narrow (first_half (word_in m file a)))

-- a row can stand at the address, and its bytes are executable and given by the file
abbrev pub is_word_at : Machine → List ℕ → ℕ → Bool
is_word_at m file a = is_place m.narrow a && list_all (λ i. is_given file (a + i)) (offsets_at m file a)

-- the address, and the bytes in the file's order
abbrev pub word_words : Machine → List ℕ → ℕ → List ℕ
word_words m file a = word_text a ++ 32 ∷ flat_map (λ i. hex_digits 2 (byte_at (loaded file (a + i)))) (offsets_at m file a)

-- the registers that the file's machine names
abbrev pub bank_by : Bool → Bank
bank_by true = XRegisters
bank_by false = RRegisters

-- what is printed for the word at an address: none where no row matches, and else a list that does what the row does, two blanks deep
abbrev pub IsWordText : Machine → Bank → List ℕ → ℕ → Option Row → List ℕ → Type 0
IsWordText m bank file a None text = text ≡ line (word_words m file a ++ codes " none")
IsWordText m bank file a (Some row) text =
    (list : Statements) × IsLifting m bank row a list × (text ≡ line (word_words m file a) ++ list_text 1 list)

-- the text of all words of a file, by rising addresses, for a machine and the names of its registers
pub record IsLiftTextBy (m : Machine) (bank : Bank) (file text : List ℕ) : Type 0 where
  pub words : List ℕ
  pub texts : ℕ → List ℕ
  pub all : (a : ℕ) → Contains words a ↔ ((a < 2 ^ 32) × (is_word_at m file a ≡ true))
  pub rising : (i j : ℕ) → i < j → j < length words → slice_index words i < slice_index words j
  pub each : (a : ℕ) → Contains words a → IsWordText m bank file a (m.row (word_in m file a)) (texts a)
  pub text_is : text ≡ flat_map texts words

-- the text by the file's machine
abbrev pub IsLiftText : Options → List ℕ → List ℕ → Type 0
IsLiftText o file text = IsLiftTextBy (machine_of o file) (bank_by (is_rv file)) file text
