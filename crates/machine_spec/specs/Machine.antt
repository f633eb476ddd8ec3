-- A machine as a table of rows, one for each instruction.
use Rattle.std.specs.Prelude.{ℕ, ◌≡◌, ◌-◌, ◌%◌, ◌^◌, Bool, true, false, List, [], ◌∷◌, Option, Some, None, ◌==◌, ◌&&◌, not, if◌then◌else◌}
use Rattle.word_spec.specs.Words.{add, sub}
use Rattle.word_spec.specs.Memory.{Endian, span}
use Rattle.word_spec.specs.State.{State}

-- How a row goes on: to the next address, by a jump to an address that the row names, or by one to an address that the state gives. A call keeps the address
-- behind it in a link register.
pub data How : Type 0 where
  On : How
  Direct : How
  DirectCall : How
  Indirect : How
  IndirectCall : How

-- what a row raises in place of going on: the traps ECALL, EBREAK and SWI, an odd address of a halfword, an unaligned address of a load to the program counter
pub data Exception : Type 0 where
  EnvironmentCall : Exception
  Breakpoint : Exception
  SoftwareInterrupt : Exception
  OddHalfword : Exception
  UnalignedLoad : Exception

-- the numbers of the exceptions in lifted code
abbrev pub exception_number : Exception → ℕ
exception_number EnvironmentCall = 1
exception_number Breakpoint = 2
exception_number SoftwareInterrupt = 3
exception_number OddHalfword = 4
exception_number UnalignedLoad = 5

-- what a row does in a state: it goes on in a new state, or raises an exception
pub data Outcome : Type 0 where
  Goes : How → State → Outcome
  Raises : Exception → Outcome

-- The static successors of a row that stands at an address: whether it can go on to the next address, the target of its direct jump, whether it can jump to
-- an address that the state gives, and whether its jump is a call.
pub record Successors : Type 0 where
  pub next : Bool
  pub direct : Option ℕ
  pub indirect : Bool
  pub call : Bool

-- the unit of the addresses at which rows stand: 2 where some rows have 2 bytes, and else 4, as all rows then have
abbrev pub unit : (narrow : Bool) → ℕ
unit true = 2
unit false = 4

-- a row can stand at the address, which is a multiple of the unit: as a test, and as a fact
abbrev pub is_place : (narrow : Bool) → ℕ → Bool
is_place narrow a = a % unit narrow == 0

abbrev pub IsAtPlace : (narrow : Bool) → ℕ → Type 0
IsAtPlace narrow a = a % unit narrow ≡ 0

-- How many bytes the row has that begins with a halfword: 2 where some rows have 2 bytes and the low two bits are not 11, and else 4 (RISC-V Unprivileged ISA
-- 20191213, section 1.5).
abbrev pub width : (narrow : Bool) → ℕ → ℕ
width narrow first = if narrow && not (first % 4 == 3) then 2 else 4

-- the first halfword of a word, of a machine with rows of 2 bytes, which has the lowest byte first
abbrev pub first_half : ℕ → ℕ
first_half w = w % 2 ^ 16

-- what is decoded of the four bytes at an address: the word, or its first halfword alone
abbrev pub taken : (narrow : Bool) → ℕ → ℕ
taken narrow w = if width narrow (first_half w) == 2 then first_half w else w

-- the offsets of the bytes of a row of 2 or 4 bytes
abbrev pub offsets : (bytes : ℕ) → List ℕ
offsets bytes = 0 ∷ 1 ∷ (if bytes == 2 then [] else 2 ∷ 3 ∷ [])

-- a row that only goes on
abbrev pub only_next : ℕ → Successors
only_next at = record { next = true; direct = None; indirect = false; call = false }

-- the price of a row's point, and its byte loads and stores
pub record Cost : Type 0 where
  pub row : ℕ
  pub loads : ℕ
  pub stores : ℕ

-- the flags that a row reads, those that it may assign, and those that it assigns whatever the state is
pub record FlagUse : Type 0 where
  pub reads : ℕ → Bool
  pub assigns : ℕ → Bool
  pub surely : ℕ → Bool

-- a row that uses no flag
abbrev pub no_flags : FlagUse
no_flags = record { reads = λ f. false; assigns = λ f. false; surely = λ f. false }

-- a register and a number that is added to it
pub record Offset : Type 0 where
  pub register : ℕ
  pub number : ℕ

-- A row, its fields filled in. length: its bytes. effect: what it does in a state under a choice. stored: the first address and the number of the bytes that
-- it stores in a state. successors: for the address at which it stands. literal: the address of the literal that it loads, for the address at which it stands.
-- draws: it reads the choice. adds_pc: the register that it sets to its own address and a number. jumps_to: the register and the number that give its target.
-- links: where it calls, it keeps the address after it in the machine's link register. loaded: the first address and the number of the bytes that it loads in a
-- state.
pub record Row : Type 0 where
  pub length : ℕ
  pub effect : State → ℕ → Outcome
  pub stored : State → Option (ℕ × ℕ)
  pub successors : ℕ → Successors
  pub literal : ℕ → Option ℕ
  pub cost : Cost
  pub flags : FlagUse
  pub draws : Bool
  pub adds_pc : Option Offset
  pub jumps_to : Option Offset
  pub links : Bool
  pub loaded : State → Option (ℕ × ℕ)

-- A machine: its byte order, its link register, the registers and flags that it has, whether some of its rows have 2 bytes, and the row of a word of 32 bits. A
-- row of 2 bytes is that of the word whose low half they are and whose upper half is 0.
pub record Machine : Type 0 where
  pub endian : Endian
  pub link : ℕ
  pub has_register : ℕ → Bool
  pub has_flag : ℕ → Bool
  pub narrow : Bool
  pub row : ℕ → Option Row

-- the addresses of the bytes that are loaded or stored
abbrev pub addresses : Option (ℕ × ℕ) → List ℕ
addresses None = []
addresses (Some bytes) = span bytes.0 bytes.1

-- how many bytes are loaded or stored
abbrev pub byte_count : Option (ℕ × ℕ) → ℕ
byte_count None = 0
byte_count (Some bytes) = bytes.1

-- a number with its lowest bit cleared
abbrev pub even : ℕ → ℕ
even a = a - a % 2

-- The pair target of two rows, the second at an address and the first 4 bytes before it: the first sets the register through which the second jumps.
abbrev pub pair_by : Option Offset → Option Offset → ℕ → Option ℕ
pair_by (Some x) (Some y) at = if x.register == y.register then Some (even (add 32 (add 32 (sub 32 at 4) x.number) y.number)) else None
pair_by (Some x) None at = None
pair_by None y at = None

-- the pair target of the rows of two words
abbrev pub pair_of : Option Row → Option Row → ℕ → Option ℕ
pair_of (Some first) (Some second) at = pair_by first.adds_pc second.jumps_to at
pair_of (Some first) None at = None
pair_of None second at = None
