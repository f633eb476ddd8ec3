-- Where inputs stand, the bits that stand for them, and the readings that give them the numbers of their variables.
use Rattle.std.specs.Prelude.{ℕ, zero, suc, ◌≡◌, ◌≤◌, ◌<◌, ◌+◌, ◌-◌, ◌*◌, ◌==◌, Bool, true, if◌then◌else◌, Option, Some, None, List, [], ◌∷◌, map, length, slice_index_or}
use Rattle.std.specs.Global.{Vec}
use Rattle.clause_spec.specs.Clauses.{valuation}
use Rattle.term_spec.specs.Terms.{TermReading, TermNode, RegisterNode, FlagNode, ChoiceNode, BaseNode}
use Rattle.gates.specs.declared.bit.Bit.{Bit}
use Rattle.gates.specs.Circuits.{bit_value}
use Rattle.word_gates.specs.Numbers.{input_number}
use Rattle.bit_blast.specs.declared.input_places.InputPlaces.{InputPlaces}
use Rattle.bit_blast.specs.declared.input_places.PartRead.{PartRead}

-- each kind of input begins where the one before it ends
pub record AreInOrder (p : InputPlaces) : Type 0 where
  pub flag : p.first_flag ≡ 32 * p.registers
  pub head : p.first_head ≡ p.first_flag + p.flags
  pub choice : p.first_choice ≡ p.first_head + (if p.heads then p.first_head else 0)
  pub gift : p.first_gift ≡ p.first_choice + 2 * p.choices
  pub byte : p.first_gift ≤ p.first_byte
  pub all : p.inputs ≡ p.first_byte + 8 * p.reads

-- the number of a choice among those that are drawn
abbrev pub IsDrawn : InputPlaces → (place choice : ℕ) → Type 0
IsDrawn p i k = (i < length p.drawn.items) × (slice_index_or p.drawn.items i None ≡ Some k) × (k < p.choices)

-- all registers and flags of a part have places: those of the entry, and of the head, where there is one
abbrev pub HasPart : InputPlaces → (part : ℕ) → Type 0
HasPart p zero = Unit {0}
HasPart p (suc zero) = p.heads ≡ true
HasPart p (suc (suc i)) = ⊥

-- the first input of a part's registers, before which there are as many as before those of the entry's
abbrev pub first_of : InputPlaces → (part : ℕ) → ℕ
first_of p zero = 0
first_of p (suc i) = p.first_head

-- lists as they are
abbrev pub lists_of : {X : Type 0} → List (Vec X) → List (List X)
lists_of lists = map (λ v. v.items) lists

-- the first input of a register that is given at the point of a place, and the input of a flag
abbrev pub gift_register : InputPlaces → (place number : ℕ) → Option ℕ
gift_register p i n = slice_index_or (slice_index_or (lists_of p.gift_registers.items) i []) n None

abbrev pub gift_flag : InputPlaces → (place number : ℕ) → Option ℕ
gift_flag p i f = slice_index_or (slice_index_or (lists_of p.gift_flags.items) i []) f None

-- they are before the bytes of the base reads
abbrev pub IsGivenRegister : InputPlaces → (place number first : ℕ) → Type 0
IsGivenRegister p i n k = (gift_register p i n ≡ Some k) × (k + 32 ≤ p.first_byte)

abbrev pub IsGivenFlag : InputPlaces → (place number input : ℕ) → Type 0
IsGivenFlag p i f k = (gift_flag p i f ≡ Some k) × (k + 1 ≤ p.first_byte)

-- the number of the first base read of a part among some
abbrev pub number_in : (part : ℕ) → List PartRead → Option ℕ
number_in part [] = None
number_in part (r ∷ rs) = if r.part == part then Some r.number else number_in part rs

-- for the number of each address that of a part's base read there
abbrev pub reads_of : InputPlaces → (part : ℕ) → List (Option ℕ)
reads_of p part = map (number_in part) (lists_of p.part_reads.items)

-- the number of a base read
abbrev pub IsRead : InputPlaces → (part address read : ℕ) → Type 0
IsRead p part j k = (slice_index_or (reads_of p part) j None ≡ Some k) × (k < p.reads)

-- there is a base read of the part at the address
abbrev pub HasRead : InputPlaces → (part address : ℕ) → Type 0
HasRead p part j = (k : ℕ) × IsRead p part j k

-- a register and a flag of a part have places
abbrev pub HasRegister : InputPlaces → (part number : ℕ) → Type 0
HasRegister p zero n = (p.first_register ≤ n) × (n < p.first_register + p.registers)
HasRegister p (suc zero) n = (p.heads ≡ true) × (p.first_register ≤ n) × (n < p.first_register + p.registers)
HasRegister p (suc (suc i)) n = (k : ℕ) × IsGivenRegister p i n k

abbrev pub HasFlag : InputPlaces → (part number : ℕ) → Type 0
HasFlag p zero f = f < p.flags
HasFlag p (suc zero) f = (p.heads ≡ true) × (f < p.flags)
HasFlag p (suc (suc i)) f = (k : ℕ) × IsGivenFlag p i f k

-- the node names no input but those that have places
abbrev pub IsNamed : InputPlaces → TermNode → Type 0
IsNamed p (RegisterNode part n) = HasRegister p part n
IsNamed p (FlagNode part f) = HasFlag p part f
IsNamed p (ChoiceNode i) = (k : ℕ) × IsDrawn p i k
IsNamed p (BaseNode part j) = HasRead p part j
IsNamed p n = Unit {0}

-- the truth of bits
abbrev pub truths : (ℕ → Bool) → List Bit → List Bool
truths v bits = map (bit_value v) bits

-- the valuation of inputs, where a bit stands for each
abbrev pub seen : List Bit → (ℕ → Bool) → ℕ → Bool
seen bits v = valuation (truths v bits)

-- the reading gives each input the number that its variables have under a valuation
pub record IsReadingAt (p : InputPlaces) (v : ℕ → Bool) (x : TermReading) : Type 0 where
  pub registers : (part n : ℕ) → HasPart p part → p.first_register ≤ n → n < p.first_register + p.registers →
      x.regs part n ≡ input_number v (first_of p part + 32 * (n - p.first_register)) 32
  pub flags : (part f : ℕ) → HasPart p part → f < p.flags → x.flags part f ≡ input_number v (first_of p part + p.first_flag + f) 1
  pub gift_registers : (i n k : ℕ) → IsGivenRegister p i n k → x.regs (suc (suc i)) n ≡ input_number v k 32
  pub gift_flags : (i f k : ℕ) → IsGivenFlag p i f k → x.flags (suc (suc i)) f ≡ input_number v k 1
  pub choices : (i k : ℕ) → IsDrawn p i k → x.choice i ≡ input_number v (p.first_choice + 2 * k) 2
  pub bytes : (part j k : ℕ) → IsRead p part j k → x.base part j ≡ input_number v (p.first_byte + 8 * k) 8
