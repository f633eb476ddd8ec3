-- Clauses of cells of frames: which variables are the inputs, and what the clauses say.
use Rattle.std.specs.Prelude.{ℕ, zero, suc, ◌≡◌, ◌≤◌, ◌+◌, Bool, true, false, ◌==◌, nat_eq, List, [], ◌++◌, Some, length, map, filter, slice_get}
use Rattle.std.specs.List.{list_any, flat_map}
use Rattle.word_spec.specs.Words.{bit_at}
use Rattle.word_spec.specs.RowFiles.{from_to}
use Rattle.clause_spec.specs.Clauses.{Cnf, ExtendsOnceWhere}
use Rattle.frame_spec.specs.FrameQuestions.{Part, EntryPart, HeadPart, GivenPart, Input, OfRegister, OfFlag, OfChoice, OfByte}
use Rattle.frame_spec.specs.FrameWalk.{Action, Executes, Arrives, StepsOver, UnrolledProgram, point_at}
use Rattle.term_spec.specs.Terms.{TermReading, InRange, term_word, term_gates}
use Rattle.frame_terms.specs.PassiveFrames.{entry_part, head_part, gift_part}
use Rattle.frame_terms.specs.FrameCells.{Cells, IsAllowed}

-- A bit of a reading of terms: of a register or a flag of a part, of the choice of a place, or of the byte of a base read.
pub data PartInput : Type 0 where
  RegisterBit : (part register bit : ℕ) → PartInput
  FlagBit : (part flag : ℕ) → PartInput
  ChoiceBit : (place bit : ℕ) → PartInput
  ByteBit : (part read bit : ℕ) → PartInput

-- the value of a bit
abbrev pub bit_of : TermReading → PartInput → ℕ
bit_of x (RegisterBit part n i) = bit_at i (x.regs part n)
bit_of x (FlagBit part f) = x.flags part f
bit_of x (ChoiceBit place i) = bit_at i (x.choice place)
bit_of x (ByteBit part read i) = bit_at i (x.base part read)

-- the part and the bit of a reading of the frame, which go by points in the place of places
abbrev pub part_named : UnrolledProgram → (part : ℕ) → Part
part_named u zero = EntryPart
part_named u (suc zero) = HeadPart
part_named u (suc (suc i)) = GivenPart (point_at u i).point

abbrev pub named : UnrolledProgram → PartInput → Input
named u (RegisterBit part n i) = OfRegister (part_named u part) n i
named u (FlagBit part f) = OfFlag (part_named u part) f
named u (ChoiceBit place i) = OfChoice (point_at u place).point i
named u (ByteBit part read i) = OfByte (part_named u part) read i

-- The inputs are the first variables: registers and flags of the entry, and of the head where the frame has one; the choices that are drawn, in the order of
-- their places; registers and flags of gifts, in the order of theirs; and the bytes of the base reads. Each has its lowest bit first, and they count from 0, so
-- that input i is variable i + 1.
abbrev pub register_bits : (part : ℕ) → List ℕ → List PartInput
register_bits part names = flat_map (λ n. map (RegisterBit part n) (from_to 0 32)) names

abbrev pub flag_bits : (part : ℕ) → List ℕ → List PartInput
flag_bits part names = map (FlagBit part) names

abbrev pub head_bits : UnrolledProgram → (heads : Bool) → List PartInput
head_bits u true = register_bits head_part u.registers ++ flag_bits head_part (from_to 0 u.flags)
head_bits u false = []

-- the places that draw
abbrev pub drawn_places : UnrolledProgram → List ℕ
drawn_places u = filter (λ i. (point_at u i).draws) (from_to 0 (length u.points))

-- what a gift has: the registers and flags that its contract may change, in the frame's order
abbrev pub gift_bits : UnrolledProgram → (place : ℕ) → Action → List PartInput
gift_bits u i (Executes list) = []
gift_bits u i Arrives = []
gift_bits u i (StepsOver x) =
    register_bits (gift_part i) (filter (λ r. list_any (nat_eq r) x.registers) u.registers)
    ++ flag_bits (gift_part i) (filter (λ f. list_any (nat_eq f) x.flags) (from_to 0 u.flags))

abbrev pub input_list : UnrolledProgram → (heads : Bool) → Cells → List PartInput
input_list u heads c =
    register_bits entry_part u.registers
    ++ (flag_bits entry_part (from_to 0 u.flags)
    ++ (head_bits u heads
    ++ (flat_map (λ i. map (ChoiceBit i) (from_to 0 2)) (drawn_places u)
    ++ (flat_map (λ i. gift_bits u i (point_at u i).does) (from_to 0 (length u.points))
    ++ flat_map (λ b. map (ByteBit b.part b.address) (from_to 0 8)) c.reads))))

-- the first variables of a valuation are these bits of a reading
abbrev pub HasBits : List PartInput → (ℕ → Bool) → TermReading → Type 0
HasBits inputs v x = (i : ℕ) (y : PartInput) → slice_get inputs i ≡ Some y → v (i + 1) ≡ (bit_of x y == 1)

-- A valuation makes the cells true: it has the bits of a reading under which what is said of the base reads is true, and so is the question. What is no input
-- of the reading is free, since no node names it.
pub record MakesTrue (u : UnrolledProgram) (heads : Bool) (c : Cells) (v : ℕ → Bool) : Type 0 where
  pub reading : TermReading
  pub in_range : InRange reading
  pub bits : HasBits (input_list u heads c) v reading
  pub allowed : IsAllowed c reading
  pub root : term_word reading c.nodes c.root ≡ 1

-- Clauses tell cells: a valuation of the inputs extends in at most one way, and exactly where it makes the question true. Besides the inputs there is a
-- variable for each gate, and one more.
pub record TellsClauses (u : UnrolledProgram) (heads : Bool) (c : Cells) (cnf : Cnf) : Type 0 where
  pub extends : ExtendsOnceWhere (length (input_list u heads c)) cnf (MakesTrue u heads c)
  pub all : length (input_list u heads c) ≤ cnf.variables
  pub few : cnf.variables ≤ length (input_list u heads c) + 1 + term_gates c.nodes
