-- Clauses of cells: which variables are the inputs, the reading of a valuation, what the clauses say, and the start that a valuation gives.
use Rattle.std.specs.Prelude.{ℕ, zero, suc, ◌≡◌, ◌≤◌, ◌<◌, ◌+◌, ◌*◌, ◌^◌, Bool, ◌==◌, nat_lt, if◌then◌else◌, List, [], ◌∷◌, ◌++◌, Some, None, length, map, filter, All}
use Rattle.std.specs.List.{flat_map}
use Rattle.word_spec.specs.Words.{bit, bit_at, word}
use Rattle.word_spec.specs.Memory.{Memory, byte_in}
use Rattle.word_spec.specs.RowFiles.{from_to}
use Rattle.clause_spec.specs.Clauses.{Cnf, ExtendsOnceWhere}
use Rattle.bilv_spec.specs.Questions.{Reading}
use Rattle.word_spec.specs.State.{Written}
use Rattle.machine_spec.specs.StateText.{AreRising, known_or}
use Rattle.term_spec.specs.Terms.{TermReading, with_mem, term_word, term_gates}
use Rattle.walk_spec.specs.Unrolled.{Carried, UnrolledProgram, is_register_of, is_flag_of, byte_of_runs, point_at, WalkIsAt, walk}
use Rattle.term_spec.specs.Cells.{Cells, Gives, IsAllowed, read_address}
use Rattle.bilv_spec.specs.Evidence.{Input, OfRegister, OfFlag, OfChoice, OfByte}

-- The inputs are the first variables: the bits of the registers in their order, the flags, the choices that are drawn in the order of their places, and the
-- bytes of the base reads, each with its lowest bit first. They count from 0, so that input i is variable i + 1.

-- how many of the first places draw
abbrev pub drawn_below : UnrolledProgram → ℕ → ℕ
drawn_below u zero = 0
drawn_below u (suc i) = drawn_below u i + bit (point_at u i).draws

-- the first input of the flags
abbrev pub first_flag : UnrolledProgram → ℕ
first_flag u = 32 * length u.registers

-- the first input of the choices
abbrev pub first_choice : UnrolledProgram → ℕ
first_choice u = first_flag u + u.flags

-- the first input of the bytes
abbrev pub first_byte : UnrolledProgram → ℕ
first_byte u = first_choice u + 2 * drawn_below u (length u.points)

-- how many inputs there are
abbrev pub inputs : UnrolledProgram → Cells → ℕ
inputs u c = first_byte u + 8 * length c.addresses

-- the places that draw
abbrev pub drawn_places : UnrolledProgram → List ℕ
drawn_places u = filter (λ i. (point_at u i).draws) (from_to 0 (length u.points))

-- the inputs by name
abbrev pub input_list : UnrolledProgram → Cells → List Input
input_list u c =
    flat_map (λ n. map (OfRegister n) (from_to 0 32)) u.registers
    ++ (map OfFlag (from_to 0 u.flags)
    ++ (flat_map (λ i. map (OfChoice (point_at u i).point) (from_to 0 2)) (drawn_places u)
    ++ flat_map (λ j. map (OfByte j) (from_to 0 8)) (from_to 0 (length c.addresses))))

-- the number of so many inputs from one on, the lowest bit first
abbrev pub bits_from : (ℕ → Bool) → (first count : ℕ) → ℕ
bits_from v i zero = 0
bits_from v i (suc n) = bits_from v i n + bit (v (i + n + 1)) * 2 ^ n

-- the place of a number in a list
abbrev pub place_in : List ℕ → ℕ → ℕ
place_in [] n = 0
place_in (r ∷ rs) n = if r == n then 0 else place_in rs n + 1

-- The reading of a valuation. What is no input is 0; the memory is that of no reading, since cells do not read it.
abbrev pub reading : UnrolledProgram → Cells → (ℕ → Bool) → TermReading
reading u c v = record {
  regs = λ p n. if is_register_of u n then bits_from v (32 * place_in u.registers n) 32 else 0;
  flags = λ p f. if is_flag_of u f then bits_from v (first_flag u + f) 1 else 0;
  mem = λ p a. 0;
  choice = λ i. if (point_at u i).draws then bits_from v (first_choice u + 2 * drawn_below u i) 2 else 0;
  base = λ p j. if nat_lt j (length c.addresses) then bits_from v (first_byte u + 8 * j) 8 else 0;
}

-- under the valuation what is said of the base reads is true, and so is the question
abbrev pub MakesTrue : UnrolledProgram → Cells → (ℕ → Bool) → Type 0
MakesTrue u c v = IsAllowed c (reading u c v) × (term_word (reading u c v) c.nodes c.root ≡ 1)

-- Clauses tell cells: a valuation of the inputs extends in at most one way, and exactly where it makes the question true. Besides the inputs there is a
-- variable for each gate, and one more.
pub record TellsClauses (u : UnrolledProgram) (c : Cells) (cnf : Cnf) : Type 0 where
  pub extends : ExtendsOnceWhere (inputs u c) cnf (MakesTrue u c)
  pub all : inputs u c ≤ cnf.variables
  pub few : cnf.variables ≤ inputs u c + 1 + term_gates c.nodes

-- a base read has another byte than the one that is known at its address
abbrev pub IsBroken : UnrolledProgram → Cells → TermReading → (at : ℕ) → Type 0
IsBroken u c x a = (j b : ℕ) × (j < length c.addresses) × (read_address c x j ≡ a) × (byte_of_runs u.known a ≡ Some b) × ¬ (x.base 0 j ≡ b)

-- the memory of a written start: the known bytes, those that are written, and 0. It wraps its addresses.
abbrev pub start_memory : UnrolledProgram → Written → Memory
start_memory u w a = known_or (byte_of_runs u.known (word 32 a)) w.bytes a

-- the reading of a start that is written from a valuation
pub record IsReadingOf (u : UnrolledProgram) (c : Cells) (v : ℕ → Bool) (w : Written) (r : Reading) : Type 0 where
  pub pc : r.state.pc ≡ u.entry
  pub regs : r.state.regs ≡ (reading u c v).regs 0
  pub flags : r.state.flags ≡ (reading u c v).flags 0
  pub mem : r.state.mem ≡ start_memory u w
  pub choice : (i : ℕ) → i < length u.points → r.choice (point_at u i).point ≡ (reading u c v).choice i

-- The start is that of a valuation: it has its registers and flags; over the known bytes its memory gives each base read its byte; where the walk is at a
-- place after some points, it has at that step the choice of the place. It can be written: bytes that are not 0 at unknown addresses, and choices that are
-- not 0, at steps below the number of points, both in rising order.
pub record IsStartOf (u : UnrolledProgram) (c : Cells) (v : ℕ → Bool) (w : Written) : Type 0 where
  pub regs : w.regs ≡ map ((reading u c v).regs 0) u.registers
  pub flags : (f : ℕ) → f < u.flags → bit_at f w.flags ≡ (reading u c v).flags 0 f
  pub flags_fit : w.flags < 2 ^ u.flags
  pub bytes : All (λ b. (b.0 < 2 ^ 32) × (1 ≤ b.1) × (b.1 ≤ 255)) w.bytes
  pub bytes_rise : AreRising w.bytes
  pub unknown : All (λ b. byte_of_runs u.known b.0 ≡ None) w.bytes
  pub gives : Gives c (with_mem (reading u c v) (start_memory u w))
  pub choices : All (λ x. (x.0 < length u.points) × (1 ≤ x.1) × (x.1 ≤ 3)) w.choices
  pub choices_rise : AreRising w.choices
  pub follows : (r : Reading) → IsReadingOf u c v w r → (step i : ℕ) (d : Carried) → walk u r step ≡ WalkIsAt i d →
      byte_in w.choices step ≡ (reading u c v).choice i
