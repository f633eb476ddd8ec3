-- Evidence: clauses that are tied to a question, and proofs over them.
use Rattle.std.specs.Prelude.{true, false, ℕ, ◌≡◌, ◌≢◌, ◌≤◌, ◌<◌, ◌+◌, ◌^◌, ◌==◌, ◌++◌, Bool, List, Option, Some, None, length, map, filter, sum_by, slice_get, Contains}
use Rattle.std.specs.List.{flat_map}
use Rattle.word_spec.specs.Words.{bit_at}
use Rattle.word_spec.specs.State.{State}
use Rattle.machine_spec.specs.Machine.{Row}
use Rattle.bilv_spec.specs.Elf.{Cell}
use Rattle.clause_spec.specs.Clauses.{Cnf, ExtendsOnceWhere}
use Rattle.clause_spec.specs.Refutation.{IsRefutation, Proof}
use Rattle.clause_spec.specs.Empowering.{IsSpent}
use Rattle.bilv_spec.specs.Run.{Program}
use Rattle.bilv_spec.specs.Points.{Point, IsPoint, ArePoints, IsPrice, is_known_at, file_row, loads_at, evaluated, bytes_loaded}
use Rattle.bilv_spec.specs.Questions.{Reading, IsReading, IsTrueOver}
use Rattle.call_spec.specs.Calls.{Question, EntryQuestion, FailQuestion, TurnQuestion}
use Rattle.bilv_spec.specs.Verdict.{IsEntryState, IsStart, RunFails}

-- the byte loads of these points and of the notes: those that the price counts
abbrev pub loads_among : Program → List Point → ℕ
loads_among p points =
    sum_by (λ point. loads_at p point.at (file_row p point.at)) points
    + sum_by bytes_loaded (map (λ l. l.says) p.notes.requires ++ flat_map (evaluated p) points)

-- A bit that a reading gives: of a register, a flag, the choice of a point, or the byte of the entry memory that a base read reads. A base read is a byte load
-- that reaches the entry memory; loads of one address may share one, so that it has a number and belongs to no one point or line.
pub data Input : Type 0 where
  OfRegister : (register bit : ℕ) → Input
  OfFlag : ℕ → Input
  OfChoice : Point → (bit : ℕ) → Input
  OfByte : (read bit : ℕ) → Input

-- the row reads the choice
abbrev pub RowDraws : Option Row → Type 0
RowDraws None = ⊥
RowDraws (Some row) = row.draws ≡ true

-- a point whose row reads the choice
abbrev pub Draws : Program → ℕ → Point → Type 0
Draws p k point = IsPoint p k point × RowDraws (file_row p point.at)

-- a bit of a register or a flag that the machine has, of the choice of a point whose row reads it, or of the byte of one of so many base reads
abbrev pub IsInput : Program → (k loads : ℕ) → Input → Type 0
IsInput p k loads (OfRegister n i) = (p.machine.has_register n ≡ true) × (i < 32)
IsInput p k loads (OfFlag f) = p.machine.has_flag f ≡ true
IsInput p k loads (OfChoice point i) = Draws p k point × (i < 2)
IsInput p k loads (OfByte read i) = (read < loads) × (i < 8)

-- the input is a bit of the entry memory
abbrev pub is_of_byte : Input → Bool
is_of_byte (OfByte read i) = true
is_of_byte _ = false

-- The inputs of a question, each once: every bit of the registers, the flags and the choices, and for base reads, of which there are at most so many, the eight
-- bits of the byte.
pub record AreInputs (p : Program) (k loads : ℕ) (inputs : List Input) : Type 0 where
  pub only : (x : Input) → Contains inputs x → IsInput p k loads x
  pub all : (x : Input) → IsInput p k loads x → is_of_byte x ≡ false → Contains inputs x
  pub whole : (read i j : ℕ) → Contains inputs (OfByte read i) → j < 8 → Contains inputs (OfByte read j)
  pub once : (i j : ℕ) → i < j → j < length inputs → slice_get inputs i ≢ slice_get inputs j

-- the address of each base read, by the reading
abbrev pub Addresses : Type 0
Addresses = Reading → (read : ℕ) → ℕ

-- the value of a bit
abbrev pub input_value : Addresses → Reading → Input → Bool
input_value address r (OfRegister n i) = bit_at i (r.state.regs n) == 1
input_value address r (OfFlag f) = r.state.flags f == 1
input_value address r (OfChoice point i) = bit_at i (r.choice point) == 1
input_value address r (OfByte read i) = bit_at i (r.state.mem (address r read)) == 1

-- the first variables of the valuation have the values of the inputs
abbrev pub ComesFrom : List Input → Addresses → (ℕ → Bool) → Reading → Type 0
ComesFrom inputs address v r = (i : ℕ) (x : Input) → slice_get inputs i ≡ Some x → v (i + 1) ≡ input_value address r x

-- two readings have the same values of the first n inputs
abbrev pub AgreeOnFirst : ℕ → List Input → Addresses → Reading → Reading → Type 0
AgreeOnFirst n inputs address r t =
    (i : ℕ) (x : Input) → i < n → slice_get inputs i ≡ Some x → input_value address r x ≡ input_value address t x

-- a memory agrees with the file on the bytes that are asked
abbrev pub AgreesOn : Program → (asked : ℕ → Bool) → State → Type 0
AgreesOn p asked s = (a : ℕ) (c : Cell) → a < 2 ^ 32 → p.loaded a ≡ Some c → asked a ≡ true → s.mem a ≡ c.byte

-- The addresses of base reads are decided by the inputs before them, and the inputs decide the question: of two readings that have the same inputs, the same
-- entry address and the bytes of the file that are asked, it is true of both or of neither. So a byte that the question needs is read at its own address.
pub record InputsDecide (p : Program) (k : ℕ) (question : Question) (asked : ℕ → Bool) (inputs : List Input) (address : Addresses) : Type 0 where
  pub below : (r : Reading) (read : ℕ) → address r read < 2 ^ 32
  pub by_earlier : (r t : Reading) (n read i : ℕ) → slice_get inputs n ≡ Some (OfByte read i) → IsReading r → IsReading t →
      AgreeOnFirst n inputs address r t → address r read ≡ address t read
  pub decides : (r t : Reading) → IsTrueOver p asked k r question → IsReading t → t.state.pc ≡ r.state.pc → AgreesOn p asked t.state →
      AgreeOnFirst (length inputs) inputs address r t → IsTrueOver p asked k t question

-- The clauses are those of a question, as far as it asks for bytes of the file: a valuation of the inputs extends in at most one way, and exactly where it
-- comes from a reading that the question is true of. The inputs are no more than the price; neither are the other variables and the bits of the entry memory
-- together.
pub record AreOfQuestion (p : Program) (k : ℕ) (question : Question) (cnf : Cnf) : Type 0 where
  pub points : List Point
  pub are_points : ArePoints p k points
  pub inputs : List Input
  pub are_inputs : AreInputs p k (loads_among p points) inputs
  pub asked : ℕ → Bool
  pub asks_known : (a : ℕ) → asked a ≡ true → is_known_at p a ≡ true
  pub address : Addresses
  pub decide : InputsDecide p k question asked inputs address
  pub extends : ExtendsOnceWhere (length inputs) cnf (λ v. (r : Reading) × ComesFrom inputs address v r × IsTrueOver p asked k r question)
  pub price : ℕ
  pub is_price : IsPrice p k price
  pub few_inputs : (length inputs ≤ price) × (length inputs ≤ cnf.variables)
  pub few_gates : cnf.variables + length (filter is_of_byte inputs) ≤ length inputs + price

-- a refutation of a question
pub record Refutes (p : Program) (k : ℕ) (question : Question) (proof : Proof) : Type 0 where
  pub of_question : AreOfQuestion p k question proof.clauses
  pub refutation : IsRefutation proof.clauses.variables proof.clauses.clauses proof.log

-- A question is due: the fail question where there is an entry state, the turn question where besides no run has an event before its last backward transfer.
abbrev pub IsDue : Program → ℕ → Question → Type 0
IsDue p k EntryQuestion = Unit {0}
IsDue p k FailQuestion = (s : _) × IsEntryState p s
IsDue p k TurnQuestion = ((s : _) × IsEntryState p s) × ((start : _) → IsStart p start → ¬ RunFails p k start)

-- a question that spent the conflicts
pub record Spends (p : Program) (k : ℕ) (question : Question) (conflicts : ℕ) (proof : Proof) : Type 0 where
  pub of_question : AreOfQuestion p k question proof.clauses
  pub spent : IsSpent proof.clauses.clauses conflicts proof.log
