-- What joins the layers below the clauses of a question of a frame to what is claimed of the frame.
use Rattle.std.specs.Prelude.{ℕ, ◌≡◌, ◌≤◌, ◌<◌, ◌^◌, Bool, true, ◌&&◌, nat_eq, nat_lt, List, Some, length, Contains}
use Rattle.std.specs.List.{list_any}
use Rattle.machine_spec.specs.MachineLaws.{IsFitted}
use Rattle.machine_spec.specs.StateText.{Layout}
use Rattle.walk_spec.specs.Unrolling.{AreReadableBy, IsLaidOut}
use Rattle.frame_spec.specs.FrameReports.{AreOfQuestion}
use Rattle.clause_spec.specs.Clauses.{Cnf, Satisfies}
use Rattle.bilv_spec.specs.Points.{is_known_at}
use Rattle.bilv_spec.specs.PointLaws.{HasLawfulRows}
use Rattle.frame_spec.specs.Frames.{Contract, Frame, is_head, contract_at}
use Rattle.frame_spec.specs.FramePoints.{has_heads}
use Rattle.frame_spec.specs.FrameQuestions.{Reading, Question, asks_head, IsTrueOver}
use Rattle.frame_spec.specs.FrameWalk.{Gift, UnrolledProgram, point_at}
use Rattle.frame_spec.specs.FrameUnrolling.{IsUnrolling}
use Rattle.frame_laws.specs.RunOfFrame.{IsAmong, AsksKnown, AsksLiterals}
use Rattle.term_spec.specs.Terms.{TermReading, InRange}
use Rattle.term_spec.specs.WalkQuestions.{QuestionTerm, is_asked}
use Rattle.frame_terms.specs.PassiveFrames.{part_reading, IsGiftAt, TellsQuestion, inputs_of, CanReadLines, CanReadWrites, IsWalkable}
use Rattle.frame_terms.specs.FrameCells.{BaseRead, Cells, read_address, TellsCells}
use Rattle.frame_terms.specs.FrameClauseForm.{HasBits, input_list, MakesTrue, TellsClauses}
use Rattle.frame_terms.specs.FrameAgreement.{HaveSameInputs}

-- What the layers below the clauses have said of a question of a frame, over known bytes that are asked. Heads and the entry are addresses that a state can be
-- at.
pub record IsLayered (f : Frame) (contracts : List Contract) (k : ℕ) (question : Question) (asked : ℕ → Bool) (u : UnrolledProgram) (t : QuestionTerm)
    (c : Cells) : Type 0 where
  pub lawful : HasLawfulRows f.program
  pub low : (a : ℕ) → is_head f a ≡ true → a < 2 ^ 32
  pub among : IsAmong f contracts
  pub unrolling : IsUnrolling f contracts k u
  pub entry : u.entry < 2 ^ 32
  pub asks_known : AsksKnown f asked
  pub asks_literals : AsksLiterals f k asked
  pub term : TellsQuestion u (has_heads f) question t
  pub cells : TellsCells u (has_heads f) (has_heads f && asks_head question) t asked c

-- A reading of the frame that has the bits of a valuation: those of some reading of terms with its registers, flags and choices in each part, and with the
-- bytes that its memories have where the base reads read.
pub record IsReadingOf (u : UnrolledProgram) (heads : Bool) (c : Cells) (v : ℕ → Bool) (r : Reading) : Type 0 where
  pub reading : TermReading
  pub in_range : InRange reading
  pub bits : HasBits (input_list u heads c) v reading
  pub same : HaveSameInputs u heads 0 reading (part_reading u r)
  pub gives : (b : BaseRead) → Contains c.reads b →
      reading.base b.part b.address ≡ (part_reading u r).mem b.part (read_address c reading b.address)

-- Values that satisfy the clauses are those of a reading of which the question is true.
abbrev pub FrameValuesGiveReading : Type 0
FrameValuesGiveReading = (f : Frame) (contracts : List Contract) (k : ℕ) (question : Question) (asked : ℕ → Bool) (u : UnrolledProgram) (t : QuestionTerm)
    (c : Cells) → IsLayered f contracts k question asked u t c → (cnf : Cnf) → TellsClauses u (has_heads f) c cnf →
    (v : ℕ → Bool) → Satisfies v cnf.clauses → (r : Reading) × IsReadingOf u (has_heads f) c v r × IsTrueOver f asked k r question

-- And the values of a reading of which the question is true make the cells true.
abbrev pub FrameReadingMakesTrue : Type 0
FrameReadingMakesTrue = (f : Frame) (contracts : List Contract) (k : ℕ) (question : Question) (asked : ℕ → Bool) (u : UnrolledProgram) (t : QuestionTerm)
    (c : Cells) → IsLayered f contracts k question asked u t c → (r : Reading) → IsTrueOver f asked k r question → (v : ℕ → Bool) →
    IsReadingOf u (has_heads f) c v r → MakesTrue u (has_heads f) c v

-- What is had of a machine and of contracts: at most 31 registers and 4 flags, so that the inputs are within the price; and contracts that speak of the
-- machine's registers and flags alone, each of which is an input.
pub record IsFitting (u : UnrolledProgram) : Type 0 where
  pub registers : length u.registers ≤ 31
  pub flags : u.flags ≤ 4
  pub gift_registers : (i n : ℕ) (x : Gift) → IsGiftAt u i x → Contains x.registers n → list_any (nat_eq n) u.registers ≡ true
  pub gift_flags : (i n : ℕ) (x : Gift) → IsGiftAt u i x → Contains x.flags n → nat_lt n u.flags ≡ true

-- The clauses of the cells are those of the question.
abbrev pub FrameClausesOfQuestion : Type 0
FrameClausesOfQuestion = (f : Frame) (contracts : List Contract) (k : ℕ) (question : Question) (asked : ℕ → Bool) (u : UnrolledProgram) (t : QuestionTerm)
    (c : Cells) → IsLayered f contracts k question asked u t c → IsFitting u → (cnf : Cnf) → TellsClauses u (has_heads f) c cnf →
    AreOfQuestion f k question cnf

-- An unrolled frame is walkable where it is laid out as the form of the machine, its lines can be read, and its addresses are words.
abbrev pub FrameUnrollingIsWalkable : Type 0
FrameUnrollingIsWalkable = (f : Frame) (contracts : List Contract) (k : ℕ) (u : UnrolledProgram) → IsUnrolling f contracts k u →
    (form : Layout) → IsFitted f.program.machine form → IsLaidOut form (inputs_of u) → AreReadableBy (inputs_of u) f.program.notes →
    ((x : Contract) → f.own ≡ Some x → CanReadLines u x.gives × CanReadWrites u x.writes) →
    ((a : ℕ) (x : Contract) → contract_at f.stepped a ≡ Some x → CanReadLines u x.needs × CanReadLines u x.gives × CanReadWrites u x.writes) →
    f.program.entry < 2 ^ 32 → ((i : ℕ) → i < length u.points → (point_at u i).point.at < 2 ^ 32) → IsWalkable u

-- what is asked on demand is known, and has the literals
abbrev pub FrameAskedIsRight : Type 0
FrameAskedIsRight = (f : Frame) (contracts : List Contract) (k : ℕ) (u : UnrolledProgram) → IsUnrolling f contracts k u → (added : List ℕ) →
    ((a : ℕ) → Contains added a → is_known_at f.program a ≡ true) → AsksKnown f (is_asked added u.literals) × AsksLiterals f k (is_asked added u.literals)
