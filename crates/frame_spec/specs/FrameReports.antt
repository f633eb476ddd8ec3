-- Reports over the frames of notes, and what shows them.
use Rattle.std.specs.Prelude.{ℕ, ◌≡◌, ◌≢◌, ◌≤◌, ◌<◌, ◌+◌, ◌^◌, ◌⊎◌, ◌==◌, Bool, true, false, List, [], ◌∷◌, ◌++◌, Option, Some, None, Contains, length, reverse, slice_get, filter, sum_by, nat_eq, if◌then◌else◌, All, AllPairs}
use Rattle.std.specs.List.{list_any, flat_map, AllZip}
use Rattle.word_spec.specs.Words.{word, bit_at}
use Rattle.word_spec.specs.RowFiles.{from_to}
use Rattle.word_spec.specs.Memory.{byte_in}
use Rattle.clause_spec.specs.Clauses.{Cnf, ExtendsOnceWhere}
use Rattle.clause_spec.specs.Refutation.{IsRefutation, Proof}
use Rattle.clause_spec.specs.Empowering.{IsSpent}
use Rattle.bilv_spec.specs.Evidence.{AgreesOn}
use Rattle.bilv_spec.specs.Run.{Program, Place}
use Rattle.bilv_spec.specs.Points.{is_known_at, is_kept_at, byte_of_cell, bytes_loaded}
use Rattle.bilv_spec.specs.Verdict.{IsEntryState}
use Rattle.machine_spec.specs.StateText.{Layout, IsWritten, AreRising, last_step, start_of}
use Rattle.word_spec.specs.State.{Written}
use Rattle.call_spec.specs.Calls.{Budget}
pub use Rattle.call_spec.specs.Framed.{WrittenHead, WrittenCall, Shown, Passed, Refutations, EntryRefuted, Evidence, PassedBy, Frames, ShownBy, SpentOn, Count}
use Rattle.bilv_spec.specs.Answers.{known_byte}
use Rattle.frame_spec.specs.Frames.{Content, Contract, Frame, FrameEvent, contract_at, covers}
use Rattle.frame_spec.specs.FrameRuns.{Start, Halts, Calling, Failed, Turned, contract_step, run}
use Rattle.frame_spec.specs.FramePoints.{Point, IsPoint, ArePoints, IsPrice, evaluated, entry_lines, point_loads, has_heads}
use Rattle.frame_spec.specs.FrameVerdict.{IsStart, IsRight, Holds, Vacuous, Fails, NotInductive, Unroll, Partial, Whole, frame_of, entry_frame, Passes}
use Rattle.frame_spec.specs.FrameQuestions.{Reading, IsReading, Question, EntryQuestion, FailQuestion, StepQuestion, TurnQuestion, IsTrueOver, HeadAgrees, IsDue, Part, Input, OfByte, IsInput, Addresses, input_value}

-- the byte loads of these points and of the lines of a frame
abbrev pub loads_among : Frame → List Point → ℕ
loads_among f list = sum_by (point_loads f) list + sum_by bytes_loaded (entry_lines f ++ flat_map (evaluated f) list)

-- the input is a bit of a memory
abbrev pub is_of_byte : Input → Bool
is_of_byte (OfByte part read i) = true
is_of_byte x = false

-- the inputs of a question, each once
pub record AreInputs (f : Frame) (k loads : ℕ) (inputs : List Input) : Type 0 where
  pub only : (x : Input) → Contains inputs x → IsInput f k loads x
  pub all : (x : Input) → IsInput f k loads x → is_of_byte x ≡ false → Contains inputs x
  pub whole : (part : Part) (read i j : ℕ) → Contains inputs (OfByte part read i) → j < 8 → Contains inputs (OfByte part read j)
  pub once : (i j : ℕ) → i < j → j < length inputs → slice_get inputs i ≢ slice_get inputs j

-- the first variables of a valuation have the values of the inputs
abbrev pub ComesFrom : List Input → Addresses → (ℕ → Bool) → Reading → Type 0
ComesFrom inputs address v r = (i : ℕ) (x : Input) → slice_get inputs i ≡ Some x → v (i + 1) ≡ (input_value address r x == 1)

-- two readings have the same values of the first n inputs
abbrev pub AgreeOnFirst : ℕ → List Input → Addresses → Reading → Reading → Type 0
AgreeOnFirst n inputs address r t =
    (i : ℕ) (x : Input) → i < n → slice_get inputs i ≡ Some x → input_value address r x ≡ input_value address t x

-- addresses of base reads hang on the inputs before them, and the inputs decide the question
pub record InputsDecide (f : Frame) (k : ℕ) (question : Question) (asked : ℕ → Bool) (inputs : List Input) (address : Addresses) : Type 0 where
  pub below : (r : Reading) (part : Part) (read : ℕ) → address r part read < 2 ^ 32
  pub by_earlier : (r t : Reading) (n : ℕ) (part : Part) (read i : ℕ) → slice_get inputs n ≡ Some (OfByte part read i) → IsReading r → IsReading t →
      AgreeOnFirst n inputs address r t → address r part read ≡ address t part read
  pub decides : (r t : Reading) → IsTrueOver f asked k r question → IsReading t → t.state.pc ≡ r.state.pc → AgreesOn f.program asked t.state →
      HeadAgrees f asked t question → AgreeOnFirst (length inputs) inputs address r t → IsTrueOver f asked k t question

-- the clauses are those of a question of a frame
pub record AreOfQuestion (f : Frame) (k : ℕ) (question : Question) (cnf : Cnf) : Type 0 where
  pub points : List Point
  pub are_points : ArePoints f k points
  pub inputs : List Input
  pub are_inputs : AreInputs f k (loads_among f points) inputs
  pub asked : ℕ → Bool
  pub asks_known : (a : ℕ) → asked a ≡ true → is_known_at f.program a ≡ true
  pub address : Addresses
  pub decide : InputsDecide f k question asked inputs address
  pub extends : ExtendsOnceWhere (length inputs) cnf (λ v. (r : Reading) × ComesFrom inputs address v r × IsTrueOver f asked k r question)
  pub price : ℕ
  pub is_price : IsPrice f k price
  pub few_inputs : (length inputs ≤ price) × (length inputs ≤ cnf.variables)
  pub few_gates : cnf.variables + length (filter is_of_byte inputs) ≤ length inputs + price

pub record Refutes (f : Frame) (k : ℕ) (question : Question) (proof : Proof) : Type 0 where
  pub of_question : AreOfQuestion f k question proof.clauses
  pub refutation : IsRefutation proof.clauses.variables proof.clauses.clauses proof.log

pub record Spends (f : Frame) (k : ℕ) (question : Question) (conflicts : ℕ) (proof : Proof) : Type 0 where
  pub of_question : AreOfQuestion f k question proof.clauses
  pub spent : IsSpent proof.clauses.clauses conflicts proof.log

-- the byte that is kept, which is known of a head state
abbrev pub kept_byte : Program → ℕ → Option ℕ
kept_byte p a = if is_kept_at p a then Some (byte_of_cell (p.loaded a)) else None

-- the place of a written head state
abbrev pub head_place : Program → Layout → WrittenHead → Place
head_place p layout h =
    record { state = (start_of layout h.at (λ a. kept_byte p (word 32 a)) h.start).state; stack = reverse h.stack }

-- the flag's bit in a set of flags
abbrev pub flag_in : ℕ → ℕ → ℕ
flag_in set f = bit_at f set

-- what a written contract step is given; its registers are those that its contract may change, in the machine's order
abbrev pub value_in : List ℕ → List ℕ → ℕ → ℕ
value_in [] values r = 0
value_in (n ∷ names) [] r = 0
value_in (n ∷ names) (v ∷ values) r = if n == r then v else value_in names values r

abbrev pub given_by : (registers : List ℕ) → WrittenCall → Content
given_by registers c = record { regs = value_in registers c.regs; flags = flag_in c.flags; mem = λ a. byte_in c.bytes (word 32 a) }

-- the four budgets are over the points and the prices of all frames
abbrev pub ranks : Whole → List ℕ
ranks w = from_to 0 (length w.contracts + 1)

-- a point of a frame, by its rank
abbrev pub RankedPoint : Type 0
RankedPoint = ℕ × Point

-- all frames together have more than max points
abbrev pub HasMore : Whole → (k max : ℕ) → Type 0
HasMore w k max =
    (list : List RankedPoint) × (max < length list) × ((x : RankedPoint) → Contains list x → (x.0 ≤ length w.contracts) × IsPoint (frame_of w x.0) k x.1)
    × ((i j : ℕ) → i < j → j < length list → slice_get list i ≢ slice_get list j)

-- the sum of the prices of all frames
abbrev pub IsWholePrice : Whole → (k price : ℕ) → Type 0
IsWholePrice w k price =
    (prices : List ℕ) × AllZip (λ rank n. IsPrice (frame_of w rank) k n) (ranks w) prices × (price ≡ sum_by (λ n. n) prices)

pub record IsWithin (w : Whole) (b : Budget) : Type 0 where
  pub points : ¬ HasMore w b.unroll b.points
  pub price : ℕ
  pub is_price : IsWholePrice w b.unroll price
  pub size : price ≤ b.size

-- how a run ends that a report names
pub data Named : Type 0 where
  ByEvent : FrameEvent → (at step : ℕ) → Named
  ByTurn : (at step : ℕ) → Named

-- what a report says
pub data Report : Type 0 where
  HoldsReport : Report
  PartialReport : Report
  VacuousReport : Report
  NamedReport : Named → Report
  NotInductiveReport : FrameEvent → (at step : ℕ) → Report
  UnprovedReport : (rank : ℕ) → Named → Report
  PointsReport : Report
  SizeReport : Report
  ConflictsReport : Report

-- the frame's questions after the entry's
abbrev pub later_questions : Bool → List Question
later_questions true = FailQuestion ∷ StepQuestion ∷ TurnQuestion ∷ []
later_questions false = FailQuestion ∷ TurnQuestion ∷ []

-- the head state that is shown, and its choices
abbrev pub head_of : Frame → Layout → Option WrittenHead → Option Place
head_of f layout None = None
head_of f layout (Some h) = Some (head_place f.program layout h)

abbrev pub choices_of : Written → Option WrittenHead → ℕ → ℕ
choices_of w None = byte_in w.choices
choices_of w (Some h) = byte_in h.start.choices

-- what the contract step of a step number is given, by the calls that are shown; no call gives 0
abbrev pub gifts : (ℕ → List ℕ) → List WrittenCall → ℕ → Content
gifts registers [] n = record { regs = λ r. 0; flags = λ f. 0; mem = λ a. 0 }
gifts registers (c ∷ rest) n =
    let g = given_by (registers c.at) c in
    let h = gifts registers rest n in
    record {
      regs = λ r. if c.step == n then g.regs r else h.regs r;
      flags = λ i. if c.step == n then g.flags i else h.flags i;
      mem = λ a. if c.step == n then g.mem a else h.mem a;
    }

-- the registers that the contract of an address may change, in the machine's order
abbrev pub registers_of : Whole → ℕ → List ℕ
registers_of w a = by (contract_at w.contracts a)
  where
    by : Option Contract → List ℕ
    by None = []
    by (Some x) = filter (λ r. list_any (nat_eq r) x.registers) (from_to 0 32)

-- the start that is shown, in a frame
abbrev pub shown_start : Whole → Frame → Layout → Shown → Start
shown_start w f layout s = record {
  state = (start_of layout f.program.entry (λ a. known_byte f.program (word 32 a)) s.start).state;
  head = head_of f layout s.head;
  choices = choices_of s.start s.head;
  given = gifts (registers_of w) s.calls;
}

-- its run ends as is named
abbrev pub EndsAs : Frame → ℕ → Start → Named → Type 0
EndsAs f k start (ByEvent e at step) = (steps : ℕ) × (run f k start steps ≡ Failed e at step)
EndsAs f k start (ByTurn at step) = (steps : ℕ) × (run f k start steps ≡ Turned at step)

-- the run comes to a contract step
abbrev pub MakesContractStep : Frame → ℕ → Start → Type 0
MakesContractStep f k start = (steps turns n : ℕ) × (c : Place) × (run f k start steps ≡ Calling turns n c)

-- What is shown of a contract step is that of its contract, at the place where the step is made: its flags are among those that the contract may change, its
-- bytes among those that it may write.
pub record IsCallAt (f : Frame) (c : Place) (x : Contract) (call : WrittenCall) : Type 0 where
  pub at : call.at ≡ c.state.pc
  pub flags : (i : ℕ) → flag_in call.flags i ≡ 1 → list_any (nat_eq i) x.flags ≡ true
  pub bytes : All (λ b. covers f.program.machine.endian x.writes c.state b.0 ≡ true) call.bytes

-- the contract step that the run makes at a place has no event
abbrev pub HasNoEvent : Frame → Start → (step : ℕ) → Place → Type 0
HasNoEvent f start n c = (e : FrameEvent) → contract_step f start.state c (start.given n) ≢ Halts e

-- the run makes the contract step that is shown, without an event
pub record IsMade (f : Frame) (k : ℕ) (start : Start) (call : WrittenCall) : Type 0 where
  pub steps : ℕ
  pub turns : ℕ
  pub place : Place
  pub contract : Contract
  pub comes : run f k start steps ≡ Calling turns call.step place
  pub stepped : contract_at f.stepped place.state.pc ≡ Some contract
  pub passes : HasNoEvent f start call.step place
  pub is : IsCallAt f place contract call

-- What is shown are the contract steps of the run that have no event, and no others.
pub record AreMade (f : Frame) (k : ℕ) (start : Start) (calls : List WrittenCall) : Type 0 where
  pub each : All (IsMade f k start) calls
  pub whole : (steps turns n : ℕ) (c : Place) → run f k start steps ≡ Calling turns n c → HasNoEvent f start n c →
      (call : WrittenCall) × Contains calls call × (call.step ≡ n)

-- A contract step that can be written: a word for each register that its contract may change, the flags of the form, and bytes from 1 on in rising order.
pub record IsWrittenCall (w : Whole) (layout : Layout) (c : WrittenCall) : Type 0 where
  pub step : c.step ≤ last_step
  pub count : length c.regs ≡ length (registers_of w c.at)
  pub words : All (λ v. v < 2 ^ 32) c.regs
  pub flags : c.flags < 2 ^ length layout.flags
  pub bytes : All (λ b. (b.0 < 2 ^ 32) × (1 ≤ b.1) × (b.1 ≤ 255)) c.bytes
  pub bytes_rise : AreRising c.bytes

-- What is shown can be written: bytes of the entry part that the file does not give, bytes of the head part that are not kept, and contract steps in rising
-- order. The choices of a segment stand in one part: where there is a head part, the entry part has none.
pub record IsShown (w : Whole) (f : Frame) (layout : Layout) (s : Shown) : Type 0 where
  pub entry : IsWritten layout (is_known_at f.program) s.start
  pub head : (h : WrittenHead) → s.head ≡ Some h → IsWritten layout (is_kept_at f.program) h.start
  pub choices : s.head ≢ None → s.start.choices ≡ []
  pub calls : All (IsWrittenCall w layout) s.calls
  pub calls_rise : AllPairs (λ x y. x.step < y.step) s.calls

-- each question is refuted by the proof of its place
abbrev pub AreRefuted : Frame → ℕ → List Question → List Proof → Type 0
AreRefuted f k questions proofs = AllZip (λ question proof. Refutes f k question proof) questions proofs

-- a frame passes, and this shows it
abbrev pub IsPassed : Layout → ℕ → Frame → Passed → Type 0
IsPassed layout k f (EntryRefuted proof) = IsRight f k Vacuous × Refutes f k EntryQuestion proof
IsPassed layout k f (Refutations w proofs) =
    (IsRight f k Holds ⊎ IsRight f k Partial) × IsWritten layout (is_known_at f.program) w
    × IsEntryState f.program (start_of layout f.program.entry (λ a. known_byte f.program (word 32 a)) w).state
    × AreRefuted f k (later_questions (has_heads f)) proofs

-- all frames below a rank pass
abbrev pub PassBelow : Whole → (k rank : ℕ) → Type 0
PassBelow w k rank = (i : ℕ) → i < rank → Passes (frame_of w i) k

-- the entry's rank
abbrev pub last_rank : Whole → ℕ
last_rank w = length w.contracts

-- The report is right, and the evidence shows it.
abbrev pub IsRightReport : Whole → Layout → Budget → Report → Evidence → Type 0
IsRightReport w layout b PointsReport (Count n) = HasMore w b.unroll b.points × (n ≡ b.points + 1)
IsRightReport w layout b SizeReport (Count n) = (¬ HasMore w b.unroll b.points) × IsWholePrice w b.unroll n × (b.size < n)
IsRightReport w layout b ConflictsReport (SpentOn rank kind proof) =
    IsWithin w b × (rank ≤ last_rank w) × PassBelow w b.unroll rank × IsDue (frame_of w rank) b.unroll kind
    × Spends (frame_of w rank) b.unroll kind b.conflicts proof × (kind ≡ StepQuestion → has_heads (frame_of w rank) ≡ true)
IsRightReport w layout b HoldsReport (PassedBy e) =
    IsWithin w b × (w.contracts ≡ []) × IsRight (entry_frame w) b.unroll Holds × IsPassed layout b.unroll (entry_frame w) e
IsRightReport w layout b HoldsReport (Frames list) =
    IsWithin w b × (w.contracts ≢ []) × PassBelow w b.unroll (last_rank w) × IsRight (entry_frame w) b.unroll Holds
    × AllZip (λ rank e. IsPassed layout b.unroll (frame_of w rank) e) (ranks w) list
IsRightReport w layout b PartialReport (PassedBy e) =
    IsWithin w b × (w.contracts ≡ []) × IsRight (entry_frame w) b.unroll Partial × IsPassed layout b.unroll (entry_frame w) e
IsRightReport w layout b VacuousReport (PassedBy e) =
    IsWithin w b × PassBelow w b.unroll (last_rank w) × IsRight (entry_frame w) b.unroll Vacuous × IsPassed layout b.unroll (entry_frame w) e
IsRightReport w layout b (NamedReport n) (ShownBy s) =
    IsWithin w b × PassBelow w b.unroll (last_rank w) × (s.calls ≡ []) × IsShown w (entry_frame w) layout s
    × IsStart (entry_frame w) b.unroll (shown_start w (entry_frame w) layout s) × EndsAs (entry_frame w) b.unroll (shown_start w (entry_frame w) layout s) n
    × (¬ MakesContractStep (entry_frame w) b.unroll (shown_start w (entry_frame w) layout s)) × IsOfVerdict (entry_frame w) b.unroll s.head n
  where
    IsOfVerdict : Frame → ℕ → Option WrittenHead → Named → Type 0
    IsOfVerdict f k None (ByEvent e at step) = IsRight f k Fails
    IsOfVerdict f k (Some h) (ByEvent e at step) = ⊥
    IsOfVerdict f k h (ByTurn at step) = IsRight f k Unroll
IsRightReport w layout b (NotInductiveReport e at step) (ShownBy s) =
    IsWithin w b × (w.contracts ≡ []) × IsRight (entry_frame w) b.unroll NotInductive × (s.head ≢ None) × (s.calls ≡ [])
    × IsShown w (entry_frame w) layout s
    × IsStart (entry_frame w) b.unroll (shown_start w (entry_frame w) layout s)
    × EndsAs (entry_frame w) b.unroll (shown_start w (entry_frame w) layout s) (ByEvent e at step)
IsRightReport w layout b (UnprovedReport rank n) (ShownBy s) =
    IsWithin w b × (rank ≤ last_rank w) × PassBelow w b.unroll rank × (s.head ≡ None) × IsShown w (frame_of w rank) layout s
    × IsStart (frame_of w rank) b.unroll (shown_start w (frame_of w rank) layout s)
    × EndsAs (frame_of w rank) b.unroll (shown_start w (frame_of w rank) layout s) n
    × AreMade (frame_of w rank) b.unroll (shown_start w (frame_of w rank) layout s) s.calls
    × (rank ≡ last_rank w → MakesContractStep (frame_of w rank) b.unroll (shown_start w (frame_of w rank) layout s))
    × IsRanked (frame_of w rank) b.unroll n
  where
    IsRanked : Frame → ℕ → Named → Type 0
    IsRanked f k (ByEvent e at step) = IsRight f k Fails
    IsRanked f k (ByTurn at step) = IsRight f k Unroll
IsRightReport w layout b report e = ⊥
