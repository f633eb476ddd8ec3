-- Without invariants and contracts the points, questions and unrolled frames of a frame are those of its program, so that what is said of programs is said of
-- their frames.
use Rattle.std.specs.Prelude.{ℕ, ◌≡◌, ◌↔◌, Bool, false, [], ◌∷◌, None, map}
use Rattle.clause_spec.specs.Clauses.{Cnf}
use Rattle.call_spec.specs.Calls as calls
use Rattle.bilv_spec.specs.Run.{Program}
use Rattle.bilv_spec.specs.Points as points
use Rattle.bilv_spec.specs.Questions as questions
use Rattle.bilv_spec.specs.Evidence as evidence
use Rattle.bilv_spec.specs.Answers as answers
use Rattle.machine_spec.specs.StateText.{Layout}
use Rattle.walk_spec.specs.Unrolled as tables
use Rattle.walk_spec.specs.Unrolling as unrolling
use Rattle.walk_spec.specs.Sweep as sweeps
use Rattle.frame_spec.specs.Frames.{Content, OfStep}
use Rattle.frame_spec.specs.FramePoints.{Point, AtEntry, IsPoint, IsPrice}
use Rattle.frame_spec.specs.FrameQuestions.{Reading, IsReading, Question, EntryQuestion, FailQuestion, StepQuestion, TurnQuestion, IsTrueOver, IsSatisfiable, Input, OfRegister, OfFlag, OfChoice, OfByte, EntryPart, read_run}
use Rattle.frame_spec.specs.FrameWalk.{Aim, OnTo, Outward, OverLast, ToEvent, PointExit, FalseCheck, Always, Raising, WritingKept, Unaligned, Along, Action, Executes, UnrolledPoint, Root, UnrolledProgram, Walk, WalkIsAt, WalkExits, WalkFails, WalkTurns, walk_of, Held, swept}
use Rattle.frame_spec.specs.FrameUnrolling.{IsUnrolling}
use Rattle.frame_spec.specs.FrameVerdict.{Whole}
use Rattle.frame_spec.specs.FrameReports.{AreOfQuestion, ByEvent, ByTurn, Report, HoldsReport, VacuousReport, NamedReport, PointsReport, SizeReport, ConflictsReport, Refutations, EntryRefuted, Evidence, PassedBy, Frames, ShownBy, SpentOn, Count, IsRightReport}
use Rattle.frame_spec.specs.Theorems.{headless, as_frame_run}

-- a point of a program as one of its frame
abbrev pub as_point : points.Point → Point
as_point q = record { anchor = AtEntry; turns = q.turns; contract = false; stack = q.stack; at = q.at }

-- The points of the frame are those of the program.
abbrev pub HeadlessPoints : Type 0
HeadlessPoints = (p : Program) (k : ℕ) (q : Point) → IsPoint (headless p) k q ↔ ((x : points.Point) × points.IsPoint p k x × (q ≡ as_point x))

-- the price is the program's
abbrev pub HeadlessPrice : Type 0
HeadlessPrice = (p : Program) (k price : ℕ) → IsPrice (headless p) k price ↔ points.IsPrice p k price

-- a reading of the frame, as one of the program
abbrev pub flat_reading : Reading → questions.Reading
flat_reading r = record { state = r.state; choice = λ q. r.choice (as_point q) }

-- a question of the program as one of the frame
abbrev pub as_question : calls.Question → Question
as_question calls.EntryQuestion = EntryQuestion
as_question calls.FailQuestion = FailQuestion
as_question calls.TurnQuestion = TurnQuestion

-- The entry's segment of a reading is the run of the program's reading.
abbrev pub HeadlessReads : Type 0
HeadlessReads = (p : Program) (k : ℕ) (r : Reading) (n : ℕ) →
    read_run (headless p) k r AtEntry n ≡ as_frame_run (questions.read_run p k (flat_reading r) n)

-- A question over some known bytes is true of a reading where the program's is; the question that speaks of head states is true of none.
abbrev pub HeadlessQuestions : Type 0
HeadlessQuestions = (p : Program) (asked : ℕ → Bool) (k : ℕ) (r : Reading) → IsReading r →
    ((question : calls.Question) → IsTrueOver (headless p) asked k r (as_question question) ↔ questions.IsTrueOver p asked k (flat_reading r) question)
    × (¬ IsTrueOver (headless p) asked k r StepQuestion)

-- so some reading makes it true where one of the program does
abbrev pub HeadlessIsSatisfiable : Type 0
HeadlessIsSatisfiable = (p : Program) (k : ℕ) →
    ((question : calls.Question) → IsSatisfiable (headless p) k (as_question question) ↔ questions.IsSatisfiable p k question)
    × (¬ IsSatisfiable (headless p) k StepQuestion)

-- what is carried
abbrev pub as_content : tables.Carried → Content
as_content c = record { regs = c.regs; flags = c.flags; mem = c.mem }

abbrev pub as_aim : tables.Aim → Aim
as_aim (tables.OnTo i) = OnTo i
as_aim tables.Outward = Outward
as_aim tables.OverLast = OverLast
as_aim (tables.ToEvent e) = ToEvent (OfStep e)

abbrev pub as_exit : tables.PointExit → PointExit
as_exit (tables.FalseAssert line e) = FalseCheck (record { line = line; invariant = false; says = e })
as_exit (tables.Always e) = Always (ToEvent (OfStep e))
as_exit tables.Raising = Raising
as_exit tables.WritingKept = WritingKept
as_exit tables.Unaligned = Unaligned
as_exit (tables.Along falls jumps to aim) = Along falls jumps to (as_aim aim)

abbrev pub as_action : tables.Action → Action
as_action (tables.Executes list) = Executes list

abbrev pub as_place : tables.UnrolledPoint → UnrolledPoint
as_place q = record {
  point = as_point q.point;
  length = q.length;
  does = as_action q.does;
  draws = q.draws;
  row = q.row;
  loads = q.loads;
  stores = q.stores;
  exits = map as_exit q.exits;
}

-- the root of the entry
abbrev pub entry_root : Root
entry_root = record { place = 0; assumes = [] }

-- an unrolled program as an unrolled frame, which has one root and no contract of its own
abbrev pub as_unrolled : tables.UnrolledProgram → UnrolledProgram
as_unrolled u = record {
  endian = u.endian;
  narrow = u.narrow;
  registers = u.registers;
  flags = u.flags;
  link = u.link;
  entry = u.entry;
  requires = u.requires;
  ensures = u.ensures;
  own = None;
  kept = u.kept;
  known = u.known;
  literals = u.literals;
  roots = entry_root ∷ [];
  points = map as_place u.points;
}

-- The unrolled program of a program is the unrolled frame of its frame, and there is no other.
abbrev pub HeadlessUnrolling : Type 0
HeadlessUnrolling = (p : Program) (k : ℕ) →
    ((u : tables.UnrolledProgram) → unrolling.IsUnrolling p k u ↔ IsUnrolling (headless p) [] k (as_unrolled u))
    × ((v : UnrolledProgram) → IsUnrolling (headless p) [] k v → (u : tables.UnrolledProgram) × (v ≡ as_unrolled u))

abbrev pub as_walk : tables.Walk → Walk
as_walk (tables.WalkIsAt i c) = WalkIsAt i (as_content c)
as_walk tables.WalkExits = WalkExits
as_walk (tables.WalkFails e) = WalkFails (OfStep e)
as_walk tables.WalkTurns = WalkTurns

abbrev pub as_held : sweeps.Held → Held
as_held h = record { met = h.met; carried = λ i. as_content (h.carried i); fails = h.fails; steps = false; turns = h.turns }

-- Its walk from that root is the program's walk, and its sweep the program's sweep.
abbrev pub HeadlessWalks : Type 0
HeadlessWalks = (u : tables.UnrolledProgram) (r : Reading) (n : ℕ) → walk_of (as_unrolled u) r entry_root n ≡ as_walk (tables.walk u (flat_reading r) n)

abbrev pub HeadlessSweeps : Type 0
HeadlessSweeps = (u : tables.UnrolledProgram) (r : Reading) → swept (as_unrolled u) r ≡ as_held (sweeps.swept u (flat_reading r))

-- an input of a program as one of its frame
abbrev pub as_input : evidence.Input → Input
as_input (evidence.OfRegister n i) = OfRegister EntryPart n i
as_input (evidence.OfFlag f) = OfFlag EntryPart f
as_input (evidence.OfChoice q i) = OfChoice (as_point q) i
as_input (evidence.OfByte read i) = OfByte EntryPart read i

-- And the clauses of a question of the frame are those of the question of the program, so that the same refutations show it.
abbrev pub HeadlessClauses : Type 0
HeadlessClauses = (p : Program) (k : ℕ) (question : calls.Question) (cnf : Cnf) →
    AreOfQuestion (headless p) k (as_question question) cnf ↔ evidence.AreOfQuestion p k question cnf

-- notes without invariants and contracts
abbrev pub headless_whole : Program → Whole
headless_whole p = record { program = p; invariants = []; contracts = [] }

-- a report on a program, and what shows it; no evidence, and that of other answers, is none of any report on a program's frame
abbrev pub as_report : answers.Report → Report
as_report answers.HoldsReport = HoldsReport
as_report answers.VacuousReport = VacuousReport
as_report (answers.FailsReport e at step) = NamedReport (ByEvent (OfStep e) at step)
as_report (answers.UnrollReport at step) = NamedReport (ByTurn at step)
as_report answers.PointsReport = PointsReport
as_report answers.SizeReport = SizeReport
as_report answers.ConflictsReport = ConflictsReport

abbrev pub as_evidence : calls.Evidence → Evidence
as_evidence (calls.Refutations w fail turn) = PassedBy (Refutations w (fail ∷ turn ∷ []))
as_evidence (calls.EntryRefuted proof) = PassedBy (EntryRefuted proof)
as_evidence (calls.RunOf w) = ShownBy (record { start = w; head = None; calls = [] })
as_evidence (calls.SpentOn question proof) = SpentOn 0 (as_question question) proof
as_evidence (calls.Count n) = Count n
as_evidence other = Frames []

-- So a report on notes without invariants and contracts is right, and is shown by its evidence, where it is so as one on their frames.
abbrev pub HeadlessReports : Type 0
HeadlessReports = (p : Program) (layout : Layout) (b : calls.Budget) (r : answers.Report) (e : calls.Evidence) →
    IsRightReport (headless_whole p) layout b (as_report r) (as_evidence e) ↔ answers.IsRightReport p layout b r e
