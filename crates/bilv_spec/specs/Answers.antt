-- Budgets, reports with their evidence, the texts of reports, and answers.
use Rattle.std.specs.Prelude.{ℕ, ◌≡◌, ◌≤◌, ◌<◌, ◌+◌, List, [], ◌∷◌, Option, Some, None, codes, if◌then◌else◌}
use Rattle.word_spec.specs.Words.{word}
use Rattle.bilv_spec.specs.Run.{Program, Run, Failed, Turned, run}
use Rattle.machine_spec.specs.Endings.{Start, Event, NamedEnding, FailsBy, UnknownBy}
use Rattle.bilv_spec.specs.Verdict.{Holds, Vacuous, Fails, Unroll, IsRight, IsEntryState, IsStart}
use Rattle.bilv_spec.specs.Points.{HasMore, IsPrice, is_known_at, byte_of_cell}
use Rattle.call_spec.specs.Calls.{EntryQuestion, FailQuestion, TurnQuestion, Budget, Evidence, Refutations, EntryRefuted, RunOf, SpentOn, Count, Answer}
use Rattle.bilv_spec.specs.Evidence.{Refutes, Spends, IsDue}
use Rattle.machine_spec.specs.StateText.{Layout, IsWritten, printed, start_of}
use Rattle.word_spec.specs.State.{Written}
use Rattle.word_spec.specs.Texts.{line, number_text, joined}

-- what a report says
pub data Report : Type 0 where
  HoldsReport : Report
  VacuousReport : Report
  FailsReport : Event → (at step : ℕ) → Report
  UnrollReport : (at step : ℕ) → Report
  PointsReport : Report
  SizeReport : Report
  ConflictsReport : Report

-- at most so many points, and a price within the size
pub record IsWithin (p : Program) (b : Budget) : Type 0 where
  pub points : ¬ HasMore p b.unroll b.points
  pub price : ℕ
  pub is_price : IsPrice p b.unroll price
  pub size : price ≤ b.size

-- a byte that the file gives: it is kept or fixed
abbrev pub known_byte : Program → ℕ → Option ℕ
known_byte p a = if is_known_at p a then Some (byte_of_cell (p.loaded a)) else None

-- The start that is written. A machine's memory wraps its addresses, so the byte that the file gives is that of the wrapped one.
abbrev pub start_in : Program → Layout → Written → Start
start_in p layout w = start_of layout p.entry (λ a. known_byte p (word 32 a)) w

-- its run ends like this
abbrev pub EndsAs : Program → ℕ → Start → Run → Type 0
EndsAs p k start r = (steps : ℕ) × (run p k start steps ≡ r)

-- The report is right, and the evidence shows it. A written start gives no byte that the file gives.
abbrev pub IsRightReport : Program → Layout → Budget → Report → Evidence → Type 0
IsRightReport p layout b PointsReport (Count n) = HasMore p b.unroll b.points × (n ≡ b.points + 1)
IsRightReport p layout b SizeReport (Count n) = (¬ HasMore p b.unroll b.points) × IsPrice p b.unroll n × (b.size < n)
IsRightReport p layout b ConflictsReport (SpentOn kind proof) = IsWithin p b × IsDue p b.unroll kind × Spends p b.unroll kind b.conflicts proof
IsRightReport p layout b HoldsReport (Refutations w fail turn) =
    IsWithin p b × IsRight p b.unroll Holds × IsWritten layout (is_known_at p) w × IsEntryState p (start_in p layout w).state
    × Refutes p b.unroll FailQuestion fail × Refutes p b.unroll TurnQuestion turn
IsRightReport p layout b VacuousReport (EntryRefuted proof) = IsWithin p b × IsRight p b.unroll Vacuous × Refutes p b.unroll EntryQuestion proof
IsRightReport p layout b (FailsReport e at step) (RunOf w) =
    IsWithin p b × IsRight p b.unroll Fails × IsWritten layout (is_known_at p) w × IsStart p (start_in p layout w)
    × EndsAs p b.unroll (start_in p layout w) (Failed e at step)
IsRightReport p layout b (UnrollReport at step) (RunOf w) =
    IsWithin p b × IsRight p b.unroll Unroll × IsWritten layout (is_known_at p) w × IsStart p (start_in p layout w)
    × EndsAs p b.unroll (start_in p layout w) (Turned at step)
IsRightReport p layout b report _ = ⊥

-- the status of a report
abbrev pub status_of : Report → ℕ
status_of HoldsReport = 0
status_of VacuousReport = 0
status_of (FailsReport e at step) = 1
status_of _ = 3

-- the line of a budget that is exceeded
abbrev pub budget_text : List ℕ → ℕ → List ℕ
budget_text budget n = line (joined (codes "unknown" ∷ budget ∷ number_text n ∷ []))

-- the report's line and the state that follows it
abbrev pub named_text : Layout → NamedEnding → Evidence → List ℕ
named_text layout named (RunOf w) = printed layout (record { named = named; start = w })
named_text layout named other = []

-- its text
abbrev pub report_text : Layout → Budget → Report → Evidence → List ℕ
report_text layout b HoldsReport e = line (codes "holds")
report_text layout b VacuousReport e = line (codes "vacuous")
report_text layout b (FailsReport event at step) e = named_text layout (FailsBy event at step) e
report_text layout b (UnrollReport at step) e = named_text layout (UnknownBy b.unroll at step) e
report_text layout b PointsReport e = budget_text (codes "points") b.points
report_text layout b SizeReport e = budget_text (codes "size") b.size
report_text layout b ConflictsReport e = budget_text (codes "conflicts") b.conflicts

-- the answer of a report
abbrev pub report_answer : Layout → Budget → Report → Evidence → Answer
report_answer layout b report e = record { status = status_of report; text = report_text layout b report e; evidence = e }

-- the answer is a right report's
abbrev pub IsReported : Program → Layout → Budget → Answer → Type 0
IsReported p layout b a = (report : Report) × (e : Evidence) × IsRightReport p layout b report e × (a ≡ report_answer layout b report e)
