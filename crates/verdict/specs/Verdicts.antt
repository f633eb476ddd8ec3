-- Verdicts as the reports of the definitions, with their evidence.
use Rattle.std.specs.Prelude.{ℕ, ◌≡◌, ◌<◌, ◌+◌, string_bytes}
use Rattle.call_spec.specs.Calls as answers
use Rattle.bilv_spec.specs.Answers.{Report, HoldsReport, VacuousReport, FailsReport, UnrollReport, PointsReport, SizeReport, ConflictsReport, IsRightReport, IsWithin}
use Rattle.call_spec.specs.Calls.{Evidence, Refutations, EntryRefuted, RunOf, SpentOn, Count, Question}
use Rattle.bilv_spec.specs.Evidence.{Refutes, Spends}
use Rattle.bilv_spec.specs.Points.{HasMore, IsPrice}
use Rattle.bilv_spec.specs.Questions.{IsSatisfiable}
use Rattle.bilv_spec.specs.Run.{Program}
use Rattle.bilv_spec.specs.Scripts.{IsScript}
use Rattle.machine_spec.specs.StateText.{Layout}
use Rattle.cnf_form.specs.Views.{proof_of}
use Rattle.start_value.specs.Starts.{written_of}
use Rattle.state_text.specs.Starts.{event_of}
use Rattle.question_form.specs.Views.{kind_of}
use Rattle.call_form.specs.declared.budget.Budget.{Budget}
pub use Rattle.call_form.specs.Views.{budget_of}
use Rattle.verdict.specs.declared.verdicts.Certified.{Certified}
use Rattle.verdict.specs.declared.verdicts.Certified.TheVariants as certified
use Rattle.verdict.specs.declared.verdicts.Scripted.{Scripted}
use Rattle.verdict.specs.declared.verdicts.Scripted.TheVariants as scripted
use Rattle.verdict.specs.declared.verdicts.Verdict.{Verdict}
use Rattle.verdict.specs.declared.verdicts.Verdict.TheVariants.{Holds, Vacuous, Fails, Unroll, Exceeded, Conflicts}
use Rattle.verdict.specs.declared.verdicts.Exceeded as past
use Rattle.verdict.specs.declared.verdicts.Exceeded.TheVariants.{Points, Size}

-- what an exceeded budget says
abbrev pub exceeded_report : past.Exceeded → Report
exceeded_report (Points count) = PointsReport
exceeded_report (Size price) = SizeReport

-- the number that shows it
abbrev pub exceeded_count : past.Exceeded → ℕ
exceeded_count (Points count) = count
exceeded_count (Size price) = price

-- there are more points than the budget; or there are not, and the price is above it
abbrev pub IsExceeded : Program → answers.Budget → past.Exceeded → Type 0
IsExceeded p b (Points count) = HasMore p b.unroll b.points × (count ≡ b.points + 1)
IsExceeded p b (Size price) = (¬ HasMore p b.unroll b.points) × IsPrice p b.unroll price × (b.size < price)

-- what a verdict says
abbrev pub report_of : Verdict → Report
report_of (Holds start fail turn) = HoldsReport
report_of (Vacuous proof) = VacuousReport
report_of (Fails event at step start) = FailsReport (event_of event) at step
report_of (Unroll at step start) = UnrollReport at step
report_of (Exceeded e) = exceeded_report e
report_of (Conflicts question proof) = ConflictsReport

-- what shows it
abbrev pub evidence_of : Verdict → Evidence
evidence_of (Holds start fail turn) = Refutations (written_of start) (proof_of fail) (proof_of turn)
evidence_of (Vacuous proof) = EntryRefuted (proof_of proof)
evidence_of (Fails event at step start) = RunOf (written_of start)
evidence_of (Unroll at step start) = RunOf (written_of start)
evidence_of (Exceeded e) = Count (exceeded_count e)
evidence_of (Conflicts question proof) = SpentOn (kind_of question) (proof_of proof)

-- the verdict is right, and what it has shows it
abbrev pub IsVerdict : Program → Layout → Budget → Verdict → Type 0
IsVerdict p layout b v = IsRightReport p layout (budget_of b) (report_of v) (evidence_of v)

-- A question is certified: there are more points than the budget, or the price is above it; else its conflicts are spent, it is true, or it is refuted.
abbrev pub IsCertificate : Program → answers.Budget → Question → Certified → Type 0
IsCertificate p b question (certified.Exceeded e) = IsExceeded p b e
IsCertificate p b question (certified.Conflicts proof) = IsWithin p b × Spends p b.unroll question b.conflicts (proof_of proof)
IsCertificate p b question certified.Satisfiable = IsWithin p b × IsSatisfiable p b.unroll question
IsCertificate p b question (certified.Refuted proof) = IsWithin p b × (¬ IsSatisfiable p b.unroll question) × Refutes p b.unroll question (proof_of proof)

-- The script of a question: there are more points than the budget, or the price is above it; else it is satisfied by the readings that make the question true.
abbrev pub IsScripted : Program → Layout → answers.Budget → Question → Scripted → Type 0
IsScripted p layout b question (scripted.Exceeded e) = IsExceeded p b e
IsScripted p layout b question (scripted.Script text) = IsWithin p b × IsScript p layout b.unroll question (string_bytes text)
