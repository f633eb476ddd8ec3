-- Verdicts over frames as the reports of the definitions, with their evidence.
use Rattle.std.specs.Prelude.{List, [], ◌∷◌, Option, Some, None, map, option_map}
use Rattle.machine_spec.specs.StateText.{Layout}
use Rattle.frame_spec.specs.FrameReports as reports
use Rattle.frame_spec.specs.FrameReports.{Report, HoldsReport, PartialReport, VacuousReport, NamedReport, NotInductiveReport, UnprovedReport, PointsReport, SizeReport, ConflictsReport, ByEvent, ByTurn, Evidence, PassedBy, Frames, ShownBy, SpentOn, Count, Shown, IsRightReport}
use Rattle.frame_spec.specs.FrameVerdict.{Whole}
use Rattle.call_form.specs.Views.{budget_of}
use Rattle.call_form.specs.declared.budget.Budget.{Budget}
use Rattle.cnf_form.specs.Views.{proof_of}
use Rattle.frame_text.specs.Texts.{framed_event_of}
use Rattle.question_form.specs.Asked.{frame_question}
use Rattle.start_value.specs.Starts.{written_of}
use Rattle.start_value.specs.declared.start.Start.{Start}
use Rattle.state_text.specs.Starts.{written_call_of, written_head_of}
use Rattle.state_text.specs.declared.start.CallState.{CallState}
use Rattle.state_text.specs.declared.start.HeadStart.{HeadStart}
use Rattle.verdict.specs.Verdicts.{exceeded_count}
use Rattle.verdict.specs.declared.verdicts.Exceeded as past
use Rattle.verdict.specs.declared.verdicts.Exceeded.TheVariants.{Points, Size}
use Rattle.frame_verdict.specs.declared.verdicts.FrameVerdict.{FrameVerdict}
use Rattle.frame_verdict.specs.declared.verdicts.FrameVerdict.TheVariants.{Holds, ByFrames, Partial, Vacuous, Fails, NotInductive, Unroll, Unproved, Exceeded, Conflicts}
use Rattle.frame_verdict.specs.declared.verdicts.Named.{Named}
use Rattle.frame_verdict.specs.declared.verdicts.Named.TheVariants.{Failed, Turned}
use Rattle.frame_verdict.specs.declared.verdicts.Passed.{Passed}
use Rattle.frame_verdict.specs.declared.verdicts.Passed.TheVariants.{Refutations, EntryRefuted}

-- how a run ends that a report names
abbrev pub named_of : Named → reports.Named
named_of (Failed event at step) = ByEvent (framed_event_of event) at step
named_of (Turned at step) = ByTurn at step

-- a start, a head state if there is one, and contract steps, as what is shown
abbrev pub shown_with : Start → Option HeadStart → List CallState → Shown
shown_with start head calls = record { start = written_of start; head = option_map written_head_of head; calls = map written_call_of calls }

-- without contract steps
abbrev pub shown_by : Start → Option HeadStart → Shown
shown_by start head = record { start = written_of start; head = option_map written_head_of head; calls = [] }

-- what shows that a frame passes
abbrev pub passed_of : Passed → reports.Passed
passed_of (Refutations start fail turn) = reports.Refutations (written_of start) (proof_of fail ∷ proof_of turn ∷ [])
passed_of (EntryRefuted proof) = reports.EntryRefuted (proof_of proof)

-- what an exceeded budget says
abbrev pub exceeded_report : past.Exceeded → Report
exceeded_report (Points count) = PointsReport
exceeded_report (Size price) = SizeReport

-- what a verdict says
abbrev pub report_of : FrameVerdict → Report
report_of (Holds start fail turn) = HoldsReport
report_of (ByFrames passed) = HoldsReport
report_of (Partial start fail step turn) = PartialReport
report_of (Vacuous proof) = VacuousReport
report_of (Fails event at step start) = NamedReport (ByEvent (framed_event_of event) at step)
report_of (NotInductive event at step start head) = NotInductiveReport (framed_event_of event) at step
report_of (Unroll at step start head) = NamedReport (ByTurn at step)
report_of (Unproved rank ending start calls) = UnprovedReport rank (named_of ending)
report_of (Exceeded e) = exceeded_report e
report_of (Conflicts rank question proof) = ConflictsReport

-- what shows it
abbrev pub evidence_of : FrameVerdict → Evidence
evidence_of (Holds start fail turn) = PassedBy (reports.Refutations (written_of start) (proof_of fail ∷ proof_of turn ∷ []))
evidence_of (ByFrames passed) = Frames (map passed_of passed.items)
evidence_of (Partial start fail step turn) = PassedBy (reports.Refutations (written_of start) (proof_of fail ∷ proof_of step ∷ proof_of turn ∷ []))
evidence_of (Vacuous proof) = PassedBy (reports.EntryRefuted (proof_of proof))
evidence_of (Fails event at step start) = ShownBy (shown_by start None)
evidence_of (NotInductive event at step start head) = ShownBy (shown_by start (Some head))
evidence_of (Unroll at step start head) = ShownBy (shown_by start head)
evidence_of (Unproved rank ending start calls) = ShownBy (shown_with start None calls.items)
evidence_of (Exceeded e) = Count (exceeded_count e)
evidence_of (Conflicts rank question proof) = SpentOn rank (frame_question question) (proof_of proof)

-- the verdict on a whole is right, and what it has shows it
abbrev pub IsFrameVerdict : Whole → Layout → Budget → FrameVerdict → Type 0
IsFrameVerdict w layout b v = IsRightReport w layout (budget_of b) (report_of v) (evidence_of v)
