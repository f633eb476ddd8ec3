-- Where notes have neither invariants nor contracts, a verdict over frames is one on their program, and so are the certificate and the script of a question.
use Rattle.std.specs.Prelude.{ℕ, ◌≡◌, [], ◌∷◌}
use Rattle.machine_spec.specs.StateText.{Layout}
use Rattle.call_spec.specs.Calls as calls
use Rattle.bilv_spec.specs.Answers as answers
use Rattle.bilv_spec.specs.Run.{Program}
use Rattle.bilv_spec.specs.Scripts.{IsScriptAnswer}
use Rattle.frame_spec.specs.Frames.{OfStep}
use Rattle.frame_spec.specs.FrameQuestions.{EntryQuestion, FailQuestion, TurnQuestion}
use Rattle.frame_spec.specs.FrameReports.{Report, HoldsReport, VacuousReport, NamedReport, PointsReport, SizeReport, ByEvent, ByTurn, Evidence, PassedBy, Refutations, EntryRefuted, ShownBy, SpentOn, Count, IsRightReport}
use Rattle.frame_spec.specs.FrameScripts.{IsFrameScriptAnswer}
use Rattle.frame_laws.specs.HeadlessLaws.{as_report, as_evidence, as_question, headless_whole}
use Rattle.verdict.specs.Verdicts.{IsCertificate}
use Rattle.verdict.specs.declared.verdicts.Certified.{Certified}
use Rattle.frame_verdict.specs.FrameCertificates.{IsFrameCertificate}
use Rattle.frame_verdict.specs.FrameVerdicts.{report_of, evidence_of}
use Rattle.frame_verdict.specs.declared.verdicts.FrameVerdict.{FrameVerdict}

-- A report over frames as one on a program. What no program's report says stands for spent conflicts, which no evidence shows.
abbrev pub plain_report : Report → answers.Report
plain_report HoldsReport = answers.HoldsReport
plain_report VacuousReport = answers.VacuousReport
plain_report (NamedReport (ByEvent (OfStep e) at step)) = answers.FailsReport e at step
plain_report (NamedReport (ByTurn at step)) = answers.UnrollReport at step
plain_report PointsReport = answers.PointsReport
plain_report SizeReport = answers.SizeReport
plain_report other = answers.ConflictsReport

-- what shows it, if it shows a report on a program
abbrev pub plain_evidence : Evidence → calls.Evidence
plain_evidence (PassedBy (Refutations start (fail ∷ turn ∷ []))) = calls.Refutations start fail turn
plain_evidence (PassedBy (EntryRefuted proof)) = calls.EntryRefuted proof
plain_evidence (ShownBy s) = calls.RunOf s.start
plain_evidence (SpentOn rank EntryQuestion proof) = calls.SpentOn calls.EntryQuestion proof
plain_evidence (SpentOn rank FailQuestion proof) = calls.SpentOn calls.FailQuestion proof
plain_evidence (SpentOn rank TurnQuestion proof) = calls.SpentOn calls.TurnQuestion proof
plain_evidence (Count n) = calls.Count n
plain_evidence other = calls.NoEvidence

-- what a verdict over frames says of a program, and what shows it
abbrev pub plain_report_of : FrameVerdict → answers.Report
plain_report_of v = plain_report (report_of v)

abbrev pub plain_evidence_of : FrameVerdict → calls.Evidence
plain_evidence_of v = plain_evidence (evidence_of v)

-- A verdict that is right of the frame of a program says and shows what a report on the program does, and that report is right.
abbrev pub PlainVerdicts : Type 0
PlainVerdicts = (p : Program) (layout : Layout) (b : calls.Budget) (v : FrameVerdict) →
    IsRightReport (headless_whole p) layout b (report_of v) (evidence_of v) →
    (as_report (plain_report_of v) ≡ report_of v) × (as_evidence (plain_evidence_of v) ≡ evidence_of v)
    × answers.IsRightReport p layout b (plain_report_of v) (plain_evidence_of v)

-- What a question of the frame comes to, the question of the program comes to.
abbrev pub PlainCertificates : Type 0
PlainCertificates = (p : Program) (rank : ℕ) (b : calls.Budget) (question : calls.Question) (c : Certified) →
    IsFrameCertificate (headless_whole p) rank b (as_question question) c → IsCertificate p b question c

-- The answer that prints the script of a question of the frame is one that prints the script of the question of the program.
abbrev pub PlainScripts : Type 0
PlainScripts = (p : Program) (rank : ℕ) (layout : Layout) (b : calls.Budget) (question : calls.Question) (a : calls.Answer) →
    IsFrameScriptAnswer (headless_whole p) rank layout b (as_question question) a → IsScriptAnswer p layout b question a
