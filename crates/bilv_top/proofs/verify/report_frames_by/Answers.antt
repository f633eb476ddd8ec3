use Rattle.std.proofs.Common.{◌∙◌, ap, List, map, subst, sym}
use Rattle.std.specs.Prelude.{All}
use Rattle.std.specs.List.Sorted.{IsStrictlyIncreasing}
use Rattle.answer_spec.specs.FrameAnswers.{frame_report_answer}
use Rattle.machine_spec.specs.StateText.{Layout}
use Rattle.frame_verdict.specs.FrameFunctions.{IsCallable}
use Rattle.notes_value.specs.FrameViews.{contract_of}
use Rattle.notes_value.specs.declared.notes.Contract.{Contract}
use Rattle.frame_spec.specs.FrameReports.{IsRightReport}
use Rattle.call_form.specs.Views.{budget_of}
use Rattle.frame_verdict.specs.FrameVerdicts.{evidence_of, report_of}
use Rattle.program_value.specs.Programs.{program_of}
use Rattle.bilv_top.specs.Answers.{answer_of}
use Rattle.bilv_top.specs.Frames.{whole_with}
use Rattle.frame_verdict.proofs.PlainReports.{plain_verdicts}
use Rattle.bilv_top.proofs.Founds.{alone_with, callable_contracts, whole_same}
use Rattle.bilv_top.proofs.PlainAnswers.{due_found, verified_due}
use Rattle.bilv_top.proofs.verify.report_frames_by.Goals as goal

pub verify_frame-requires-clause-callable : goal.verify_frame-requires-clause-callable
verify_frame-requires-clause-callable g c =
    subst (λ (l : List Contract). All (λ x. IsCallable g.M.Machine.machine (contract_of x)) l) (sym c.as_slice-contracts.ensures.value)
    (callable_contracts (program_of c.args.program.now) c.args.framed.now c.requires.contracts c.requires.fitted)

pub verify_frame-requires-clause-alone : goal.verify_frame-requires-clause-alone
verify_frame-requires-clause-alone g c some =
    c.as_slice-invariants.ensures.value
    ∙ alone_with (program_of c.args.program.now) c.args.framed.now c.requires.fitted (λ none. some (c.as_slice-contracts.ensures.value ∙ none))

pub verify_frame-requires-clause-rising : goal.verify_frame-requires-clause-rising
verify_frame-requires-clause-rising g c = subst IsStrictlyIncreasing (sym c.as_slice-invariants.ensures.value) c.requires.rising

pub returns : goal.returns
returns g c =
    let p = program_of c.args.program.now in
    let f = c.args.framed.now in
    let w = whole_with p f in
    let b = budget_of c.args.budget in
    let v = c.in_ok-verdict.verdict in
    let over = answer_of c.in_ok-answer.answer in
    verified_due w g.M.Machine.form b over (answer_of c.as_due.result)
    (due_found p f over (answer_of c.as_due.result) c.as_due.ensures.plain c.as_due.ensures.framed) plain_verdicts v
    (whole_same (λ w. IsRightReport w g.M.Machine.form b (report_of v) (evidence_of v)) p f c.as_slice-invariants.result.now
    c.as_slice-contracts.result.now c.as_slice-invariants.ensures.value c.as_slice-contracts.ensures.value c.in_ok-verdict.ensures)
    (c.in_ok-answer.ensures w (ap (map contract_of) (sym c.as_slice-contracts.ensures.value))
    ∙ ap (λ (l : Layout). frame_report_answer w l b (report_of v) (evidence_of v)) c.layout.ensures)
