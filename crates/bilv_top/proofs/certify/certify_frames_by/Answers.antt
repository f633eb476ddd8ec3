use Rattle.std.proofs.Common.{◌≤◌, List, length, subst, sym}
use Rattle.std.specs.Prelude.{All}
use Rattle.call_form.specs.Views.{budget_of, frame_question}
use Rattle.frame_verdict.specs.FrameCertificates.{IsFrameCertificate}
use Rattle.frame_verdict.specs.FrameFunctions.{IsCallable}
use Rattle.notes_value.specs.FrameViews.{contract_of}
use Rattle.notes_value.specs.declared.notes.Contract.{Contract}
use Rattle.program_value.specs.Programs.{program_of}
use Rattle.bilv_top.specs.Answers.{answer_of}
use Rattle.bilv_top.specs.Frames.{whole_with}
use Rattle.frame_verdict.proofs.PlainCertificates.{plain_certificates}
use Rattle.bilv_top.proofs.PlainAnswers.{certified_due, due_found, plain_certificate}
use Rattle.bilv_top.proofs.Founds.{callable_contracts, whole_same}
use Rattle.bilv_top.proofs.certify.certify_frames_by.Goals as goal

pub certify_frame-requires-clause-callable : goal.certify_frame-requires-clause-callable
certify_frame-requires-clause-callable g c =
    subst (λ (l : List Contract). All (λ x. IsCallable g.M.Machine.machine (contract_of x)) l) (sym c.as_slice-contracts.ensures.value)
    (callable_contracts (program_of c.args.program.now) c.args.framed.now c.requires.contracts c.requires.fitted)

pub certify_frame-requires-clause-rank : goal.certify_frame-requires-clause-rank
certify_frame-requires-clause-rank g c = subst (λ (l : List Contract). c.args.rank ≤ length l) (sym c.as_slice-contracts.ensures.value) c.requires.rank

pub returns : goal.returns
returns g c =
    let p = program_of c.args.program.now in
    let f = c.args.framed.now in
    let w = whole_with p f in
    let b = budget_of c.args.budget in
    let q = frame_question c.args.question in
    let over = answer_of c.in_ok-answer.answer in
    let certified = whole_same (λ w. IsFrameCertificate w c.args.rank b q c.in_ok-certified.certified) p f c.as_slice-invariants.result.now
    c.as_slice-contracts.result.now c.as_slice-invariants.ensures.value c.as_slice-contracts.ensures.value c.in_ok-certified.ensures in
    certified_due w c.args.rank b q over (answer_of c.as_due.result) (due_found p f over (answer_of c.as_due.result) c.as_due.ensures.plain c.as_due.ensures.framed)
    (c.in_ok-answer.ensures.framed w certified)
    (λ none kind asked. c.in_ok-answer.ensures.plain p kind asked
    (plain_certificate plain_certificates w c.args.rank b q c.in_ok-certified.certified certified none kind asked))
