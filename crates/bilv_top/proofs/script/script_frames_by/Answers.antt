use Rattle.std.proofs.Common.{◌≤◌, List, length, subst, sym}
use Rattle.std.specs.Prelude.{All}
use Rattle.std.proofs.lemmas.Result.{IfOk-weaker}
use Rattle.call_form.specs.Views.{budget_of, frame_question}
use Rattle.frame_verdict.specs.FrameScripted.{IsFrameScripted}
use Rattle.frame_verdict.specs.FrameFunctions.{IsCallable}
use Rattle.notes_value.specs.FrameViews.{contract_of}
use Rattle.notes_value.specs.declared.notes.Contract.{Contract}
use Rattle.program_value.specs.Programs.{program_of}
use Rattle.bilv_top.specs.Answers.{answer_of}
use Rattle.bilv_top.specs.Frames.{whole_with}
use Rattle.frame_verdict.proofs.PlainScripts.{plain_scripts}
use Rattle.bilv_top.proofs.PlainAnswers.{scripted_due}
use Rattle.bilv_top.proofs.Founds.{callable_contracts, whole_same}
use Rattle.bilv_top.proofs.script.script_frames_by.Goals as goal

pub script_frame-requires-clause-callable : goal.script_frame-requires-clause-callable
script_frame-requires-clause-callable g c =
    subst (λ (l : List Contract). All (λ x. IsCallable g.M.Machine.machine (contract_of x)) l) (sym c.as_slice-contracts.ensures.value)
    (callable_contracts (program_of c.args.program.now) c.args.framed.now c.requires.contracts c.requires.fitted)

pub script_frame-requires-clause-rank : goal.script_frame-requires-clause-rank
script_frame-requires-clause-rank g c = subst (λ (l : List Contract). c.args.rank ≤ length l) (sym c.as_slice-contracts.ensures.value) c.requires.rank

pub returns : goal.returns
returns g c =
    let f = c.args.framed.now in
    let q = frame_question c.args.question in
    let scripted = whole_same (λ w. IsFrameScripted w c.args.rank g.M.Machine.form (budget_of c.args.budget) q c.in_ok-scripted.scripted)
    (program_of c.args.program.now) f c.as_slice-invariants.result.now c.as_slice-contracts.result.now c.as_slice-invariants.ensures.value
    c.as_slice-contracts.ensures.value c.in_ok-scripted.ensures in
    let w = whole_with (program_of c.args.program.now) f in
    IfOk-weaker c.say_frame.result _ _
    (λ a said. scripted_due plain_scripts w c.args.rank g.M.Machine.form (budget_of c.args.budget) q (answer_of a)
    (said w c.args.rank g.M.Machine.form q scripted)) c.say_frame.ensures
