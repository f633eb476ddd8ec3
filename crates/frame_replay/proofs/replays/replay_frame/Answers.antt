use Rattle.std.proofs.Common.{◌≡◌, IfOk, ◌≤◌, length, ap, ◌∙◌, refl, subst, arith}
use Rattle.machine_spec.specs.StateText.{Layout, IsWritten}
use Rattle.bilv_spec.specs.Points.{is_known_at}
use Rattle.call_spec.specs.Calls.{Answer, plain_answer}
use Rattle.clause_spec.specs.Checks.{text_limit}
use Rattle.frame_text.specs.Readings.{frame_fault_of}
use Rattle.frame_texts_spec.specs.CallTexts.{BlockFault, CallRefused, OfFramed}
use Rattle.call_text.specs.Texts.{called_text_of}
use Rattle.start_value.specs.Starts.{layout_of, written_of}
use Rattle.program_value.specs.Programs.{program_of}
use Rattle.table_run.specs.FrameEnds.{whole_of}
use Rattle.frame_replay.specs.Readings.{is_among, told_of}
use Rattle.frame_replay.proofs.Replayed.{blockless, head_written, large_is, told_is}
use Rattle.frame_replay.proofs.Written.{text_written}
use Rattle.frame_replay.proofs.replays.replay_frame.Goals as goal

pub returns-then-text-gt-REPORT_LIMIT : goal.returns-then-text-gt-REPORT_LIMIT
returns-then-text-gt-REPORT_LIMIT g c =
    let w = whole_of (program_of c.args.program.now) c.args.invariants.now in
    subst (λ (a : Answer). IfOk c.too_large.result (λ r. plain_answer r.status r.text.items ≡ a))
    (large_is w (is_among c.args.returns.now) g.M.Machine.form c.args.text.now c.if-text-gt-REPORT_LIMIT.true)
    (c.too_large.ensures w.program g.M.Machine.form c.args.text.now)

pub returns-in-Refused : goal.returns-in-Refused
returns-in-Refused g c =
    let w = whole_of (program_of c.args.program.now) c.args.invariants.now in
    let few : length c.args.text.now ≤ text_limit = omega arith in
    let r = c.in-Refused.refusal in
    subst (λ (a : Answer). IfOk c.refused.result (λ r. plain_answer r.status r.text.items ≡ a))
    (told_is w (is_among c.args.returns.now) (layout_of c.layout.result) g.M.Machine.form c.args.text.now
    (CallRefused r.line (OfFramed (frame_fault_of r.kind))) few c.layout.ensures
    (c.in_ok-refusal.ensures g.M.Machine.machine c.args.program.now.entry ∙ ap told_of c.in-Refused.is)) (c.refused.ensures w g.M.Machine.form)

pub returns-in-Block : goal.returns-in-Block
returns-in-Block g c =
    let w = whole_of (program_of c.args.program.now) c.args.invariants.now in
    let few : length c.args.text.now ≤ text_limit = omega arith in
    subst (λ (a : Answer). IfOk c.bad_block.result (λ r. plain_answer r.status r.text.items ≡ a))
    (told_is w (is_among c.args.returns.now) (layout_of c.layout.result) g.M.Machine.form c.args.text.now (CallRefused c.in-Block.line BlockFault) few
    c.layout.ensures (c.in_ok-refusal.ensures g.M.Machine.machine c.args.program.now.entry ∙ ap told_of c.in-Block.is)) (c.bad_block.ensures w g.M.Machine.form)

pub run_named-requires-clause-start : goal.run_named-requires-clause-start
run_named-requires-clause-start g c =
    let w = whole_of (program_of c.args.program.now) c.args.invariants.now in
    let is =
    text_written w (is_among c.args.returns.now) refl (layout_of c.layout.result) c.args.text.now (called_text_of c.in-State.segment)
    (c.in_ok-refusal.ensures g.M.Machine.machine c.args.program.now.entry ∙ ap told_of c.in-State.is) in
    subst (λ (l : Layout). IsWritten l (is_known_at w.program) (written_of c.in-State.segment.start)) c.layout.ensures is.start

pub run_named-requires-clause-head : goal.run_named-requires-clause-head
run_named-requires-clause-head g c =
    let w = whole_of (program_of c.args.program.now) c.args.invariants.now in
    let is =
    text_written w (is_among c.args.returns.now) refl (layout_of c.layout.result) c.args.text.now (called_text_of c.in-State.segment)
    (c.in_ok-refusal.ensures g.M.Machine.machine c.args.program.now.entry ∙ ap told_of c.in-State.is) in
    head_written (layout_of c.layout.result) g.M.Machine.form c.args.program.now.image.now c.in-State.segment.head c.layout.ensures is.head

pub run_named-requires-clause-frame : goal.run_named-requires-clause-frame
run_named-requires-clause-frame g c =
    let w = whole_of (program_of c.args.program.now) c.args.invariants.now in
    let is =
    text_written w (is_among c.args.returns.now) refl (layout_of c.layout.result) c.args.text.now (called_text_of c.in-State.segment)
    (c.in_ok-refusal.ensures g.M.Machine.machine c.args.program.now.entry ∙ ap told_of c.in-State.is) in
    is.entry

pub run_named-requires-clause-step : goal.run_named-requires-clause-step
run_named-requires-clause-step g c =
    let w = whole_of (program_of c.args.program.now) c.args.invariants.now in
    let is =
    text_written w (is_among c.args.returns.now) refl (layout_of c.layout.result) c.args.text.now (called_text_of c.in-State.segment)
    (c.in_ok-refusal.ensures g.M.Machine.machine c.args.program.now.entry ∙ ap told_of c.in-State.is) in
    is.step

pub returns-in-State : goal.returns-in-State
returns-in-State g c =
    let w = whole_of (program_of c.args.program.now) c.args.invariants.now in
    let few : length c.args.text.now ≤ text_limit = omega arith in
    let t = called_text_of c.in-State.segment in
    let is =
    text_written w (is_among c.args.returns.now) refl (layout_of c.layout.result) c.args.text.now t
    (c.in_ok-refusal.ensures g.M.Machine.machine c.args.program.now.entry ∙ ap told_of c.in-State.is) in
    subst (λ (a : Answer). IfOk c.run_named.result (λ r. plain_answer r.status r.text.items ≡ a))
    (blockless w g.M.Machine.form t is.entry is.calls
    ∙ told_is w (is_among c.args.returns.now) (layout_of c.layout.result) g.M.Machine.form c.args.text.now _ few c.layout.ensures
    (c.in_ok-refusal.ensures g.M.Machine.machine c.args.program.now.entry ∙ ap told_of c.in-State.is)) c.run_named.ensures
