use Rattle.std.proofs.Common.{ℕ, Bool, All, ◌≡◌, ◌<◌, ◌≤◌, IfOk, ap, sym, subst, arith, false, length, refl}
use Rattle.call_spec.specs.Calls.{Answer, plain_answer}
use Rattle.clause_spec.specs.Checks.{text_limit}
use Rattle.machine_spec.specs.StateText.{Layout}
use Rattle.frame_spec.specs.FrameReports.{IsWrittenCall}
use Rattle.frame_spec.specs.FrameVerdict.{frame_of}
use Rattle.frame_texts_spec.specs.CallTextLaws.{HasContracts}
use Rattle.frame_texts_spec.specs.CallTexts.{frame_name}
use Rattle.notes_value.specs.FrameViews.{contract_of}
use Rattle.notes_value.specs.Reads.{IsReadableContract}
use Rattle.start_value.specs.Starts.{layout_of}
use Rattle.state_text.specs.Starts.{written_call_of}
use Rattle.call_text.specs.Texts.{called_text_of, frame_name_of}
use Rattle.program_value.specs.Programs.{program_of}
use Rattle.call_replay.specs.Readings.{refusal_of, told_of, whole_by, whole_with}
use Rattle.call_replay.proofs.Replayed.{large_is, run_is, told_is}
use Rattle.call_replay.proofs.Written.{calls_rising, calls_written, frame_is, headless, of_images, of_pairs, start_written, step_low, told_in}
use Rattle.call_replay.proofs.replays.replay_called.Goals as goal

pub returns-then-text-gt-REPORT_LIMIT : goal.returns-then-text-gt-REPORT_LIMIT
returns-then-text-gt-REPORT_LIMIT g c returns =
    let w = whole_with (program_of c.args.program.now) c.args.contracts.now in
    subst (λ (a : Answer). IfOk c.too_large.result (λ r. plain_answer r.status r.text.items ≡ a))
    (large_is w returns g.M.Machine.form c.args.text.now c.if-text-gt-REPORT_LIMIT.true) (c.too_large.ensures w.program g.M.Machine.form c.args.text.now)

pub read_called-requires : goal.read_called-requires
read_called-requires g c m entry =
    subst (λ (l : Layout). HasContracts l (whole_by m c.args.program.now.image.now c.args.program.now.notes.now c.args.contracts.now entry)) (sym c.layout.ensures)
    c.requires.changes

pub invariant_of-frame : goal.invariant_of-frame
invariant_of-frame g c = record {
  ranked = c.rank_of.ensures.within;
  readable = subst (λ (has : ℕ → Bool). All (λ x. IsReadableContract has (contract_of x)) c.args.contracts.now) (sym g.met.M.Machine.same_registers)
      c.requires.contracts;
}

pub returns-in-Refused : goal.returns-in-Refused
returns-in-Refused g c returns =
    let w = whole_with (program_of c.args.program.now) c.args.contracts.now in
    let few : length c.args.text.now ≤ text_limit = omega arith in
    subst (λ (a : Answer). IfOk c.refused.result (λ r. plain_answer r.status r.text.items ≡ a))
    (told_is w returns (layout_of c.layout.result) g.M.Machine.form c.args.text.now (refusal_of c.in-Refused.refusal) _ few c.layout.ensures
    (c.in_ok-refusal.ensures g.M.Machine.machine c.args.program.now.entry returns) (ap told_of c.in-Refused.is)) (c.refused.ensures w g.M.Machine.form)

pub run_named-requires-clause-start : goal.run_named-requires-clause-start
run_named-requires-clause-start g c =
    let w = whole_with (program_of c.args.program.now) c.args.contracts.now in
    let t = called_text_of c.in-State.read in
    let told = told_in (layout_of c.layout.result) g.M.Machine.form w c.args.text.now t _ c.layout.ensures
    (c.in_ok-refusal.ensures g.M.Machine.machine c.args.program.now.entry (λ a. false)) (ap told_of c.in-State.is) in
    start_written g.M.Machine.form w refl c.requires.changes c.args.text.now t told (frame_of w c.rank_of.result)
    (frame_is w c.rank_of.result (frame_name_of c.frame.result) (frame_name t.named) (c.rank_of.ensures.rank w.program) c.frame.ensures)

pub run_named-requires-clause-blocks : goal.run_named-requires-clause-blocks
run_named-requires-clause-blocks g c =
    let w = whole_with (program_of c.args.program.now) c.args.contracts.now in
    let t = called_text_of c.in-State.read in
    let told = told_in (layout_of c.layout.result) g.M.Machine.form w c.args.text.now t _ c.layout.ensures
    (c.in_ok-refusal.ensures g.M.Machine.machine c.args.program.now.entry (λ a. false)) (ap told_of c.in-State.is) in
    of_images (IsWrittenCall w g.M.Machine.form) written_call_of c.in-State.read.calls.items
    (calls_written g.M.Machine.form w refl c.requires.changes c.args.text.now t told)

pub run_named-requires-clause-calls : goal.run_named-requires-clause-calls
run_named-requires-clause-calls g c =
    let w = whole_with (program_of c.args.program.now) c.args.contracts.now in
    let t = called_text_of c.in-State.read in
    let told = told_in (layout_of c.layout.result) g.M.Machine.form w c.args.text.now t _ c.layout.ensures
    (c.in_ok-refusal.ensures g.M.Machine.machine c.args.program.now.entry (λ a. false)) (ap told_of c.in-State.is) in
    of_pairs (λ x y. x.step < y.step) written_call_of c.in-State.read.calls.items
    (calls_rising g.M.Machine.form w refl c.requires.changes c.args.text.now t told)

pub run_named-requires-clause-step : goal.run_named-requires-clause-step
run_named-requires-clause-step g c =
    let w = whole_with (program_of c.args.program.now) c.args.contracts.now in
    let t = called_text_of c.in-State.read in
    let told = told_in (layout_of c.layout.result) g.M.Machine.form w c.args.text.now t _ c.layout.ensures
    (c.in_ok-refusal.ensures g.M.Machine.machine c.args.program.now.entry (λ a. false)) (ap told_of c.in-State.is) in
    step_low g.M.Machine.form w refl c.requires.changes c.args.text.now t told

pub returns-in-State : goal.returns-in-State
returns-in-State g c returns =
    let w = whole_with (program_of c.args.program.now) c.args.contracts.now in
    let t = called_text_of c.in-State.read in
    let told = told_in (layout_of c.layout.result) g.M.Machine.form w c.args.text.now t _ c.layout.ensures
    (c.in_ok-refusal.ensures g.M.Machine.machine c.args.program.now.entry (λ a. false)) (ap told_of c.in-State.is) in
    let few : length c.args.text.now ≤ text_limit = omega arith in
    subst (λ (a : Answer). IfOk c.run_named.result (λ r. plain_answer r.status r.text.items ≡ a))
    (run_is w returns (layout_of c.layout.result) g.M.Machine.form c.args.text.now t _ (frame_of w c.rank_of.result) few c.layout.ensures
    (c.in_ok-refusal.ensures g.M.Machine.machine c.args.program.now.entry returns) (ap told_of c.in-State.is)
    (frame_is w c.rank_of.result (frame_name_of c.frame.result) (frame_name t.named) (c.rank_of.ensures.rank w.program) c.frame.ensures)
    (headless g.M.Machine.form w refl c.requires.changes c.args.text.now t told)) c.run_named.ensures
