use Rattle.std.proofs.Common.{◌≡◌, ◌∙◌, ◌+◌, IfOk, ap, subst}
use Rattle.std.specs.Prelude.{[], option_map}
use Rattle.word_spec.specs.State.{State}
use Rattle.bilv_spec.specs.EntryFaults.{IsEntryStateFault}
use Rattle.program_value.specs.Programs.{program_at, program_of}
use Rattle.bilv_spec.specs.Run.{Program}
use Rattle.call_spec.specs.Calls.{Answer, plain_answer}
use Rattle.frame_texts_spec.specs.CallReplays.{bare, outcome}
use Rattle.frame_texts_spec.specs.FrameReplays.{bound_of, step_of}
use Rattle.call_text.specs.Texts.{called_ending_of}
use Rattle.start_value.specs.Starts.{written_of}
use Rattle.state_text.specs.Starts.{written_head_of}
use Rattle.table_run.specs.Endings.{fault_of}
use Rattle.table_run.specs.FrameEnds.{frame_found_of, frame_of, start_shown}
use Rattle.frame_replay.proofs.Replayed.{answered, answered_false}
use Rattle.frame_replay.proofs.running.run_named.Goals as goal

pub returns-in-Err : goal.returns-in-Err
returns-in-Err g c =
    let p : Program = program_of c.args.program.now in
    c.faulted.ensures (frame_of p c.args.invariants.now) (called_ending_of c.args.text.now.named)
    (start_shown p c.args.invariants.now g.M.Machine.form (written_of c.args.text.now.start) (option_map written_head_of c.args.text.now.head))
    c.requires.frame (subst (λ (s : State). IsEntryStateFault (program_at c.args.program.now s.pc) s (fault_of c.in-Err.fault))
    c.in_ok-state.ensures c.in-Err.ensures.fault)

pub returns-in-Some : goal.returns-in-Some
returns-in-Some g c =
    let p : Program = program_of c.args.program.now in
    let named = called_ending_of c.args.text.now.named in
    let w = written_of c.args.text.now.start in
    let seen = start_shown p c.args.invariants.now g.M.Machine.form w (option_map (λ h. written_head_of h.now) c.as_ref-head.result) in
    subst (λ (a : Answer). IfOk c.false_invariant.result (λ r. plain_answer r.status r.text.items ≡ a))
    (answered_false p c.args.invariants.now g.M.Machine.form w c.as_ref-head.result c.args.text.now.head c.as_ref-head.ensures.value named
    (g.M.State.View.view c.in_ok-state.state) c.in_ok-state.ensures c.in_default.ensures.link c.in_default.ensures.lines c.in_ok-line.field-0
    c.in_ok-line.ensures c.in-Some.line c.in-Some.is)
    (c.false_invariant.ensures named (outcome (frame_of p c.args.invariants.now) (bare named) seen []))

pub returns : goal.returns
returns g c =
    let p : Program = program_of c.args.program.now in
    subst (λ (a : Answer). IfOk c.compared.result (λ r. plain_answer r.status r.text.items ≡ a))
    (answered p c.args.invariants.now g.M.Machine.form (written_of c.args.text.now.start) c.as_ref-head.result c.args.text.now.head
    c.as_ref-head.ensures.value (called_ending_of c.args.text.now.named) (g.M.State.View.view c.in_ok-state.state) c.in_ok-state.ensures
    c.in_default.ensures.link c.in_default.ensures.lines c.in_ok-line.field-0 c.in_ok-line.ensures c.is_some.result c.bound.result
    (c.step_of-limit.result + 1) (frame_found_of c.in_ok-came.came) c.in_default-2.is c.is_some.ensures
    (c.bound.ensures ∙ ap bound_of c.bare-ending.ensures) (ap (λ n. n + 1) (c.step_of-limit.ensures ∙ ap step_of c.bare-ending.ensures))
    c.in_ok-came.ensures) c.compared.ensures
