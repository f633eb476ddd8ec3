use Rattle.std.proofs.Common.{◌≡◌, ◌+◌, ◌<◌, IfOk, List, ap, refl, sym, ◌∙◌, subst, map}
use Rattle.std.specs.Prelude.{AllPairs}
use Rattle.word_spec.specs.State.{State}
use Rattle.bilv_spec.specs.EntryFaults.{IsEntryStateFault}
use Rattle.bilv_spec.specs.Verdict.{IsEntryState}
use Rattle.call_spec.specs.Calls.{Answer, plain_answer}
use Rattle.frame_texts_spec.specs.CallReplays as replays
use Rattle.frame_texts_spec.specs.CallReplays.{call_run_answer}
use Rattle.frame_texts_spec.specs.FrameReplays.{bound_of, step_of}
use Rattle.start_value.specs.Starts.{written_of}
use Rattle.state_text.specs.Starts.{written_call_of}
use Rattle.state_text.specs.declared.start.CallState.{CallState}
use Rattle.table_run.specs.CalledRuns.{frame_of_rank, start_called}
use Rattle.table_run.specs.Endings.{fault_of}
use Rattle.call_text.specs.Texts.{called_ending_of}
use Rattle.call_replay.proofs.Replayed.{ended_is, outcome_is, right_of_start}
use Rattle.call_replay.proofs.running.run_named.Goals as goal

pub called_lines_ok-requires : goal.called_lines_ok-requires
called_lines_ok-requires g c = record {
  pc = ap (λ (s : State). s.pc) (c.in_ok-state.ensures (map written_call_of c.args.text.now.calls.items));
}

pub returns-in-Err : goal.returns-in-Err
returns-in-Err g c =
    let f = frame_of_rank c.args.frame.now in
    let calls = map written_call_of c.args.text.now.calls.items in
    let start = start_called g.M.Machine.form c.args.frame.now (written_of c.args.text.now.start) calls in
    c.faulted.ensures f (called_ending_of c.args.text.now.named) start calls (sym c.frame.ensures) refl
    (subst (λ (s : State). IsEntryStateFault f.program s (fault_of c.in-Err.fault)) (c.in_ok-state.ensures calls) c.in-Err.ensures.fault)

pub run_called-requires-clause-calls : goal.run_called-requires-clause-calls
run_called-requires-clause-calls g c =
    subst (λ (l : List CallState). AllPairs (λ x y. x.step < y.step) l) (sym c.as_slice-calls.ensures.value) c.requires.calls

pub returns : goal.returns
returns g c =
    let f = frame_of_rank c.args.frame.now in
    let n = called_ending_of c.args.text.now.named in
    let calls = map written_call_of c.as_slice-calls.result.now in
    let start = start_called g.M.Machine.form c.args.frame.now (written_of c.args.text.now.start) calls in
    let entry : IsEntryState f.program start.state =
    subst (λ (s : State). IsEntryState f.program s) (c.in_ok-state.ensures calls) (c.in_default.ensures.ok
    (right_of_start f.program g.M.Machine.form (written_of c.args.text.now.start) (g.M.State.View.view c.in_ok-state.state) (c.in_ok-state.ensures calls))) in
    subst (λ (l : List CallState). IfOk c.compared.result (λ r. plain_answer r.status r.text.items
    ≡ call_run_answer f n (start_called g.M.Machine.form c.args.frame.now (written_of c.args.text.now.start) (map written_call_of l))
    (map written_call_of l))) c.as_slice-calls.ensures.value
    (subst (λ (a : Answer). IfOk c.compared.result (λ r. plain_answer r.status r.text.items ≡ a)) (ended_is f n start calls entry refl)
    (c.compared.ensures (replays.outcome f (replays.bare n) start calls)
    (outcome_is f (replays.bare n) start calls c.in_ok-run.run' (c.step_of-limit.result + 1) c.bound.result
    (ap (λ k. k + 1) (c.step_of-limit.ensures ∙ ap step_of c.bare-ending.ensures)) (c.bound.ensures ∙ ap bound_of c.bare-ending.ensures) refl
    c.in_ok-run.ensures.cause c.in_ok-run.ensures.found c.in_ok-run.ensures.called)))
