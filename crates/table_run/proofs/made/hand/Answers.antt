use Rattle.std.proofs.Common.{◌∙◌, List, [], ap, map, sym, subst}
use Rattle.word_spec.specs.State.{State}
use Rattle.bilv_spec.specs.Run.{Place}
use Rattle.frame_spec.specs.Frames as frames
use Rattle.frame_texts_spec.specs.CallReplays.{block_at}
use Rattle.notes_value.specs.FrameViews.{contract_of}
use Rattle.state_text.specs.Starts.{written_call_of}
use Rattle.table_run.specs.CalledFrames.{IsStanding, frame_in}
use Rattle.table_run.specs.MadeCalls.{handed}
use Rattle.table_run.specs.declared.called_turns.Stand.{Stand}
use Rattle.table_run.proofs.made.hand.Goals as goal

pub returns-in-Row-clause-handed : goal.returns-in-Row-clause-handed
returns-in-Row-clause-handed g c stack stands =
    let here : Place = record { state = g.M.State.View.view c.args.state.now; stack = [] } in
    sym (ap (λ (s : Stand). handed s (frame_in c.args.frame.now) here (block_at (map written_call_of c.args.calls.now) c.args.step))
    c.in-Row.is)

pub returns-in_ok-block-in-Contract-clause-handed : goal.returns-in_ok-block-in-Contract-clause-handed
returns-in_ok-block-in-Contract-clause-handed g c stack stands =
    let s : State = g.M.State.View.view c.args.state.now in
    let here : Place = record { state = s; stack = [] } in
    let stepped : List frames.Contract = map contract_of c.args.frame.now.stepped.now in
    let there = subst (λ (z : Stand). IsStanding z stepped s stack) c.in-Contract.is stands in
    c.in_ok-block-in-Contract.ensures.handed there.0
    ∙ sym (ap (λ (z : Stand). handed z (frame_in c.args.frame.now) here
    (block_at (map written_call_of c.args.calls.now) c.args.step)) c.in-Contract.is)
