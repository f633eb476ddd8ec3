use Rattle.std.proofs.Common.{sym, ap, ◌∙◌}
use Rattle.std.specs.Prelude.{true, false, reverse}
use Rattle.bilv_spec.specs.Run.{Place}
use Rattle.frame_spec.specs.Frames.{is_head}
use Rattle.frame_spec.specs.FrameRuns.{Halts}
use Rattle.state_text.specs.Starts.{event_of}
use Rattle.program_value.specs.Programs.{program_of}
use Rattle.table_run.specs.FrameEnds.{frame_of}
use Rattle.table_run.proofs.Stepped.{end_is}
use Rattle.table_run.proofs.FrameSteps.{halts, leaves, lands}
use Rattle.table_run.proofs.cuts.frame_step.Goals as goal

pub returns-in-Stops : goal.returns-in-Stops
returns-in-Stops g c =
    let p = program_of c.args.p.now in
    let here : Place = record { state = g.M.State.View.view c.args.state.now; stack = reverse c.args.stack.now.items } in
    record {
      left = c.in_ok-event.ensures.left;
      end =
          halts p c.args.invariants.now (g.M.State.View.view c.args.entry.now) here c.args.choice (event_of c.in-Stops.event)
          (end_is c.in_ok-event.field-0 _ (g.M.State.View.view c.step.new.state) (reverse c.step.new.stack.items) _ c.in-Stops.is c.in_ok-event.ensures.end)
          ∙ sym (ap Halts (c.frame_event.ensures p));
    }

pub returns-in-Exits : goal.returns-in-Exits
returns-in-Exits g c =
    let p = program_of c.args.p.now in
    let here : Place = record { state = g.M.State.View.view c.args.state.now; stack = reverse c.args.stack.now.items } in
    record {
      left = c.in_ok-event.ensures.left;
      end =
          leaves p c.args.invariants.now (g.M.State.View.view c.args.entry.now) here c.args.choice (g.M.State.View.view c.step.new.state)
          (end_is c.in_ok-event.field-0 _ (g.M.State.View.view c.step.new.state) (reverse c.step.new.stack.items) _ c.in-Exits.is c.in_ok-event.ensures.end);
    }

pub returns-then-is_head : goal.returns-then-is_head
returns-then-is_head g c =
    let p = program_of c.args.p.now in
    let here : Place = record { state = g.M.State.View.view c.args.state.now; stack = reverse c.args.stack.now.items } in
    let there : Place = record { state = g.M.State.View.view c.step.new.state; stack = reverse c.step.new.stack.items } in
    record {
      left = c.in_ok-event.ensures.left;
      end =
          lands p c.args.invariants.now (g.M.State.View.view c.args.entry.now) here c.args.choice there true
          (end_is c.in_ok-event.field-0 _ (g.M.State.View.view c.step.new.state) (reverse c.step.new.stack.items) _ c.in-Arrives.is c.in_ok-event.ensures.end)
          (c.if-is_head.ensures ∙ ap (is_head (frame_of p c.args.invariants.now)) c.pc.ensures);
    }

pub returns-else-is_head : goal.returns-else-is_head
returns-else-is_head g c =
    let p = program_of c.args.p.now in
    let here : Place = record { state = g.M.State.View.view c.args.state.now; stack = reverse c.args.stack.now.items } in
    let there : Place = record { state = g.M.State.View.view c.step.new.state; stack = reverse c.step.new.stack.items } in
    record {
      left = c.in_ok-event.ensures.left;
      end =
          lands p c.args.invariants.now (g.M.State.View.view c.args.entry.now) here c.args.choice there false
          (end_is c.in_ok-event.field-0 _ (g.M.State.View.view c.step.new.state) (reverse c.step.new.stack.items) _ c.in-Arrives.is c.in_ok-event.ensures.end)
          (c.if-is_head.ensures ∙ ap (is_head (frame_of p c.args.invariants.now)) c.pc.ensures);
    }
