use Rattle.std.proofs.Common.{refl, sym, subst}
use Rattle.std.specs.Prelude.{reverse}
use Rattle.bilv_spec.specs.Run.{Place, Stops, Arrives, Exits, exit}
use Rattle.state_text.specs.Starts.{event_of}
use Rattle.program_value.specs.Programs.{program_of}
use Rattle.table_run.specs.Steps.{IsStepEnd}
use Rattle.table_run.proofs.Stepped.{end_is}
use Rattle.table_run.proofs.Unjudged.{judged_same}
use Rattle.table_run.proofs.steps.step.Goals as goal

pub returns-in-Stops : goal.returns-in-Stops
returns-in-Stops g c =
    record {
      left = c.in_ok-event.ensures.left;
      end =
          judged_same (program_of c.args.p.now) (g.M.State.View.view c.args.entry.now)
          (record { state = g.M.State.View.view c.args.state.now; stack = reverse c.args.stack.now.items }) c.args.choice
          (Stops (event_of c.in-Stops.event)) (Stops (event_of c.in-Stops.event))
          (end_is c.in_ok-event.field-0 _ (g.M.State.View.view c.walk.new.state) (reverse c.walk.new.stack.items) _
          c.in-Stops.is c.in_ok-event.ensures.end) refl;
    }

pub returns-in-Arrives : goal.returns-in-Arrives
returns-in-Arrives g c =
    let there : Place = record { state = g.M.State.View.view c.walk.new.state; stack = reverse c.walk.new.stack.items } in
    record {
      left = c.in_ok-event.ensures.left;
      end =
          judged_same (program_of c.args.p.now) (g.M.State.View.view c.args.entry.now)
          (record { state = g.M.State.View.view c.args.state.now; stack = reverse c.args.stack.now.items }) c.args.choice (Arrives there) (Arrives there)
          (end_is c.in_ok-event.field-0 _ (g.M.State.View.view c.walk.new.state) (reverse c.walk.new.stack.items) _
          c.in-Arrives.is c.in_ok-event.ensures.end) refl;
    }

pub returns-in-Exits : goal.returns-in-Exits
returns-in-Exits g c =
    let p = program_of c.args.p.now in
    let entry = g.M.State.View.view c.args.entry.now in
    let new = g.M.State.View.view c.walk.new.state in
    record {
      left = c.in_ok-event.ensures.left;
      end =
          subst (IsStepEnd c.exit.result new (reverse c.walk.new.stack.items))
          (sym (judged_same p entry (record { state = g.M.State.View.view c.args.state.now; stack = reverse c.args.stack.now.items }) c.args.choice (Exits new)
          (exit p entry new)
          (end_is c.in_ok-event.field-0 _ new (reverse c.walk.new.stack.items) _ c.in-Exits.is c.in_ok-event.ensures.end) refl))
          (c.exit.ensures (reverse c.walk.new.stack.items));
    }
