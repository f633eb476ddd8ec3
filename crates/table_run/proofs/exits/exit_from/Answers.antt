use Rattle.std.proofs.Common.{◌+◌, ◌<◌, arith}
use Rattle.std.specs.Prelude.{reverse}
use Rattle.word_spec.specs.Memory.{byte_in}
use Rattle.bilv_spec.specs.Run.{Place, Arrives}
use Rattle.state_text.specs.Starts.{event_of}
use Rattle.program_value.specs.Programs.{program_of}
use Rattle.table_run.proofs.Founds.{first_run, one_step}
use Rattle.table_run.proofs.Leaving.{exits, no_exit_here, stops, exits_before, turns_before}
use Rattle.table_run.proofs.Stepped.{end_is}
use Rattle.table_run.proofs.exits.exit_from.Goals as goal

pub loop-stack-init : goal.loop-stack-init
loop-stack-init g c = record {
  few = omega arith;
  within = omega arith;
  run =
      first_run (program_of c.args.p.now) (c.args.number + 1)
      (record { state = g.M.State.View.view c.args.entry.now; choices = byte_in c.args.choices.now })
      (g.M.State.View.view c.args.state) c.new-stack.result.items c.requires.same c.new-stack.ensures.items;
}

pub returns-in-Stops-clause-none : goal.returns-in-Stops-clause-none
returns-in-Stops-clause-none g c =
    stops (program_of c.args.p.now)
    (record { state = g.M.State.View.view c.args.entry.now; choices = byte_in c.args.choices.now }) c.args.number c.loop-stack.turns c.loop-stack.n c.choice_at-choice.result c.pc-at.result
    (record { state = g.M.State.View.view c.loop-stack.state; stack = reverse c.loop-stack.stack.items }) c.choice_at-choice.ensures
    c.pc-at.ensures c.loop-stack.invariant.run c.loop-stack.invariant.within (event_of c.in-Stops.field-0)
    (end_is c.in_ok-step.field-0 _ (g.M.State.View.view c.step.new.state) (reverse c.step.new.stack.items) _ c.in-Stops.is c.in_ok-step.ensures.end)

pub returns-then-n-number-clause-some : goal.returns-then-n-number-clause-some
returns-then-n-number-clause-some g c =
    exits (program_of c.args.p.now)
    (record { state = g.M.State.View.view c.args.entry.now; choices = byte_in c.args.choices.now }) c.args.number c.loop-stack.turns c.loop-stack.n c.choice_at-choice.result c.pc-at.result
    (record { state = g.M.State.View.view c.loop-stack.state; stack = reverse c.loop-stack.stack.items }) c.choice_at-choice.ensures
    c.pc-at.ensures c.loop-stack.invariant.run
    c.if-n-number.true (g.M.State.View.view c.step.new.state)
    (end_is c.in_ok-step.field-0 _ (g.M.State.View.view c.step.new.state) (reverse c.step.new.stack.items) _ c.in-Exits.is c.in_ok-step.ensures.end)

pub returns-in-Exits-clause-none : goal.returns-in-Exits-clause-none
returns-in-Exits-clause-none g c =
    let within = c.loop-stack.invariant.within in
    let other = c.if-n-number.false in
    exits_before (program_of c.args.p.now)
    (record { state = g.M.State.View.view c.args.entry.now; choices = byte_in c.args.choices.now }) c.args.number c.loop-stack.turns c.loop-stack.n c.choice_at-choice.result c.pc-at.result
    (record { state = g.M.State.View.view c.loop-stack.state; stack = reverse c.loop-stack.stack.items }) c.choice_at-choice.ensures
    c.pc-at.ensures c.loop-stack.invariant.run
    (let below : c.loop-stack.n < c.args.number = omega (arith, within, other) in below) (g.M.State.View.view c.step.new.state)
    (end_is c.in_ok-step.field-0 _ (g.M.State.View.view c.step.new.state) (reverse c.step.new.stack.items) _ c.in-Exits.is c.in_ok-step.ensures.end)

pub returns-then-n-number-2-clause-none : goal.returns-then-n-number-2-clause-none
returns-then-n-number-2-clause-none g c =
    let d : Place = record { state = g.M.State.View.view c.step.new.state; stack = reverse c.step.new.stack.items } in
    no_exit_here (program_of c.args.p.now)
    (record { state = g.M.State.View.view c.args.entry.now; choices = byte_in c.args.choices.now }) c.args.number c.loop-stack.turns c.loop-stack.n c.choice_at-choice.result c.pc-at.result
    (record { state = g.M.State.View.view c.loop-stack.state; stack = reverse c.loop-stack.stack.items }) c.choice_at-choice.ensures
    c.pc-at.ensures c.loop-stack.invariant.run
    c.if-n-number-2.true (Arrives d) tt
    (end_is c.in_ok-step.field-0 _ (g.M.State.View.view c.step.new.state) (reverse c.step.new.stack.items) _ c.in-Arrives.is c.in_ok-step.ensures.end)

pub returns-in-None-clause-none : goal.returns-in-None-clause-none
returns-in-None-clause-none g c =
    let within = c.loop-stack.invariant.within in
    let other = c.if-n-number-2.false in
    let d : Place = record { state = g.M.State.View.view c.step.new.state; stack = reverse c.step.new.stack.items } in
    turns_before (program_of c.args.p.now)
    (record { state = g.M.State.View.view c.args.entry.now; choices = byte_in c.args.choices.now }) c.args.number c.loop-stack.turns c.loop-stack.n c.choice_at-choice.result c.pc-at.result
    (record { state = g.M.State.View.view c.loop-stack.state; stack = reverse c.loop-stack.stack.items }) c.choice_at-choice.ensures
    c.pc-at.ensures c.loop-stack.invariant.run
    (let below : c.loop-stack.n < c.args.number = omega (arith, within, other) in below) d c.pc.result c.pc.ensures
    (end_is c.in_ok-step.field-0 _ (g.M.State.View.view c.step.new.state) (reverse c.step.new.stack.items) _ c.in-Arrives.is c.in_ok-step.ensures.end)
    (c.in-None.ensures.turned c.loop-stack.n d)

pub loop-stack-preserved : goal.loop-stack-preserved
loop-stack-preserved g c =
    let few = c.loop-stack.invariant.few in
    let within = c.loop-stack.invariant.within in
    let more = c.in-Some.ensures.few in
    let other = c.if-n-number-2.false in
    let d : Place = record { state = g.M.State.View.view c.step.new.state; stack = reverse c.step.new.stack.items } in
    record {
      few = omega arith;
      within = omega arith;
      run =
          one_step (program_of c.args.p.now) (c.args.number + 1)
          (record { state = g.M.State.View.view c.args.entry.now; choices = byte_in c.args.choices.now })
          c.loop-stack.turns c.loop-stack.n c.args.number c.choice_at-choice.result c.pc-at.result
          (record { state = g.M.State.View.view c.loop-stack.state; stack = reverse c.loop-stack.stack.items }) c.choice_at-choice.ensures
          c.pc-at.ensures c.loop-stack.invariant.run d c.pc.result c.pc.ensures
          (end_is c.in_ok-step.field-0 _ (g.M.State.View.view c.step.new.state) (reverse c.step.new.stack.items) _ c.in-Arrives.is c.in_ok-step.ensures.end)
          c.in-Some.more (c.in-Some.ensures.turned c.loop-stack.n d);
    }
