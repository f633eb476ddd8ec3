use Rattle.std.proofs.Common.{arith}
use Rattle.std.specs.Prelude.{reverse}
use Rattle.word_spec.specs.Memory.{byte_in}
use Rattle.bilv_spec.specs.Questions.{point_of}
use Rattle.model_spec.specs.Models.{all_reads}
use Rattle.program_value.specs.Programs.{program_of}
use Rattle.table_run.proofs.TracedRuns.{running_first, drawn_there, run_stops, run_exits, run_turns, run_left, run_goes}
use Rattle.table_run.proofs.tracing.follow_model.Goals as goal

pub loop-stack-init : goal.loop-stack-init
loop-stack-init g c = record {
  few = omega arith;
  within = omega arith;
  run = λ r over takes at noted.
      running_first (program_of c.args.p.now) c.args.limits.turns r c.args.t.now.met (g.M.State.View.view c.args.t.now.entry)
      (g.M.State.View.view c.args.t.now.state) c.new-stack.result.items c.args.t.now.read at noted c.new-stack.ensures.items;
}

pub returns-in-Stops : goal.returns-in-Stops
returns-in-Stops g c r over takes at noted =
    let p = program_of c.args.p.now in
    let turns = c.loop-stack.turns in
    let n = c.loop-stack.n in
    let is = c.loop-stack.invariant.run r over takes at noted in
    let new = c.traced_step.new.t in
    run_stops p c.args.limits.turns r c.args.limits.steps turns n c.choice_at-choice.result c.pc-at.result c.loop-stack.invariant.within c.loop-stack.t.met
    (g.M.State.View.view c.loop-stack.t.entry) (g.M.State.View.view c.loop-stack.t.state) (reverse c.loop-stack.stack.items) c.loop-stack.t.read is
    c.pc-at.ensures new.met (g.M.State.View.view new.entry) (g.M.State.View.view new.state) (reverse c.traced_step.new.stack.items) new.read
    c.in_ok-event.field-0
    (c.in_ok-event.ensures r.state is.place (r.choice (point_of turns is.place)) (all_reads p c.args.limits.turns r n) over is.at
    (drawn_there p c.args.limits.turns r (byte_in c.args.choices.now) n turns c.choice_at-choice.result is.place takes is.going c.choice_at-choice.ensures)
    is.noted)
    c.in-Stops.event c.in-Stops.is

pub returns-in-Exits : goal.returns-in-Exits
returns-in-Exits g c r over takes at noted =
    let p = program_of c.args.p.now in
    let turns = c.loop-stack.turns in
    let n = c.loop-stack.n in
    let is = c.loop-stack.invariant.run r over takes at noted in
    let new = c.traced_step.new.t in
    run_exits p c.args.limits.turns r c.args.limits.steps turns n c.choice_at-choice.result c.pc-at.result c.loop-stack.invariant.within c.loop-stack.t.met
    (g.M.State.View.view c.loop-stack.t.entry) (g.M.State.View.view c.loop-stack.t.state) (reverse c.loop-stack.stack.items) c.loop-stack.t.read is
    c.pc-at.ensures new.met (g.M.State.View.view new.entry) (g.M.State.View.view new.state) (reverse c.traced_step.new.stack.items) new.read
    c.in_ok-event.field-0
    (c.in_ok-event.ensures r.state is.place (r.choice (point_of turns is.place)) (all_reads p c.args.limits.turns r n) over is.at
    (drawn_there p c.args.limits.turns r (byte_in c.args.choices.now) n turns c.choice_at-choice.result is.place takes is.going c.choice_at-choice.ensures)
    is.noted)
    c.in-Exits.is

pub returns-in-None : goal.returns-in-None
returns-in-None g c r over takes at noted =
    let p = program_of c.args.p.now in
    let turns = c.loop-stack.turns in
    let n = c.loop-stack.n in
    let is = c.loop-stack.invariant.run r over takes at noted in
    let new = c.traced_step.new.t in
    run_turns p c.args.limits.turns r c.args.limits.steps turns n c.choice_at-choice.result c.pc-at.result c.loop-stack.invariant.within c.loop-stack.t.met
    (g.M.State.View.view c.loop-stack.t.entry) (g.M.State.View.view c.loop-stack.t.state) (reverse c.loop-stack.stack.items) c.loop-stack.t.read is
    c.pc-at.ensures new.met (g.M.State.View.view new.entry) (g.M.State.View.view new.state) (reverse c.traced_step.new.stack.items) new.read
    c.in_ok-event.field-0
    (c.in_ok-event.ensures r.state is.place (r.choice (point_of turns is.place)) (all_reads p c.args.limits.turns r n) over is.at
    (drawn_there p c.args.limits.turns r (byte_in c.args.choices.now) n turns c.choice_at-choice.result is.place takes is.going c.choice_at-choice.ensures)
    is.noted)
    c.in-Arrives.is c.pc.result c.pc.ensures (λ d. c.in-None.ensures.turned n d)

pub returns-then-n-limits : goal.returns-then-n-limits
returns-then-n-limits g c r over takes at noted =
    let p = program_of c.args.p.now in
    let turns = c.loop-stack.turns in
    let n = c.loop-stack.n in
    let is = c.loop-stack.invariant.run r over takes at noted in
    let new = c.traced_step.new.t in
    run_left p c.args.limits.turns r c.args.limits.steps turns n c.choice_at-choice.result c.pc-at.result c.loop-stack.invariant.within c.loop-stack.t.met
    (g.M.State.View.view c.loop-stack.t.entry) (g.M.State.View.view c.loop-stack.t.state) (reverse c.loop-stack.stack.items) c.loop-stack.t.read is
    c.pc-at.ensures new.met (g.M.State.View.view new.entry) (g.M.State.View.view new.state) (reverse c.traced_step.new.stack.items) new.read
    c.in_ok-event.field-0
    (c.in_ok-event.ensures r.state is.place (r.choice (point_of turns is.place)) (all_reads p c.args.limits.turns r n) over is.at
    (drawn_there p c.args.limits.turns r (byte_in c.args.choices.now) n turns c.choice_at-choice.result is.place takes is.going c.choice_at-choice.ensures)
    is.noted)
    c.in-Arrives.is c.pc.result c.pc.ensures c.in-Some.more (λ d. c.in-Some.ensures.turned n d) c.if-n-limits.true

pub loop-stack-preserved : goal.loop-stack-preserved
loop-stack-preserved g c =
    let few = c.loop-stack.invariant.few in
    let within = c.loop-stack.invariant.within in
    let more = c.in-Some.ensures.few in
    let other = c.if-n-limits.false in
    record {
      few = omega arith;
      within = omega arith;
      run = λ r over takes at noted.
          let p = program_of c.args.p.now in
          let turns = c.loop-stack.turns in
          let n = c.loop-stack.n in
          let is = c.loop-stack.invariant.run r over takes at noted in
          let new = c.traced_step.new.t in
          run_goes p c.args.limits.turns r c.args.limits.steps turns n c.choice_at-choice.result c.pc-at.result c.loop-stack.invariant.within c.loop-stack.t.met
          (g.M.State.View.view c.loop-stack.t.entry) (g.M.State.View.view c.loop-stack.t.state) (reverse c.loop-stack.stack.items) c.loop-stack.t.read is
          c.pc-at.ensures new.met (g.M.State.View.view new.entry) (g.M.State.View.view new.state) (reverse c.traced_step.new.stack.items) new.read
          c.in_ok-event.field-0
          (c.in_ok-event.ensures r.state is.place (r.choice (point_of turns is.place)) (all_reads p c.args.limits.turns r n) over is.at
          (drawn_there p c.args.limits.turns r (byte_in c.args.choices.now) n turns c.choice_at-choice.result is.place takes is.going
          c.choice_at-choice.ensures)
          is.noted)
          c.in-Arrives.is c.pc.result c.pc.ensures c.in-Some.more (λ d. c.in-Some.ensures.turned n d);
    }
