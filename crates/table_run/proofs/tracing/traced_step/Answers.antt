use Rattle.std.proofs.Common.{refl, ◌++◌, subst, sym}
use Rattle.std.specs.Prelude.{reverse}
use Rattle.word_spec.specs.State.{State}
use Rattle.bilv_spec.specs.Run.{Program}
use Rattle.bilv_spec.specs.PointLaws.{ReadsMemory}
use Rattle.state_text.specs.Starts.{event_of}
use Rattle.program_value.specs.Programs.{program_of}
use Rattle.table_run.specs.Traces.{IsReadSet, early_reads}
use Rattle.table_run.proofs.Stepped.{end_is}
use Rattle.table_run.proofs.WholeSteps.{step_stops, step_goes, step_exits}
use Rattle.table_run.proofs.tracing.traced_step.Goals as goal

pub returns-in-Stops : goal.returns-in-Stops
returns-in-Stops g c begun place drawn before over at draws noted =
    let p : Program = program_of c.args.p.now in
    let some = c.read_stage.new.t in
    let more = c.meet_stored.new.t in
    let entry1 : State = g.M.State.View.view some.entry in
    let now1 : State = g.M.State.View.view some.state in
    let memory : ReadsMemory p = record { word = λ s a. refl; little = g.met.M.Machine.lawful.little } in
    let read = subst (IsReadSet p (before ++ early_reads p entry1 now1)) (sym c.in_ok-meet_stored.ensures.read)
    (c.in_ok-read_stage.ensures.read before noted) in
    step_stops p c.requires.lawful memory c.args.model.now.fill c.args.model.now.bytes.now begun c.args.t.now.met some.met more.met
    (g.M.State.View.view c.args.t.now.entry) entry1 (g.M.State.View.view more.entry) (g.M.State.View.view c.args.t.now.state) now1
    (g.M.State.View.view more.state) (reverse c.args.stack.now.items) place over at c.in_ok-read_stage.ensures.fuller c.in_ok-read_stage.ensures.met
    c.in_ok-meet_stored.ensures.fuller c.in_ok-meet_stored.ensures.met (g.met.M.Machine.states some.state) (g.met.M.Machine.states more.state) drawn
    c.args.choice draws before more.read read (event_of c.in-Stops.event)
    (end_is c.in_ok-event.field-0 _ (g.M.State.View.view c.walk.new.state) (reverse c.walk.new.stack.items) _ c.in-Stops.is c.in_ok-event.ensures.end)

pub returns-in-Arrives : goal.returns-in-Arrives
returns-in-Arrives g c begun place drawn before over at draws noted =
    let p : Program = program_of c.args.p.now in
    let some = c.read_stage.new.t in
    let more = c.meet_stored.new.t in
    let entry1 : State = g.M.State.View.view some.entry in
    let now1 : State = g.M.State.View.view some.state in
    let memory : ReadsMemory p = record { word = λ s a. refl; little = g.met.M.Machine.lawful.little } in
    let read = subst (IsReadSet p (before ++ early_reads p entry1 now1)) (sym c.in_ok-meet_stored.ensures.read)
    (c.in_ok-read_stage.ensures.read before noted) in
    step_goes p c.requires.lawful memory c.args.model.now.fill c.args.model.now.bytes.now begun c.args.t.now.met some.met more.met
    (g.M.State.View.view c.args.t.now.entry) entry1 (g.M.State.View.view more.entry) (g.M.State.View.view c.args.t.now.state) now1
    (g.M.State.View.view more.state) (reverse c.args.stack.now.items) place over at c.in_ok-read_stage.ensures.fuller c.in_ok-read_stage.ensures.met
    c.in_ok-meet_stored.ensures.fuller c.in_ok-meet_stored.ensures.met (g.met.M.Machine.states some.state) (g.met.M.Machine.states more.state) drawn
    c.args.choice draws before more.read read (g.M.State.View.view c.walk.new.state) (reverse c.walk.new.stack.items)
    (end_is c.in_ok-event.field-0 _ (g.M.State.View.view c.walk.new.state) (reverse c.walk.new.stack.items) _ c.in-Arrives.is c.in_ok-event.ensures.end)

pub returns-in_ok-read_stage-in-Exits : goal.returns-in_ok-read_stage-in-Exits
returns-in_ok-read_stage-in-Exits g c begun place drawn before over at draws noted =
    let p : Program = program_of c.args.p.now in
    let some = c.read_stage.new.t in
    let more = c.meet_stored.new.t in
    let last = c.read_stage-in-Exits.new.t in
    let entry1 : State = g.M.State.View.view some.entry in
    let now1 : State = g.M.State.View.view some.state in
    let memory : ReadsMemory p = record { word = λ s a. refl; little = g.met.M.Machine.lawful.little } in
    let read = subst (IsReadSet p (before ++ early_reads p entry1 now1)) (sym c.in_ok-meet_stored.ensures.read)
    (c.in_ok-read_stage.ensures.read before noted) in
    step_exits p c.requires.lawful memory c.args.model.now.fill c.args.model.now.bytes.now begun c.args.t.now.met some.met more.met
    (g.M.State.View.view c.args.t.now.entry) entry1 (g.M.State.View.view more.entry) (g.M.State.View.view c.args.t.now.state) now1
    (g.M.State.View.view more.state) (reverse c.args.stack.now.items) place over at c.in_ok-read_stage.ensures.fuller c.in_ok-read_stage.ensures.met
    c.in_ok-meet_stored.ensures.fuller c.in_ok-meet_stored.ensures.met (g.met.M.Machine.states some.state) (g.met.M.Machine.states more.state) drawn
    c.args.choice draws before more.read read (g.M.State.View.view c.walk.new.state) last.met (g.M.State.View.view last.entry)
    (g.M.State.View.view last.state) (reverse c.walk.new.stack.items) c.exit.result last.read
    (end_is c.in_ok-event.field-0 _ (g.M.State.View.view c.walk.new.state) (reverse c.walk.new.stack.items) _ c.in-Exits.is c.in_ok-event.ensures.end)
    c.in_ok-read_stage-in-Exits.ensures.fuller c.in_ok-read_stage-in-Exits.ensures.met (c.exit.ensures (reverse c.walk.new.stack.items))
    (c.in_ok-read_stage-in-Exits.ensures.read (before ++ early_reads p entry1 now1))
