use Rattle.std.proofs.Common.{refl, ◌∙◌, arith}
use Rattle.program_value.specs.Programs.{program_of}
use Rattle.table_run.proofs.Fillings.{fuller_same, fuller_then, met_next, each_met}
use Rattle.table_run.proofs.filling.meet_all.Goals as goal

pub loop-a-init : goal.loop-a-init
loop-a-init g c = record {
  fuller =
      fuller_same (program_of c.args.p.now) c.args.model.now.fill c.args.model.now.bytes.now c.args.t.now.met
      (g.M.State.View.view c.args.t.now.entry) (g.M.State.View.view c.args.t.now.state);
  met = λ k less. absurd (omega arith);
  read = refl;
}

pub loop-a-preserved : goal.loop-a-preserved
loop-a-preserved g c =
    let p = program_of c.args.p.now in
    let old = c.args.t.now in
    let some = c.loop-a.t in
    let new = c.meet.new.t in
    record {
      fuller =
          fuller_then p c.args.model.now.fill c.args.model.now.bytes.now old.met some.met new.met (g.M.State.View.view old.entry)
          (g.M.State.View.view some.entry) (g.M.State.View.view new.entry) (g.M.State.View.view old.state) (g.M.State.View.view some.state) (g.M.State.View.view new.state)
          c.loop-a.invariant.fuller c.in_ok-meet.ensures.fuller;
      met =
          met_next p c.args.model.now.fill c.args.model.now.bytes.now some.met new.met c.args.places.now c.loop-a.a-index _ refl c.in_ok-meet.ensures.met
          c.in_ok-meet.ensures.fuller.keeps c.loop-a.invariant.met;
      read = c.in_ok-meet.ensures.read ∙ c.loop-a.invariant.read;
    }

pub returns-clause-met : goal.returns-clause-met
returns-clause-met g c =
    each_met (program_of c.args.p.now) c.args.model.now.fill c.args.model.now.bytes.now c.loop-a.t.met c.args.places.now
    (λ k less. c.loop-a.invariant.met k (omega arith))
