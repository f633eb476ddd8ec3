use Rattle.std.proofs.Common.{refl, ap, sym, ◌∙◌, subst, arith}
use Rattle.word_spec.specs.State.{State}
use Rattle.program_value.specs.Programs.{program_of}
use Rattle.table_run.specs.Traces.{AreMet, stage_reads}
use Rattle.table_run.proofs.Fillings.{fuller_same, fuller_then, not_grown, has_grown}
use Rattle.table_run.proofs.filling.settle.Goals as goal

pub settling-init : goal.settling-init
settling-init g c = record {
  fuller =
      fuller_same (program_of c.args.p.now) c.args.model.now.fill c.args.model.now.bytes.now c.args.t.now.met
      (g.M.State.View.view c.args.t.now.entry) (g.M.State.View.view c.args.t.now.state);
  read = refl;
}

pub settling-preserved : goal.settling-preserved
settling-preserved g c =
    let old = c.args.t.now in
    let some = c.settling.t in
    let new = c.meet_all.new.t in
    record {
      fuller =
          fuller_then (program_of c.args.p.now) c.args.model.now.fill c.args.model.now.bytes.now old.met some.met new.met
          (g.M.State.View.view old.entry) (g.M.State.View.view some.entry) (g.M.State.View.view new.entry) (g.M.State.View.view old.state)
          (g.M.State.View.view some.state) (g.M.State.View.view new.state) c.settling.invariant.fuller c.in_ok-meet_all.ensures.fuller;
      read = c.in_ok-meet_all.ensures.read ∙ c.settling.invariant.read;
    }

pub settling-smaller : goal.settling-smaller
settling-smaller g c =
    let some = c.settling.t in
    let new = c.meet_all.new.t in
    let other = c.if-len-before.false in
    let more =
    has_grown (program_of c.args.p.now) c.args.model.now.fill c.args.model.now.bytes.now some.met new.met (g.M.State.View.view some.entry)
    (g.M.State.View.view new.entry) (g.M.State.View.view some.state) (g.M.State.View.view new.state) c.in_ok-meet_all.ensures.fuller
    (λ same. other (c.len.ensures.len ∙ same ∙ sym c.len-before.ensures.len)) in
    let small = c.len.ensures.small in
    omega arith

pub returns-then-len-before : goal.returns-then-len-before
returns-then-len-before g c =
    let p = program_of c.args.p.now in
    let old = c.args.t.now in
    let some = c.settling.t in
    let new = c.meet_all.new.t in
    let same =
    not_grown p c.args.model.now.fill c.args.model.now.bytes.now some.met new.met (g.M.State.View.view some.entry) (g.M.State.View.view new.entry)
    (g.M.State.View.view some.state) (g.M.State.View.view new.state) c.in_ok-meet_all.ensures.fuller
    (sym c.len.ensures.len ∙ c.if-len-before.true ∙ c.len-before.ensures.len) in
    record {
      fuller =
          fuller_then p c.args.model.now.fill c.args.model.now.bytes.now old.met some.met new.met (g.M.State.View.view old.entry)
          (g.M.State.View.view some.entry) (g.M.State.View.view new.entry) (g.M.State.View.view old.state) (g.M.State.View.view some.state)
          (g.M.State.View.view new.state) c.settling.invariant.fuller c.in_ok-meet_all.ensures.fuller;
      places =
          c.in_ok-places.ensures
          ∙ ap (λ (z : State). stage_reads p c.args.stage z (g.M.State.View.view some.state)) (sym same.1)
          ∙ ap (stage_reads p c.args.stage (g.M.State.View.view new.entry)) (sym same.2);
      met = subst (AreMet p new.met) c.deref.ensures.value c.in_ok-meet_all.ensures.met;
      read = c.in_ok-meet_all.ensures.read ∙ c.settling.invariant.read;
    }
