use Rattle.std.proofs.Common.{refl, ap, sym, ◌∙◌, length, arith}
use Rattle.std.specs.Prelude.{not}
use Rattle.word_spec.specs.Memory.{Little, store}
use Rattle.word_spec.specs.State.{State}
use Rattle.machine_spec.specs.MachineLaws.{with_memory}
use Rattle.program_value.specs.Programs.{program_of}
use Rattle.table_run.proofs.Fillings.{unmet, fuller_same, fuller_put, one_larger, met_new}
use Rattle.table_run.proofs.filling.meet.Goals as goal

pub returns-then-has_met : goal.returns-then-has_met
returns-then-has_met g c = record {
  fuller =
      fuller_same (program_of c.args.p.now) c.args.model.now.fill c.args.model.now.bytes.now c.args.t.now.met
      (g.M.State.View.view c.args.t.now.entry) (g.M.State.View.view c.args.t.now.state);
  met = sym c.has_met.ensures ∙ c.if-has_met.true;
  read = refl;
}

pub returns : goal.returns
returns g c =
    let p = program_of c.args.p.now in
    let fill = c.args.model.now.fill in
    let bytes = c.args.model.now.bytes.now in
    let old = c.args.t.now in
    let a = c.args.a in
    let byte = c.byte_of-byte.result in
    let away = sym c.has_met.ensures ∙ c.if-has_met.false in
    let new = c.in_ok-insert.ensures.added ∙ ap not (unmet p fill bytes old.met a away).1 in
    record {
      fuller =
          fuller_put p fill bytes old.met c.insert.new.self (g.M.State.View.view old.entry) (g.M.State.View.view c.put.new.state)
          (g.M.State.View.view old.state) (g.M.State.View.view c.put-2.new.state) a byte (omega arith) (omega arith) away c.in_ok-insert.ensures.updates.0
          (one_larger p fill bytes _ (length c.insert.new.self.keys) (length old.met.keys) new c.in_ok-insert.ensures.len) c.byte_of-byte.ensures
          (c.put.ensures.view ∙ ap (λ (z : State). with_memory z (store Little 1 z.mem a byte)) c.in_ok-reserve.ensures.same)
          (c.put-2.ensures.view ∙ ap (λ (z : State). with_memory z (store Little 1 z.mem a byte)) c.in_ok-reserve-2.ensures.same);
      met = met_new p fill bytes old.met c.insert.new.self a c.in_ok-insert.ensures.updates.0;
      read = refl;
    }
