use Rattle.std.proofs.Common.{refl, ap, ◌∙◌, ◌++◌}
use Rattle.std.specs.Option.{option_map}
use Rattle.machine_spec.specs.Machine.{Row, addresses}
use Rattle.program_value.specs.Programs.{program_of}
use Rattle.table_run.proofs.Fillings.{fuller_same, stored_none, stored_some}
use Rattle.table_run.proofs.filling.meet_stored.Goals as goal

pub returns-in-None : goal.returns-in-None
returns-in-None g c =
    let p = program_of c.args.p.now in
    let old = c.args.t.now in
    let entry = g.M.State.View.view old.entry in
    let now = g.M.State.View.view old.state in
    record {
      fuller = fuller_same p c.args.model.now.fill c.args.model.now.bytes.now old.met entry now;
      met =
          stored_none p c.args.model.now.fill c.args.model.now.bytes.now old.met entry now (option_map g.M.Machine.row c.reached.result) c.reached.ensures
          (ap (option_map g.M.Machine.row) c.in-None.is);
      read = refl;
    }

pub returns-clause-met : goal.returns-clause-met
returns-clause-met g c =
    let p = program_of c.args.p.now in
    let old = c.args.t.now in
    let row : Row = g.M.Machine.row c.in-Some.insn in
    let now = g.M.State.View.view old.state in
    stored_some p c.args.model.now.fill c.args.model.now.bytes.now c.meet_all.new.t.met (g.M.State.View.view old.entry) now
    (option_map g.M.Machine.row c.reached.result) row c.deref.result.now c.reached.ensures (ap (option_map g.M.Machine.row) c.in-Some.is)
    (c.deref.ensures.value ∙ c.in_ok-add_bytes.ensures ∙ ap (λ z. z ++ addresses c.stored.result) c.new-places.ensures.items
    ∙ ap addresses c.stored.ensures)
    c.in_ok-meet_all.ensures.met
