use Rattle.std.proofs.Common.{sym, ◌∙◌, subst, ◌++◌}
use Rattle.program_value.specs.Programs.{program_of}
use Rattle.table_run.specs.Traces.{AreMet, IsReadSet}
use Rattle.table_run.proofs.filling.read_stage.Goals as goal

pub returns-clause-met : goal.returns-clause-met
returns-clause-met g c =
    subst (AreMet (program_of c.args.p.now) c.settle.new.t.met) c.in_ok-places.ensures.places c.in_ok-places.ensures.met

pub returns-clause-read : goal.returns-clause-read
returns-clause-read g c before is =
    let p = program_of c.args.p.now in
    subst (λ z. IsReadSet p (before ++ z) c.note_read.new.read) (c.deref.ensures.value ∙ c.in_ok-places.ensures.places)
    (c.in_ok-note_read.ensures before (subst (IsReadSet p before) (sym c.in_ok-places.ensures.read) is))
