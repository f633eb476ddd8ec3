use Rattle.std.proofs.Common.{sym, ◌∙◌}
use Rattle.program_value.specs.Programs.{program_of}
use Rattle.table_run.proofs.Fillings.{known_only}
use Rattle.table_run.proofs.filling.has_met.Goals as goal

pub returns : goal.returns
returns g c =
    known_only (program_of c.args.p.now) c.args.met.now c.args.a c.is_known.result c.is_known.ensures (sym c.contains.ensures ∙ c.if-contains.false)
