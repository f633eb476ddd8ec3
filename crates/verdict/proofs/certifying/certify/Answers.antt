use Rattle.std.proofs.Common.{refl}
use Rattle.program_value.specs.Programs.{program_of}
use Rattle.verdict.proofs.certifying.certify.Goals as goal

pub returns-in_ok-certified-in-Ok : goal.returns-in_ok-certified-in-Ok
returns-in_ok-certified-in-Ok g c =
    c.in_ok-certified-in-Ok.ensures (program_of c.args.program.now) g.M.Machine.form
    (record { word = λ s a. refl; little = g.met.M.Machine.lawful.little }) c.in-Ok.ensures.unrolled
