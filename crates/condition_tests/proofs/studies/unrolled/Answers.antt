use Rattle.std.proofs.Common.{arith}
use Rattle.std.proofs.lemmas.Result.{IfOk-weaker}
use Rattle.notes_value.specs.NoteViews.{notes_of}
use Rattle.verdict.proofs.Grounding.{unrolled_within}
use Rattle.condition_tests.proofs.studies.unrolled.Goals as goal

pub returns : goal.returns
returns g c =
    IfOk-weaker c.unroll.result _ _ (λ u h. h.measurable)
    (unrolled_within c.args.program.now.image.now (notes_of c.args.program.now.notes.now) c.args.program.now.entry g.M.Machine.machine g.M.Machine.form
    (record { unroll = c.args.k; points = 65536; size = 1; conflicts = 1 }) g.met.M.Machine.lawful g.met.M.Machine.fitted
    c.bytes.ensures c.args.program.now.over c.args.program.now.placed (omega arith)
    c.unroll.result c.unroll.ensures.unrolled c.unroll.ensures.formed c.unroll.ensures.few c.unroll.ensures.form c.unroll.ensures.addresses
    c.unroll.ensures.layout c.unroll.ensures.runs c.unroll.ensures.beyond c.unroll.ensures.headless c.unroll.ensures.roots)
