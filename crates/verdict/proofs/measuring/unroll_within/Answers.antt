use Rattle.notes_value.specs.NoteViews.{notes_of}
use Rattle.verdict.specs.Verdicts.{budget_of}
use Rattle.verdict.proofs.Grounding.{unrolled_within}
use Rattle.verdict.proofs.measuring.unroll_within.Goals as goal

pub returns-clause-unrolled : goal.returns-clause-unrolled
returns-clause-unrolled g c =
    unrolled_within c.args.program.now.image.now (notes_of c.args.program.now.notes.now) c.args.program.now.entry g.M.Machine.machine g.M.Machine.form
    (budget_of c.args.budget.now) g.met.M.Machine.lawful g.met.M.Machine.fitted c.bytes.ensures c.args.program.now.over
    c.args.program.now.placed c.args.budget.now.in_range.points.1 c.unroll.result
    c.unroll.ensures.unrolled c.unroll.ensures.formed c.unroll.ensures.few c.unroll.ensures.form c.unroll.ensures.addresses c.unroll.ensures.layout
    c.unroll.ensures.runs c.unroll.ensures.beyond c.unroll.ensures.headless c.unroll.ensures.roots
