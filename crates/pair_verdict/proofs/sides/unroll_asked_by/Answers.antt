use Rattle.std.proofs.Common.{ℕ, Bool}
use Rattle.std.specs.List.{list_any}
use Rattle.bilv_spec.specs.Points.{HasMore}
use Rattle.bilv_spec.specs.Run.{Program}
use Rattle.links_lang.specs.Views.{links_of}
use Rattle.machine_spec.specs.StateText.{Layout}
use Rattle.notes_value.specs.NoteViews.{notes_of}
use Rattle.pair_spec.specs.Links.{asking, compares_flag}
use Rattle.program_value.specs.Programs.{program_of}
use Rattle.verdict.specs.Measures.{IsUnrolledOf}
use Rattle.verdict.specs.Verdicts.{budget_of}
use Rattle.pair_verdict.proofs.AskedProgram.{asked_unrolled, never_many}
use Rattle.pair_verdict.proofs.MachineOfSide.{from_side, to_side}
use Rattle.pair_verdict.proofs.sides.unroll_asked_by.Goals as goal

pub returns-in-Ok-clause-unrolled : goal.returns-in-Ok-clause-unrolled
returns-in-Ok-clause-unrolled g c =
    let form = g.M.Machine.form in
    let q = c.program-program.result in
    let links = links_of c.args.links.now in
    let asked : ℕ → Bool = λ f. list_any (compares_flag c.args.second f) links in
    let u = c.in-Ok.unrolled in
    let e = c.in-Ok.ensures in
    to_side c.args.side.now (program_of c.program-program.result) g.M.Machine.form c.program-program.ensures c.requires.form
    (λ (p : Program) (f : Layout). IsUnrolledOf (asking c.args.second links p) f (budget_of c.args.budget.now) u)
    (asked_unrolled q.image.now (notes_of q.notes.now) q.entry g.M.Machine.machine form (budget_of c.args.budget.now) g.met.M.Machine.lawful
    g.met.M.Machine.fitted c.bytes.ensures q.over q.placed c.args.budget.now.in_range.points.1 asked u
    (e.unrolled asked c.flags_asked-out.ensures.set) e.formed e.few e.form e.addresses e.layout e.runs e.beyond e.headless e.roots)

pub unreachable-requires : goal.unreachable-requires
unreachable-requires g c =
    let asked : ℕ → Bool = λ f. list_any (compares_flag c.args.second f) (links_of c.args.links.now) in
    let k = c.args.budget.now.unroll in
    let max = c.args.budget.now.points in
    never_many (program_of c.program-program.result) asked k max
    (from_side c.args.side.now (program_of c.program-program.result) g.M.Machine.form c.program-program.ensures c.requires.form
    (λ (p : Program) (f : Layout). HasMore p k max → ⊥) c.requires.few)
    c.unroll_asking.result c.in-Err-TooMany.field-0 c.in-Err-TooMany.field-0-0 (c.unroll_asking.ensures.more asked c.flags_asked-out.ensures.set)
    c.in-Err-TooMany.is c.in-Err-TooMany.field-0-is
