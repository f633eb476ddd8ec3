use Rattle.std.proofs.Common.{ap, sym, ◌∙◌}
use Rattle.note_template.specs.TemplateLines.{expanded}
use Rattle.note_template.specs.Views.{machine_of}
use Rattle.suite_notes.proofs.Plain.{why_found}
use Rattle.suite_notes.proofs.expanding.expanded.Goals as goal

pub returns-in-Err-Refused : goal.returns-in-Err-Refused
returns-in-Err-Refused c =
    let e = c.in-Err-Refused in
    let m = machine_of c.args.machine in
    let template = c.args.template.now in
    let text = c.in_ok-text-in-Err-Refused in
    let found = why_found (expanded m c.in-Ok.symbols template) e.line e.column e.refusal text.text.items (rw e.field-0-is at e.ensures.refused) text.ensures in
    (c.in-Ok.ensures.accepted, found.0, ap (λ t. expanded m t template) (sym c.in-Ok.ensures.table) ∙ found.1, found.2)
