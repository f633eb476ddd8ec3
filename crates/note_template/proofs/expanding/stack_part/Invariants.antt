use Rattle.std.proofs.Common.{◌≡◌}
use Rattle.note_template.specs.TemplateLines.{parts, stack_part}
use Rattle.note_template.specs.Views.{machine_of}
use Rattle.note_template.proofs.Parting.{parts_left, size_left}
use Rattle.note_template.proofs.expanding.stack_part.Given as goal

abbrev pub invariant-loop-rest : goal.invariant-loop-rest
invariant-loop-rest l =
    stack_part (machine_of l.machine) l.symbols (parts 10 l.template) ≡ stack_part (machine_of l.machine) l.symbols (parts_left 10 l.rest)

abbrev pub decreases-loop-rest : goal.decreases-loop-rest
decreases-loop-rest l = size_left l.rest
