use Rattle.std.proofs.Common.{◌≡◌, ◌+◌, ◌≤◌, length}
use Rattle.note_template.specs.Templates.{behind}
use Rattle.note_template.specs.TemplateLines.{lines_for, parts}
use Rattle.note_template.specs.Views.{machine_of}
use Rattle.note_template.proofs.expanding.lines_for.Given as goal

abbrev pub invariant-lines : goal.invariant-lines
invariant-lines l = record {
  said : lines_for (machine_of l.machine) l.symbols l.stack 1 (parts 10 l.template)
      ≡ behind l.out.items (lines_for (machine_of l.machine) l.symbols l.stack l.number (parts 10 l.left));
  few : l.number + length l.left ≤ length l.template + 1;
}

abbrev pub decreases-lines : goal.decreases-lines
decreases-lines l = length l.left
