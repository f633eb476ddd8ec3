use Rattle.std.proofs.Common.{◌≡◌, drop}
use Rattle.std.specs.List.{list_all}
use Rattle.note_template.specs.TemplateLines.{is_range}
use Rattle.note_template.specs.Views.{machine_of}
use Rattle.note_template.specs.Forms.{phrases_view}
use Rattle.note_template.proofs.own_lines.are_ranges.Given as goal

abbrev pub invariant-loop-range : goal.invariant-loop-range
invariant-loop-range l =
    list_all (is_range (machine_of l.machine)) (phrases_view l.ranges)
    ≡ list_all (is_range (machine_of l.machine)) (phrases_view (drop l.range-index l.ranges))
