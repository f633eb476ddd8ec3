use Rattle.std.proofs.Common.{◌≡◌, ◌++◌, drop, map}
use Rattle.std.specs.List.{concat}
use Rattle.note_template.specs.TemplateLines.{range_text}
use Rattle.note_template.specs.Views.{machine_of}
use Rattle.note_template.specs.Forms.{phrases_view}
use Rattle.note_template.proofs.own_lines.push_ranges.Given as goal

abbrev pub invariant-loop-range : goal.invariant-loop-range
invariant-loop-range l =
    l.initial.out.items ++ concat (map (range_text (machine_of l.machine)) (phrases_view l.ranges))
    ≡ l.out.items ++ concat (map (range_text (machine_of l.machine)) (phrases_view (drop l.range-index l.ranges)))
