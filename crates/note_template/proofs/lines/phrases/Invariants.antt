use Rattle.std.proofs.Common.{◌≡◌, ◌++◌, map}
use Rattle.note_template.specs.Templates.{tokens_in}
use Rattle.note_template.specs.TemplateLines.{phrases}
use Rattle.note_template.specs.Forms.{phrases_view}
use Rattle.note_template.proofs.Parting.{parts_left, size_left}
use Rattle.note_template.proofs.lines.phrases.Given as goal

abbrev pub invariant-loop-rest : goal.invariant-loop-rest
invariant-loop-rest l = phrases l.fn.text ≡ phrases_view l.out.items ++ map tokens_in (parts_left 44 l.rest)

abbrev pub decreases-loop-rest : goal.decreases-loop-rest
decreases-loop-rest l = size_left l.rest
