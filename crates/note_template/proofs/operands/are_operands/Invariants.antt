use Rattle.std.proofs.Common.{◌≡◌, drop}
use Rattle.std.specs.List.{list_all}
use Rattle.note_template.specs.TemplateLines.{is_operand}
use Rattle.note_template.specs.Views.{machine_of}
use Rattle.note_template.specs.Forms.{tokens_view}
use Rattle.note_template.proofs.operands.are_operands.Given as goal

abbrev pub invariant-loop-token : goal.invariant-loop-token
invariant-loop-token l =
    list_all (is_operand (machine_of l.machine)) (tokens_view l.tokens)
    ≡ list_all (is_operand (machine_of l.machine)) (tokens_view (drop l.token-index l.tokens))
