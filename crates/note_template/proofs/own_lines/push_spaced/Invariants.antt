use Rattle.std.proofs.Common.{◌≡◌, ◌++◌, drop, map}
use Rattle.word_spec.specs.Texts.{spaced}
use Rattle.note_template.specs.TemplateLines.{token_text}
use Rattle.note_template.specs.Forms.{tokens_view}
use Rattle.note_template.proofs.own_lines.push_spaced.Given as goal

abbrev pub invariant-loop-token : goal.invariant-loop-token
invariant-loop-token l =
    l.initial.out.items ++ spaced (map token_text (tokens_view l.tokens))
    ≡ l.out.items ++ spaced (map token_text (tokens_view (drop l.token-index l.tokens)))
