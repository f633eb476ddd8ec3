use Rattle.std.proofs.Common.{ap, sym, ◌∙◌, ◌∷◌, take}
use Rattle.word_spec.specs.Texts.{split_lines}
use Rattle.line_tokens.proofs.Splitting.{lines_at, line_first, left_behind}
use Rattle.line_tokens.proofs.words.first_line.Goals as goal

pub returns-clause-line : goal.returns-clause-line
returns-clause-line c =
    line_first c.args.text.now c.requires ∙ ap (λ n. lines_at c.args.text.now n) (sym c.count_before-count.ensures.count)
    ∙ ap (λ rest. take c.count_before-count.result c.args.text.now ∷ split_lines rest)
    (sym (left_behind c.args.text.now c.count_before-count.result c.min-end.result c.min-end.ensures))
