use Rattle.std.proofs.Common.{◌∙◌, ◌++◌, ap, sym, is_some}
use Rattle.word_spec.specs.Texts.{lines, split_lines}
use Rattle.frame_texts_spec.specs.CallTexts.{body_of}
use Rattle.call_text.proofs.Before.{with_end}
use Rattle.call_text.proofs.reader.before_blocks.Goals as goal

pub returns-then-is_some-clause-text : goal.returns-then-is_some-clause-text
returns-then-is_some-clause-text c =
    with_end (body_of (split_lines c.args.text.now)).lines (is_some c.in_ok-before.before.blocks) c.copy_before.new.out.items c.push_text.new.out.items
    (c.in_ok-before.ensures.text ∙ ap (λ t. t ++ lines (body_of (split_lines c.args.text.now)).lines) c.new-part.ensures.items) c.in_ok-push_text.ensures
    (sym c.is_some.ensures ∙ c.if-is_some.true)
