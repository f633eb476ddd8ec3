use Rattle.std.proofs.Common.{◌++◌, ap, ◌∙◌}
use Rattle.word_spec.specs.Texts.{hex_digits}
use Rattle.trace_text.proofs.Growing.{two_pieces}
use Rattle.trace_text.proofs.rows.push_byte.Goals as goal

pub returns : goal.returns
returns c =
    two_pieces c.args.out.now.items _ _ _ c.in_ok-push.ensures.items
    (c.in_ok-push_two_digits.ensures ∙ ap (λ v. c.push.new.self.items ++ hex_digits 2 v) c.byte_behind.ensures)
