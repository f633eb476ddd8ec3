use Rattle.std.proofs.Common.{codes}
use Rattle.word_spec.specs.Texts.{hex_digits, word_text}
use Rattle.trace_text.proofs.Growing.{six_pieces}
use Rattle.trace_text.proofs.changes.push_byte_change.Goals as goal

pub returns : goal.returns
returns c =
    six_pieces c.args.out.now.items (codes "  [") (word_text c.args.change.place) (codes "] ") (hex_digits 2 c.args.change.old) (codes " -> ")
    (hex_digits 2 c.args.change.new) _ _ _ _ _ _ c.in_ok-push_text.ensures c.in_ok-push_word.ensures c.in_ok-push_text-2.ensures
    c.in_ok-push_two_digits.ensures c.in_ok-push_text-3.ensures c.in_ok-push_two_digits-2.ensures
