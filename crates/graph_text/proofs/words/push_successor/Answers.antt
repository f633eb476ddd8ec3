use Rattle.std.proofs.Common.{codes}
use Rattle.word_spec.specs.Texts.{word_text}
use Rattle.bilv_spec.specs.GraphText.{letter_text}
use Rattle.graph_nodes.specs.Graphs.{letter_of}
use Rattle.graph_text.proofs.Texts.{four}
use Rattle.graph_text.proofs.words.push_successor.Goals as goal

pub returns : goal.returns
returns c =
    four c.args.out.now.items c.push_text.new.out.items c.push_text-2.new.out.items c.push_text-3.new.out.items c.push_word.new.out.items
    (codes " ") (letter_text (letter_of c.args.letter)) (codes " ") (word_text c.args.to)
    c.in_ok-push_text.ensures (rw c.letter_text.ensures at c.in_ok-push_text-2.ensures) c.in_ok-push_text-3.ensures c.in_ok-push_word.ensures
