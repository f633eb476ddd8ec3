use Rattle.std.proofs.Common.{ap, ◌∙◌, ◌++◌, codes}
use Rattle.word_spec.specs.Texts.{word_text}
use Rattle.state_text.proofs.Appends.{four}
use Rattle.frame_text.proofs.Pieces.{address_line}
use Rattle.frame_text.proofs.printer.push_address_line.Goals as goal

pub returns : goal.returns
returns c =
    four c.args.out.now.items c.push_text.new.out.items c.push_text-2.new.out.items c.push_word.new.out.items c.push_text-3.new.out.items
    c.args.word.now (codes " ") (word_text c.args.at) (codes "\n")
    c.in_ok-push_text.ensures c.in_ok-push_text-2.ensures c.in_ok-push_word.ensures c.in_ok-push_text-3.ensures
    ∙ ap (λ l. c.args.out.now.items ++ l) (address_line c.args.word.now c.args.at)
