use Rattle.std.proofs.Common.{ap, ◌∙◌, ◌++◌, codes}
use Rattle.word_spec.specs.Texts.{number_text, word_text}
use Rattle.state_text.proofs.Appends.{five}
use Rattle.call_text.proofs.Pieces.{call_line_is}
use Rattle.call_text.proofs.printer.push_call_line.Goals as goal

pub returns : goal.returns
returns c =
    five c.args.out.now.items c.push_text.new.out.items c.push_number.new.out.items c.push_text-2.new.out.items c.push_word.new.out.items
    c.push_text-3.new.out.items (codes "call ") (number_text c.args.step) (codes " ") (word_text c.args.at) (codes "\n")
    c.in_ok-push_text.ensures c.in_ok-push_number.ensures c.in_ok-push_text-2.ensures c.in_ok-push_word.ensures c.in_ok-push_text-3.ensures
    ∙ ap (λ l. c.args.out.now.items ++ l) (call_line_is (number_text c.args.step) (word_text c.args.at))
